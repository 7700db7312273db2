-- Reading a shelf list. Document 01, "Shelf list"; document 02, g).
use Rattle.std.specs.Prelude.{ℕ, zero, suc, ◌+◌, ◌≡◌, cond, List, [], ◌∷◌, ◌++◌, map, length, drop}
use Rattle.refusal.specs.Paper.{Paper, answer, refused, refuse◌unless◌, room_for}
use Rattle.refusal.specs.Numbers.{paper}
use Rattle.division.specs.Words.{◌≤?◌, ◌=?◌}
use Rattle.shelf.specs.Number.{Number, read_number}
use Rattle.shelf.specs.Kind.{Kind, of_sheets, of_holdings}
use Rattle.shelf.specs.declared.Read.{Read}

-- how reading ends, and the numbers that it has placed
pub record Reading : Type 0 where
  pub ended : Paper Unit
  pub placed : List ℕ

abbrev pub stop : Paper Unit → Reading
stop ended = record { ended = ended; placed = [] }

abbrev pub place_then : ℕ → Reading → Reading
place_then number later = record { ended = later.ended; placed = number ∷ later.placed }

-- a refusal stops the reading; else it goes on
infixr 1 ◌then_read◌
abbrev pub ◌then_read◌ : {A : Type 0} → Paper A → (A → Reading) → Reading
answer a then_read next = next a
refused number value then_read next = stop (refused number value)

-- ---- a list of any kind (specs/Kind); where document 01 says "sheet", it is a number of that kind

module _ (kind : Kind) where
  -- "Each entry then gives 11, 12, 13 or a sheet. After the last entry, more bytes give 14"; of holdings "24 .. after 13 in reading"
  unfoldable pub entries_in : ℕ → ℕ → List ℕ → Reading
  entries_in zero least bytes = stop (refuse 14 unless length bytes =? 0)
  entries_in (suc more) least bytes =
      read_number bytes then_read λ gap.
      kind.judge 13 (least + gap.value) then_read λ fine.
      place_then (least + gap.value) (entries_in more (least + gap.value + 1) gap.rest)

  -- "Then a count over 4 096 gives 12, and a count above the lent room gives 10": what is behind the first number
  unfoldable pub behind_in : Number → ℕ → Reading
  behind_in first room =
      kind.count first.value then_read λ count.
      room_for count room then_read λ fine.
      entries_in count 0 first.rest

  unfoldable pub read_in : List ℕ → ℕ → Reading
  read_in bytes room = read_number bytes then_read λ first. behind_in first room

-- ---- document 01's lists are those of sheets

abbrev pub read_list : List ℕ → ℕ → Reading
read_list = read_in of_sheets

-- ---- document 02's reader takes both kinds

-- "The new reader takes both": the kind that a first number tells. "its first number may be 0 to 4 096 or 8 192 to 12 288, and any other is
-- 12" is what the two kinds say of it, each in its `count`
unfoldable pub kind_told : ℕ → Kind
kind_told first = cond (8_192 ≤? first) of_holdings of_sheets

-- each number that is placed as something else
abbrev pub each_as : (ℕ → ℕ) → Reading → Reading
each_as f reading = record { ended = reading.ended; placed = map f reading.placed }

-- ".. an old entry as product 0": each number as the holding that it stands for
unfoldable pub read_holdings : List ℕ → ℕ → Reading
read_holdings bytes room =
    read_number bytes then_read λ first.
    let kind = kind_told first.value in
    each_as kind.holds (behind_in kind first room)

-- ---- what either reader leaves

-- "all places beyond them keep their values"
abbrev pub room_after_read : Reading → List ℕ → List ℕ
room_after_read reading room = reading.placed ++ drop (length reading.placed) room

-- the reader's answer on paper: "always carries how many sheets it placed"
pub record IsRead (reading : Reading) (answer : Read) : Type 0 where
  pub ended : paper answer.ended ≡ reading.ended
  pub placed : answer.placed ≡ length reading.placed
