-- Sheet to name, and name to sheet. Document 02, d).
use Rattle.std.specs.Prelude.{ℕ, Bool, false, cond, List, [], ◌∷◌, length}
use Rattle.std.specs.Prelude.{Option, Some, None, option_map, option_and_then, unwrap_or}
use Rattle.refusal.specs.Paper.{Paper, answer, refused, refuse◌unless◌, ◌>>◌, ◌>>=◌, laid}
use Rattle.division.specs.Words.{◌=?◌}
use Rattle.division.specs.Sheet.{is_sheet, scale_of}
use Rattle.label.specs.Label.{read_label}
use Rattle.names.specs.Name.{is_same_name}
use Rattle.official.specs.List.{Row, official}

-- the first of a list that passes a test, or none
unfoldable pub find : {A : Type 0} → (A → Bool) → List A → Option A
find test [] = None
find test (x ∷ xs) = cond (test x) (Some x) (find test xs)

-- the answer of a question, none where it is refused
abbrev pub answered : Paper ℕ → Option ℕ
answered (answer n) = Some n
answered (refused number value) = None

-- the sheet that a row's label names
unfoldable pub sheet_in : Row → Option ℕ
sheet_in row = answered (read_label row.label)

infix 50 ◌is?◌
abbrev pub ◌is?◌ : Option ℕ → ℕ → Bool
None is? n = false
Some m is? n = m =? n

-- "sheet to name". "A sheet without a name in that list, or a name it doesn't hold, answers not listed": none
unfoldable pub name_of : ℕ → Option (List ℕ)
name_of n = option_map (λ row. row.name) (find (λ row. sheet_in row is? n) official)

-- "name to sheet by the comparison of c)"
unfoldable pub sheet_called : List ℕ → Option ℕ
sheet_called name = option_and_then sheet_in (find (λ row. is_same_name name row.name) official)

-- "a 1:250 000 sheet" is one of scale 1
abbrev pub is250000 : ℕ → Bool
is250000 n = scale_of n =? 1

-- "22, not a 1:250 000 sheet, after 3 ..; a sheet's name is written into lent room, 10 last"; of "not listed" nothing is written
unfoldable pub write_name : ℕ → ℕ → Paper (List ℕ)
write_name n room = do
  refuse 3 unless is_sheet n
  refuse 22 unless is250000 n
  laid (unwrap_or (name_of n) []) room

-- what is answered then: how many bytes the name has, or not listed
unfoldable pub name_told : ℕ → ℕ → Paper (Option ℕ)
name_told n room = do
  written ← write_name n room
  answer (option_map length (name_of n))
