-- The children of a sheet. Document 02, l): "Prove also that the children of a sheet at each scale made from it share no point, fill it, and
-- have areas that add up to its own." The claim is `EachSheetIsFilled`, at the end; the theorem is `each-sheet-is-filled` in
-- proofs/ChildrenTheorems. Nothing here is part of a promise.
use Rattle.std.specs.Prelude.{ℕ, ◌+◌, ◌*◌, ◌≡◌, true, ◌↔◌, ℤ, nat_abs, ◌-ℤ◌, length}
use mathlib.Core.List.{List, [], ◌∷◌, flat_map, Memᴰ}
use Rattle.refusal.specs.Paper.{Paper, answer, refused}
use Rattle.division.specs.Words.{from}
use Rattle.division.specs.Table.{is_scale, parent_scale, parts}
use Rattle.division.specs.Sheet.{is_sheet, scale_of, ground_of}
use Rattle.relations.specs.Relations.{child}
use Rattle.nests.specs.Nesting.{Has, Share, LiesIn}

-- what is answered, as a list: of a refusal none
abbrev pub list_of : Paper ℕ → List ℕ
list_of (answer k) = k ∷ []
list_of (refused number value) = []

-- the children of sheet n at scale s, by their numbers in it
unfoldable pub children : ℕ → ℕ → List ℕ
children n s = flat_map (λ number. list_of (child n s number)) (from 1 (parts s))

-- the area of a sheet in square millimetres, by its corners; and of sheets, added up
abbrev pub area_of : ℕ → ℕ
area_of k = nat_abs ((ground_of k).east -ℤ (ground_of k).west) * nat_abs ((ground_of k).north -ℤ (ground_of k).south)

unfoldable pub areas : List ℕ → ℕ
areas [] = 0
areas (k ∷ l) = area_of k + areas l

-- of sheet n and a scale that is made from its scale
pub record ChildrenFill (n s : ℕ) : Type 0 where
  -- the list has every child and nothing else, each once
  pub each : (k : ℕ) → Memᴰ k (children n s) ↔ ((number : ℕ) × (child n s number ≡ answer k))
  pub count : length (children n s) ≡ parts s
  -- they "share no point": two that do have the same number in the sheet
  pub apart : (i j a b : ℕ) → child n s i ≡ answer a → child n s j ≡ answer b → Share a b → i ≡ j
  -- each lies in the sheet
  pub inside : (number k : ℕ) → child n s number ≡ answer k → LiesIn k n
  -- they "fill it": each of its points is in one of them
  pub fill : (e y : ℤ) → Has n e y → (number : ℕ) × (k : ℕ) × (child n s number ≡ answer k) × Has k e y
  -- they "have areas that add up to its own"
  pub add-up : areas (children n s) ≡ area_of n

abbrev pub EachSheetIsFilled : Type 0
EachSheetIsFilled = (n s : ℕ) → is_sheet n ≡ true → is_scale s ≡ true → parent_scale s ≡ scale_of n → ChildrenFill n s
