-- The words of the theorems on local numbers. Nothing here is part of a promise.
use Rattle.std.specs.Prelude.{ℕ, ◌<◌, ◌≡◌, true, ◌⊎◌, List}
use Rattle.refusal.specs.Paper.{answer}
use Rattle.refusal.specs.Numbers.{is_in}
use Rattle.division.specs.Sheet.{place_of}
use Rattle.relations.specs.Relations.{child}

-- "every sheet of the municipality at scales 7, 8 and 9": a sheet of the list, its parts at 1:1 000, and theirs at 1:500
pub data SheetOf (sheets : List ℕ) (k : ℕ) : Type 0 where
  listed : is_in sheets k ≡ true → SheetOf sheets k
  quarter : (top a : ℕ) → is_in sheets top ≡ true → child top 8 a ≡ answer k → SheetOf sheets k
  sixteenth : (top up a b : ℕ) → is_in sheets top ≡ true → child top 8 a ≡ answer up → child up 9 b ≡ answer k → SheetOf sheets k

-- on the whole grid of its scale sheet j stands before sheet k: in a row further north, or in the same row further west
abbrev pub Before : ℕ → ℕ → Type 0
Before j k = ((place_of j).row < (place_of k).row) ⊎ (((place_of j).row ≡ (place_of k).row) × ((place_of j).column < (place_of k).column))
