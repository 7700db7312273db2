-- What the inner functions take for granted: the public ones test it first.
use Rattle.std.specs.Prelude.{ℕ, ◌+◌, ◌/◌, ◌%◌, ◌≤◌, ◌<◌, ◌≡◌, true, List, [], ◌∷◌, length}
use Rattle.division.specs.Sheet.{is_sheet, scale_of}
use Rattle.division.specs.Given.{Indexed}
use Rattle.label.specs.Given.{behind, index_fields}

-- the fields of an index of the area in columns, and room for them
abbrev pub area_fields : ℕ → ℕ → List ℕ
area_fields c i = (101 + i / c) ∷ (1 + i % c) ∷ []

pub record AreaRoom (c i at room : ℕ) : Type 0 where
  pub some : 0 < c
  pub few-row : 101 + i / c < 1_000
  pub few-column : 1 + i % c < 1_000
  pub fits : at + length (behind (area_fields c i)) ≤ room

-- an index of a scale, and room for its fields
pub record Room (s i at room : ℕ) : Type 0 where
  pub indexed : Indexed s i
  pub fits : at + length (behind (index_fields s i)) ≤ room

-- a sheet of a scale
pub record IsSheetOf (s n : ℕ) : Type 0 where
  pub sheet : is_sheet n ≡ true
  pub scale : s ≡ scale_of n
