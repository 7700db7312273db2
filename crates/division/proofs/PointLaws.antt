-- A point of the area lies in one row and one column of each scale. Assumes nothing.
use mathlib.Core.Path.{◌≡◌, sym, ap, ◌∙◌}
use mathlib.Core.Bool.{true, ◌&&◌}
use Prim.Native.Nat.{ℕ}
use lib.IntN.{ℤ}
use mir.Syntax.{w64}
use mir.Val.{SFits, to_z, of_z}
use Rattle.division.specs.Words.{◌≤ᶻ◌, ◌<ᶻ◌}
use Rattle.division.specs.Grid.{area, owns, column_at, row_at}
use Rattle.division.specs.Given.{IsScale, OnGrid, Inside, sheet_under}
use Rattle.division.proofs.TestLaws.{both, back}
use Rattle.division.proofs.GridLaws.{East, North, east, north, column-in, row_in}

-- the four tests of ownership, one by one
pub record Owned (w e s n x y : ℤ) : Type 0 where
  pub west : (w ≤ᶻ x) ≡ true
  pub east : (x <ᶻ e) ≡ true
  pub south : (s <ᶻ y) ≡ true
  pub north : (y ≤ᶻ n) ≡ true

pub owned : (w e s n x y : ℤ) → ((w ≤ᶻ x && x <ᶻ e) && (s <ᶻ y && y ≤ᶻ n)) ≡ true → Owned w e s n x y
owned w e s n x y o =
    let b = both (w ≤ᶻ x && x <ᶻ e) (s <ᶻ y && y ≤ᶻ n) o in
    let c = both (w ≤ᶻ x) (x <ᶻ e) b.0 in
    let d = both (s <ᶻ y) (y ≤ᶻ n) b.1 in
    record { west = c.0; east = c.1; south = d.0; north = d.1 }

-- a scale, and a point of the area
module _ {s : ℕ} {e n : ℤ} (i : Inside s e n) where
  tests : Owned area.west area.east area.south area.north e n
  tests = owned area.west area.east area.south area.north e n i.point

  pub across : IsScale s × (((area.west ≤ᶻ e) ≡ true) × ((e <ᶻ area.east) ≡ true))
  across = (i.scale, (tests.west, tests.east))

  pub down : IsScale s × (((area.south <ᶻ n) ≡ true) × ((n ≤ᶻ area.north) ≡ true))
  down = (i.scale, (tests.south, tests.north))

  pub x : East e
  x = east e tests.west tests.east

  pub y : North n
  y = north n tests.south tests.north

  pub point-on : OnGrid s (record { row = row_at s n; column = column_at s e })
  point-on = record { scale = i.scale; in_rows = row_in i.scale y; in-columns = column-in i.scale x }

pub inside : {s : ℕ} → IsScale s → (e n : ℤ) → owns area e n ≡ true → Inside s e n
inside h e n o = record { scale = h; point = o }

-- the arm that is taken is the scale's own, and a signed argument is passed on as it is
pub arm_under : {s t k : ℕ} → s ≡ t → {e n : ℤ} → SFits w64 e → SFits w64 n → k ≡ sheet_under t (to_z w64 (of_z w64 e)) (to_z w64 (of_z w64 n)) → k ≡ sheet_under s e n
arm_under q {e} {n} f g p = (rw (back f, back g) at p) ∙ ap (λ (u : ℕ). sheet_under u e n) (sym q)
