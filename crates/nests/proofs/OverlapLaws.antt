-- Where a width leaves a remainder, the smaller sheet across the east edge of the first larger sheet overlaps it in part: along the area's north
-- edge, where the smaller sheet begins both have the point, at the area's corner the larger one alone, and at the larger one's east edge the
-- smaller one alone. Assumes nothing.
use mathlib.Core.Path.{◌≡◌, refl, sym, ap, ◌∙◌, subst}
use mathlib.Core.Bool.{true}
use Prim.Native.Nat.{ℕ, ◌+◌, ◌*◌, ◌/◌, ◌%◌, ◌<◌}
use native.Mathlib.Nat.{div-add-mod', mod-lt, div-eq_of_lt, div_self, mul-div_cancel, zero-div, zero-mul}
use native.Mathlib.Omega.{arith}
use borrow.Author.Tests.{le-leb, lt-ltb}
use lib.IntN.{ℤ, pos}
use Rattle.division.specs.declared.Place.{Place}
use Rattle.division.specs.Table.{width, height}
use Rattle.division.specs.Grid.{millimetres, area, owns, column_at, row_at}
use Rattle.division.specs.Sheet.{place_of, sheet_of}
use Rattle.division.specs.Given.{IsScale, OnGrid}
use Rattle.division.specs.Theorems.{Holds}
use Rattle.division.proofs.MadeLaws.{place}
use Rattle.division.proofs.NumberLaws.{scale-sheet, place-sheet, is-sheet}
use Rattle.division.proofs.GridLaws.{some-width, column-is, row_is}
use Rattle.division.proofs.PointLaws.{inside, point-on}
use Rattle.division.proofs.PointTheorems.{answered, answers-holds, one-sheet}
use Rattle.nests.specs.Nesting.{Has, Overlaps}
use Rattle.nests.proofs.HoldLaws.{has-holds, holds_has}

-- ---- the area's north edge, by the distance from its west end

abbrev east : ℕ → ℤ
east x = pos (200_000_000 + x)

abbrev top : ℤ
top = pos 5_170_000_000

abbrev first-row : ℕ → Place
first-row c = record { row = 0; column = c }

in_area : (x : ℕ) → x < 600_000_000 → owns area (east x) top ≡ true
in_area x h = rw (le-leb 200_000_000 (200_000_000 + x) (omega arith), lt-ltb (200_000_000 + x) 800_000_000 (omega arith))

module _ {s : ℕ} (h : IsScale s) (c x : ℕ) (l : x < 600_000_000) (e : x / millimetres (width s) ≡ c) where
  there : ◌≡◌ {A = Place} (record { row = row_at s top; column = column_at s (east x) }) (first-row c)
  there =
      place (row_is s 5_170_000_000 (omega arith) ∙ zero-div (millimetres (height s)))
      (column-is s (200_000_000 + x) (omega arith) ∙ ap (λ (y : ℕ). y / millimetres (width s)) (omega arith) ∙ e)

  first_on : OnGrid s (first-row c)
  first_on = subst (OnGrid s) there (point-on (inside h (east x) top (in_area x l)))

  -- the sheet of the first row that has the point
  first_holds : Holds s (east x) top (sheet_of s (first-row c))
  first_holds = subst (λ (p : Place). Holds s (east x) top (sheet_of s p)) there (answers-holds (east x) top (answered (east x) top h (in_area x l)))

  -- and another of that row has it not
  first-lacks : {d : ℕ} → OnGrid s (first-row d) → (d ≡ c → ⊥) → Has (sheet_of s (first-row d)) (east x) top → ⊥
  first-lacks {d} o apart p =
      let same : sheet_of s (first-row d) ≡ sheet_of s (first-row c) = one-sheet (has-holds (record { sheet = is-sheet o; scale = scale-sheet o }) p) first_holds in
      apart (ap (λ (q : Place). q.column) (sym (place-sheet o) ∙ ap place_of same ∙ place-sheet first_on))

-- ---- the two sheets

-- the sheets of scale t are less wide than those of scale s, and leave a remainder of their width
pub record Remainder (s t : ℕ) : Type 0 where
  pub larger : IsScale s
  pub smaller : IsScale t
  pub less : width t < width s
  pub left : 0 < millimetres (width s) % millimetres (width t)
  pub short : width s < 600_000

module _ {s t : ℕ} (r : Remainder s t) where
  abbrev wide : ℕ
  wide = millimetres (width s)

  abbrev narrow : ℕ
  narrow = millimetres (width t)

  -- the column of the smaller sheet, and where it begins
  abbrev column : ℕ
  column = wide / narrow

  abbrev start : ℕ
  start = column * narrow

  split : start + wide % narrow ≡ wide
  split = div-add-mod' wide narrow

  within : wide % narrow < narrow
  within = mod-lt wide (some-width r.smaller)

  start-wide : start / wide ≡ 0
  start-wide = div-eq_of_lt (omega (arith, split, r.left))

  start-narrow : start / narrow ≡ column
  start-narrow = mul-div_cancel column (some-width r.smaller)

  wide-wide : wide / wide ≡ 1
  wide-wide = div_self (some-width r.larger)

  not_first : column ≡ 0 → ⊥
  not_first e = omega (arith, split, within, r.less, ap (λ (c : ℕ). c * narrow) e, zero-mul narrow)

  -- where the larger sheet ends and where the smaller one begins, still in the area
  wide-in : wide < 600_000_000
  wide-in = omega (arith, r.short)

  start-in : start < 600_000_000
  start-in = omega (arith, split, wide-in)

  one : OnGrid s (first-row 0)
  one = first_on r.larger 0 0 (omega arith) (zero-div wide)

  other : OnGrid t (first-row column)
  other = first_on r.smaller column start start-in start-narrow

  pub overlaps : Overlaps s t
  overlaps = record {
    larger = sheet_of s (first-row 0);
    smaller = sheet_of t (first-row column);
    is-larger = record { sheet = is-sheet one; scale = scale-sheet one };
    is-smaller = record { sheet = is-sheet other; scale = scale-sheet other };
    both = record {
      east = east start;
      north = top;
      in_one = holds_has (first_holds r.larger 0 start start-in start-wide);
      in-other = holds_has (first_holds r.smaller column start start-in start-narrow);
    };
    larger-alone = record {
      east = east 0;
      north = top;
      in_one = holds_has (first_holds r.larger 0 0 (omega arith) (zero-div wide));
      not-in-other = first-lacks r.smaller 0 0 (omega arith) (zero-div narrow) other not_first;
    };
    smaller-alone = record {
      east = east wide;
      north = top;
      in_one = holds_has (first_holds r.smaller column wide wide-in refl);
      not-in-other = first-lacks r.larger 1 wide wide-in wide-wide one (λ e. omega arith);
    };
  }
