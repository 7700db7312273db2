-- Every edge of every sheet is a whole number of hundred metres: the area's edges are, and so is every width and height. Assumes nothing.
use mathlib.Core.Path.{◌≡◌, sym, ap, ◌∙◌}
use mathlib.Core.Bool.{true}
use Prim.Native.Nat.{ℕ, ◌+◌, ◌-◌, ◌*◌, ◌/◌, ◌≤◌}
use native.Mathlib.Nat.{mul_assoc}
use native.Mathlib.Omega.{arith}
use lib.IntN.{pos}
use Rattle.refusal.specs.Paper.{answer}
use Rattle.refusal.proofs.PaperLaws.{same_answer}
use Rattle.division.specs.declared.Edges.{Edges}
use Rattle.division.specs.declared.Place.{Place}
use Rattle.division.specs.Table.{table, table_row, width, height}
use Rattle.division.specs.Grid.{millimetres, west_of, north_of, edges_of}
use Rattle.division.specs.Sheet.{is_sheet, ground_of, corners_of}
use Rattle.division.specs.Given.{IsScale, OnGrid, Hundreds, InHundreds}
use Rattle.division.proofs.TableLaws.{Each, each}
use Rattle.division.proofs.NumberLaws.{on-grid}
use Rattle.division.proofs.GridLaws.{wide-in, high-in, north-is}

-- the sizes of a scale
record Sized (s : ℕ) : Type 0 where
  wide : width s ≡ width s / 100 * 100
  high : height s ≡ height s / 100 * 100

nine : Each Sized 9
unfolding table table_row
nine = search tt

-- so many times such a size
times : (k size : ℕ) → size ≡ size / 100 * 100 → k * millimetres size ≡ k * (size / 100) * 100_000
times k size e =
    let m : millimetres size ≡ size / 100 * 100_000 = omega (arith, e) in
    ap (λ (a : ℕ). k * a) m ∙ sym (mul_assoc k (size / 100) 100_000)

module _ {s : ℕ} (h : IsScale s) where
  sized : Sized s
  sized = each Sized 9 nine s h.one h.nine

  pub west-hundreds : (c : ℕ) → c * millimetres (width s) ≤ 600_000_000 → Hundreds 2_000 8_000 (west_of s c)
  west-hundreds c l =
      let t = times c (width s) sized.wide in
      record { count = 2_000 + c * (width s / 100); is = ap pos (omega (arith, t)); from = omega arith; to = omega (arith, t) }

  pub north-hundreds : (r : ℕ) → r * millimetres (height s) ≤ 600_000_000 → Hundreds 45_700 51_700 (north_of s r)
  north-hundreds r l =
      let t = times r (height s) sized.high in
      record {
        count = 51_700 - r * (height s / 100);
        is = north-is s r l ∙ ap pos (omega (arith, t));
        from = omega (arith, t);
        to = omega arith;
      }

-- the edges of a place of the grid
pub edges-hundreds : {s : ℕ} {p : Place} → OnGrid s p → InHundreds (edges_of s p)
unfolding edges_of
edges-hundreds {s} {p} o =
    let h = o.scale in
    record {
      west = west-hundreds h p.column (wide-in h p.column (omega (arith, o.in-columns)));
      east = west-hundreds h (p.column + 1) (wide-in h (p.column + 1) (omega (arith, o.in-columns)));
      south = north-hundreds h (p.row + 1) (high-in h (p.row + 1) (omega (arith, o.in_rows)));
      north = north-hundreds h p.row (high-in h p.row (omega (arith, o.in_rows)));
    }

-- the ground of a sheet, which is what its corners answer
module _ (n : ℕ) (h : is_sheet n ≡ true) where
  pub ground-hundreds : InHundreds (ground_of n)
  ground-hundreds = edges-hundreds (on-grid n h)

  pub corners-ground : corners_of n ≡ answer (ground_of n)
  unfolding corners_of
  corners-ground = rw h

  pub corners-are : {e : Edges} → answer e ≡ corners_of n → e ≡ ground_of n
  corners-are q = same_answer (q ∙ corners-ground)

  pub corners-hundreds : {e : Edges} → answer e ≡ corners_of n → InHundreds e
  corners-hundreds q = rw (corners-are q) ground-hundreds
