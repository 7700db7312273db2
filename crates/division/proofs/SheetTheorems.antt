-- Sheet numbers and places of the nine grids are the same thing twice: each leads to the other and back. Assumes nothing.
use mathlib.Core.Path.{◌≡◌, sym, ap}
use Prim.Native.Nat.{ℕ}
use borrow.Author.Tests.{lt-ltb}
use Rattle.refusal.specs.Paper.{answer}
use Rattle.refusal.proofs.PaperLaws.{passed, same_answer}
use Rattle.division.specs.declared.Place.{Place}
use Rattle.division.specs.declared.Spot.{Spot}
use Rattle.division.specs.Table.{is_scale, rows, columns}
use Rattle.division.specs.Sheet.{is_sheet, sheet_of, scale_of, place_of, spot_of, on_grid, locate, sheet_on}
use Rattle.division.proofs.TableLaws.{scale, is-scale}
use Rattle.division.proofs.NumberLaws.{on-grid, sheet-place, placed, scale-sheet, place-sheet, is-sheet}

spot : {s t : ℕ} {p q : Place} → s ≡ t → p ≡ q → ◌≡◌ {A = Spot} (record { scale = s; place = p }) (record { scale = t; place = q })
spot e f = λ i. record { scale = e i; place = f i }

-- the sheet at a place is located there
pub sheet-located : (s : ℕ) (p : Place) {n : ℕ} → sheet_on s p ≡ answer n → locate n ≡ answer (record { scale = s; place = p })
unfolding sheet_on locate
sheet-located s p {n} e =
    let a = passed 2 (is_scale s) _ e in
    let b = passed 6 (on_grid s p) _ a.1 in
    let o = placed (scale s a.0) p b.0 in
    let f : n ≡ sheet_of s p = sym (same_answer b.1) in
    rw f (rw (is-sheet o) (ap answer (spot (scale-sheet o) (place-sheet o))))

-- and where a sheet is located, that sheet is
pub located-sheet : (n : ℕ) {at : Spot} → locate n ≡ answer at → sheet_on at.scale at.place ≡ answer n
unfolding sheet_on locate
located-sheet n {at} e =
    let a = passed 3 (is_sheet n) _ e in
    let f : at ≡ spot_of n = sym (same_answer a.1) in
    let o = on-grid n a.0 in
    rw f
    (rw (is-scale o.scale, lt-ltb (place_of n).row (rows (scale_of n)) o.in_rows, lt-ltb (place_of n).column (columns (scale_of n)) o.in-columns) (ap answer (sheet-place n a.0)))
