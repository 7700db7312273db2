-- Corners: a sheet is as wide and as high as its scale says, and its ground determines it, whatever the scales: two sheets with the same
-- points have the same west and east edge, so the same width, so the same scale, and share their upper left corner. Assumes nothing.
use mathlib.Core.Path.{◌≡◌, sym, ap, ◌∙◌}
use mathlib.Core.Bool.{true}
use Prim.Native.Nat.{ℕ, ◌+◌, ◌-◌, ◌*◌, ◌≤◌, ◌<◌}
use native.Mathlib.Omega.{arith}
use lib.IntN.{pos, ◌+ℤ◌}
use Rattle.refusal.proofs.PaperLaws.{same_answer}
use Rattle.division.specs.Table.{width, height}
use Rattle.division.specs.Grid.{millimetres, owns, edges_of}
use Rattle.division.specs.Sheet.{is_sheet, scale_of, place_of, ground_of, sheet_at}
use Rattle.division.specs.Theorems.{SameGround}
use Rattle.division.proofs.TableLaws.{width-tells}
use Rattle.division.proofs.NumberLaws.{on-grid}
use Rattle.division.proofs.GridLaws.{some-width, some-height, high-in, north-is}
use Rattle.division.proofs.PointTheorems.{westℕ, northℕ, Lies, lies-owns, owns-lies, owns-answers}

module _ (k : ℕ) (h : is_sheet k ≡ true) where
  pub as_wide : (ground_of k).east ≡ (ground_of k).west +ℤ pos (millimetres (width (scale_of k)))
  unfolding edges_of
  as_wide = ap pos (omega arith)

  pub as_high : (ground_of k).north ≡ (ground_of k).south +ℤ pos (millimetres (height (scale_of k)))
  unfolding edges_of
  as_high =
      let o = on-grid k h in
      let r = (place_of k).row in
      let b : (r + 1) * millimetres (height (scale_of k)) ≤ 600_000_000 = high-in o.scale (r + 1) (omega (arith, o.in_rows)) in
      rw (north-is (scale_of k) r (omega arith), north-is (scale_of k) (r + 1) b) (ap pos (omega arith))

-- a plain point lies where the ground owns it
lies : (k e n : ℕ) (h : is_sheet k ≡ true) → owns (ground_of k) (pos e) (pos n) ≡ true → Lies (scale_of k) (place_of k) e n
lies k e n h g =
    let l = owns-lies (place_of k) (on-grid k h) (pos e) (pos n) g in
    let a : l.e0 ≡ e = cc l.east-is in
    let b : l.n0 ≡ n = cc l.north-is0 in
    rw (a, b) at l.lies

-- the upper edge of a sheet lies in it, from its west end to before its east end
module _ (j : ℕ) (h : is_sheet j ≡ true) where
  abbrev left : ℕ
  left = westℕ (scale_of j) (place_of j)

  abbrev top : ℕ
  top = northℕ (scale_of j) (place_of j)

  top-owned : (e : ℕ) → left ≤ e → e < left + millimetres (width (scale_of j)) → owns (ground_of j) (pos e) (pos top) ≡ true
  top-owned e a b =
      let o = on-grid j h in
      lies-owns (place_of j) o e top (record { west = a; east = b; south = omega (arith, some-height o.scale); north = omega arith })

  pub corner-owned : owns (ground_of j) (pos left) (pos top) ≡ true
  corner-owned = top-owned left (omega arith) (omega (arith, some-width (on-grid j h).scale))

-- so where two sheets have the same ground, each lies between the other's west and east edge
module _ (j k : ℕ) (h : is_sheet j ≡ true) (l : is_sheet k ≡ true) (same : SameGround j k) where
  from-west : left k l ≤ left j h
  from-west = (lies k (left j h) (top j h) l (sym (same (pos (left j h)) (pos (top j h))) ∙ corner-owned j h)).west

  to-east : left j h + millimetres (width (scale_of j)) ≤ left k l + millimetres (width (scale_of k))
  to-east =
      let e = left j h + millimetres (width (scale_of j)) - 1 in
      let w = some-width (on-grid j h).scale in
      omega (arith, (lies k e (top j h) l (sym (same (pos e) (pos (top j h))) ∙ top-owned j h e (omega (arith, w)) (omega (arith, w)))).east)

-- "whichever scales they are of": the same ground, the same sheet
pub ground-tells : (j k : ℕ) → is_sheet j ≡ true → is_sheet k ≡ true → SameGround j k → j ≡ k
ground-tells j k h l same =
    let back : SameGround k j = λ e n. sym (same e n) in
    let w : width (scale_of j) ≡ width (scale_of k) = omega (arith, from-west j k h l same, to-east j k h l same, from-west k j l h back, to-east k j l h back) in
    let s : scale_of j ≡ scale_of k = width-tells (on-grid j h).scale (on-grid k l).scale w in
    let e = pos (left j h) in
    let n = pos (top j h) in
    same_answer (sym (owns-answers j e n h (corner-owned j h)) ∙ ap (λ (t : ℕ). sheet_at t e n) s ∙ owns-answers k e n l (sym (same e n) ∙ corner-owned j h))
