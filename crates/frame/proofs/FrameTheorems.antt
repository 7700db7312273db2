-- Every field of a frame is exactly its whole number of metres, for every sheet of every scale, and the middle is exactly half the sum of
-- the edges: a float holds every whole number up to 2 ^ 53. So the frame's upper left corner and its middle lead back to the sheet. Assumes
-- nothing.
use mathlib.Core.Path.{◌≡◌, refl, sym, ap, ◌∙◌}
use mathlib.Core.Bool.{Bool, true, false}
use Prim.Native.Nat.{ℕ, ◌+◌, ◌*◌, ◌^◌, ◌≤◌, ◌<◌}
use native.Mathlib.Nat.{mul-one, mul_right_comm}
use native.Mathlib.Omega.{arith}
use borrow.Author.Tests.{le-leb, lt-ltb}
use lib.IntN.{ℤ, pos, nat_abs, ◌+ℤ◌}
use lib.Ieee.{Float, nan, inf, fin, up, down}
use lib.Ieee.Exact.{HasValue}
use Rattle.refusal.specs.Paper.{answer}
use Rattle.division.specs.declared.Edges.{Edges}
use Rattle.division.specs.Grid.{millimetres, owns}
use Rattle.division.specs.Sheet.{is_sheet, scale_of, ground_of}
use Rattle.division.proofs.NumberLaws.{on-grid}
use Rattle.division.proofs.GridLaws.{some-width, some-height}
use Rattle.division.proofs.PointTheorems.{owns-answers}
use Rattle.division.proofs.GroundTheorems.{as_wide, as_high}
use Rattle.division.proofs.MetreLaws.{ground-hundreds, corners-ground}
use Rattle.frame.specs.declared.Frame.{Frame}
use Rattle.frame.specs.Exact.{signed, exactly, floor, ceiling}
use Rattle.frame.specs.Metres.{metres, half, frame_on, frame_of, sheet_at_metres, frame_at_metres}
use Rattle.frame.specs.Given.{Hundreds, AllHundreds}
use Rattle.frame.specs.Theorems.{IsExactly, ExactFrame}
use Rattle.frame.proofs.FractionLaws.{rounded-owned, whole-owned}
use Rattle.frame.proofs.PointTheorems.{some-under, rounded, answered}
use Rattle.frame.proofs.FloatLaws.{float, whole-exact}
use Rattle.frame.proofs.HundredLaws.{in-metres, middle-in-metres, all-hundreds}

-- a float that is n metres
valued : (x : Float) (n : ℕ) → HasValue x false n 1 → IsExactly x (pos (millimetres n))
unfolding exactly
valued nan n h = absurd h
valued (inf t) n h = absurd h
valued (fin t m e) n h =
    let q : m * up e * 1_000 ≡ n * 1_000 * down e = ap (λ (k : ℕ). k * 1_000) (sym (mul-one (m * up e)) ∙ h.1) ∙ mul_right_comm n (down e) 1_000 in
    record {
      metres = n;
      is = refl;
      value = record { over = signed t (m * up e * 1_000); under = down e };
      number = refl;
      same = ap (λ (b : Bool). signed b (m * up e * 1_000)) h.0 ∙ ap pos q;
    }

exact : (x : Float) (z : ℤ) (n : ℕ) → x ≡ float n → z ≡ pos (millimetres n) → n ≤ 2 ^ 53 → IsExactly x z
exact x z n e f l = rw (e, f) (valued (float n) n (whole-exact n l))

edge-exact : {z : ℤ} → Hundreds z → IsExactly (metres z) z
edge-exact {z} h = exact (metres z) z (h.hundreds * 100) (in-metres h) (h.is ∙ ap pos (omega arith)) (omega (arith, h.few))

-- half the sum of two edges, in metres
abbrev middle : {y z : ℤ} → Hundreds y → Hundreds z → ℕ
middle h k = (h.hundreds + k.hundreds) * 50

half-exact : {y z : ℤ} (h : Hundreds y) (k : Hundreds z) → IsExactly (metres (half (y +ℤ z))) (pos (millimetres (middle h k)))
half-exact {y} {z} h k = exact (metres (half (y +ℤ z))) (pos (millimetres (middle h k))) (middle h k) (middle-in-metres h k) refl (omega (arith, h.few, k.few))

middle-exact : {y z : ℤ} (h : Hundreds y) (k : Hundreds z) → (m : ℤ) × IsExactly (metres (half (y +ℤ z))) m × (m +ℤ m ≡ y +ℤ z)
middle-exact {y} {z} h k =
    let q : millimetres (middle h k) + millimetres (middle h k) ≡ h.hundreds * 100_000 + k.hundreds * 100_000 = omega arith in
    (pos (millimetres (middle h k)), half-exact h k, rw (h.is, k.is) (ap pos q))

pub frame-exact : (sheet : ℕ) → is_sheet sheet ≡ true → (f : Frame) × (frame_of sheet ≡ answer f) × ExactFrame (ground_of sheet) f
unfolding frame_of
frame-exact sheet h =
    let g = all-hundreds (ground-hundreds sheet h) in (
      frame_on (ground_of sheet),
      rw (corners-ground sheet h),
      record {
        west = edge-exact g.0;
        east = edge-exact g.1;
        south = edge-exact g.2;
        north = edge-exact g.3;
        middle-e = middle-exact g.0 g.1;
        middle-n = middle-exact g.2 g.3;
      },
    )

-- so the frame that is answered for a point is exactly that of the sheet that is answered
pub point-framed : (s : ℕ) (e n : Float) {k : ℕ} → sheet_at_metres s e n ≡ answer k → (f : Frame) × (frame_at_metres s e n ≡ answer f) × ExactFrame (ground_of k) f
unfolding frame_at_metres
point-framed s e n {k} a = let g = frame-exact k (answered s e n a).4.sheet in (g.0, rw a g.1, g.2)

-- ---- from the frame back to the sheet

-- a point that is exactly so many whole millimetres, and that a sheet owns
leads-to : (sheet : ℕ) → is_sheet sheet ≡ true → (x y : Float) {e n : ℤ} → IsExactly x e → IsExactly y n → owns (ground_of sheet) e n ≡ true → sheet_at_metres (scale_of sheet) x y ≡ answer sheet
leads-to sheet h x y {e} {n} a b o =
    let X = some-under x a.number in
    let Y = some-under y b.number in
    rounded x y a.number b.number (scale_of sheet)
    ∙ owns-answers sheet (floor a.value) (ceiling b.value) h (rounded-owned (ground_of sheet) a.value b.value X Y ∙ whole-owned (ground_of sheet) a.value b.value e n X Y a.same b.same ∙ o)

module _ (sheet : ℕ) (h : is_sheet sheet ≡ true) where
  abbrev ground : Edges
  ground = ground_of sheet

  g : AllHundreds ground
  g = all-hundreds (ground-hundreds sheet h)

  -- in hundreds of metres the east edge lies beyond the west edge, and the north edge beyond the south edge
  beyond : {y z : ℤ} {size : ℕ} (a : Hundreds y) (b : Hundreds z) → z ≡ y +ℤ pos size → 0 < size → a.hundreds < b.hundreds
  beyond {y} {z} {size} a b e l =
      let q : b.hundreds * 100_000 ≡ a.hundreds * 100_000 + size = ap nat_abs (sym b.is ∙ e ∙ ap (λ (x : ℤ). x +ℤ pos size) a.is) in
      omega arith

  wide : g.0.hundreds < g.1.hundreds
  wide = beyond g.0 g.1 (as_wide sheet h) (some-width (on-grid sheet h).scale)

  high : g.2.hundreds < g.3.hundreds
  high = beyond g.2 g.3 (as_high sheet h) (some-height (on-grid sheet h).scale)

  owned : (e n : ℕ) → g.0.hundreds * 100_000 ≤ e → e < g.1.hundreds * 100_000 → g.2.hundreds * 100_000 < n → n ≤ g.3.hundreds * 100_000 → owns ground (pos e) (pos n) ≡ true
  owned e n a b c d =
      rw (g.0.is, g.1.is, g.2.is, g.3.is, le-leb (g.0.hundreds * 100_000) e a, lt-ltb e (g.1.hundreds * 100_000) b, lt-ltb (g.2.hundreds * 100_000) n c)
      (le-leb n (g.3.hundreds * 100_000) d)

  -- the upper left corner
  pub corner-leads-back : sheet_at_metres (scale_of sheet) (frame_on ground).west (frame_on ground).north ≡ answer sheet
  corner-leads-back =
      let o = owned (g.0.hundreds * 100_000) (g.3.hundreds * 100_000) (omega arith) (omega (arith, wide)) (omega (arith, high)) (omega arith) in
      leads-to sheet h (metres ground.west) (metres ground.north) (edge-exact g.0) (edge-exact g.3) (rw (← g.0.is, ← g.3.is) at o)

  -- the middle
  pub middle-leads-back : sheet_at_metres (scale_of sheet) (frame_on ground).middle_e (frame_on ground).middle_n ≡ answer sheet
  middle-leads-back =
      leads-to sheet h (frame_on ground).middle_e (frame_on ground).middle_n (half-exact g.0 g.1) (half-exact g.2 g.3)
      (owned (millimetres (middle g.0 g.1)) (millimetres (middle g.2 g.3)) (omega (arith, wide)) (omega (arith, wide)) (omega (arith, high)) (omega (arith, high)))
