-- Edges that are whole numbers of hundred metres are whole metres as floats, and so is the middle between two. Assumes nothing.
use mathlib.Core.Path.{◌≡◌, sym, ap, ◌∙◌}
use Prim.Native.Nat.{ℕ, ◌+◌, ◌*◌, ◌/◌, ◌≤◌}
use native.Mathlib.Omega.{arith}
use lib.IntN.{ℤ, ◌+ℤ◌}
use lib.Ieee.{Float, binary64, add, div, of_bits}
use mir.Syntax.{w64}
use mir.Val.{to_z, of_z}
use Rattle.refusal.specs.Paper.{answer}
use Rattle.refusal.proofs.PaperLaws.{passed}
use Rattle.division.specs.declared.Edges.{Edges}
use Rattle.division.specs.Sheet.{is_sheet, ground_of, corners_of}
use Rattle.division.specs.Given as goal
use Rattle.division.proofs.TestLaws.{returned}
use Rattle.division.proofs.MetreLaws as laws
use Rattle.frame.specs.Metres.{metres, half}
use Rattle.frame.specs.Given.{Hundreds, AllHundreds}
use Rattle.frame.proofs.FloatLaws.{float, middle-exact}

pub in-metres : {z : ℤ} (h : Hundreds z) → metres z ≡ float (h.hundreds * 100)
in-metres h =
    let q : h.hundreds * 100_000 / 1_000 ≡ h.hundreds * 100 = omega arith in
    ap metres h.is ∙ ap float q

module _ {y z : ℤ} (h : Hundreds y) (k : Hundreds z) where
  pub middle-in-metres : metres (half (y +ℤ z)) ≡ float ((h.hundreds + k.hundreds) * 50)
  middle-in-metres =
      let q : (h.hundreds * 100_000 + k.hundreds * 100_000) / 2 / 1_000 ≡ (h.hundreds + k.hundreds) * 50 = omega arith in
      rw (h.is, k.is) (ap float q)

  -- as the code has it: added and halved as floats, 2.0 being the divisor
  pub middle-added : {a b : Float} → a ≡ metres y → b ≡ metres z → div binary64 (add binary64 a b) (of_bits binary64 0x4000_0000_0000_0000) ≡ metres (half (y +ℤ z))
  middle-added e f =
      let a = h.hundreds * 100 in
      let b = k.hundreds * 100 in
      let q : (a + b) / 2 ≡ (h.hundreds + k.hundreds) * 50 = omega arith in
      rw (e, f, in-metres h, in-metres k, middle-in-metres) (middle-exact a b (omega (arith, h.few, k.few)) (omega arith) ∙ ap float q)

-- such an edge, as the machine keeps it
module _ {z : ℤ} (h : Hundreds z) where
  pub hundreds-kept : to_z w64 (of_z w64 z) ≡ z
  hundreds-kept = returned z (rw h.is (omega (arith, h.few)))

-- ---- the corners of a sheet

so : {low high : ℕ} {z : ℤ} → high ≤ 51_700 → goal.Hundreds low high z → Hundreds z
so l h = record { hundreds = h.count; is = h.is; few = omega (arith, h.to) }

pub all-hundreds : {ground : Edges} → goal.InHundreds ground → AllHundreds ground
all-hundreds g = (so (omega arith) g.west, so (omega arith) g.east, so (omega arith) g.south, so (omega arith) g.north)

pub corners-hundreds : (sheet : ℕ) {ground : Edges} → answer ground ≡ corners_of sheet → AllHundreds ground
unfolding corners_of
corners-hundreds sheet q = all-hundreds (laws.corners-hundreds sheet (passed 3 (is_sheet sheet) (answer (ground_of sheet)) (sym q)).0 q)
