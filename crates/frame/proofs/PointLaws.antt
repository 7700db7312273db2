-- The question after a point in floats, by what the code's tests say of it. Assumes nothing.
use mathlib.Core.Path.{◌≡◌, refl, ap, ◌∙◌}
use mathlib.Core.Bool.{Bool, true, false, ◌&&◌}
use Prim.Native.Nat.{ℕ}
use native.Mathlib.Omega.{arith}
use lib.Ieee.{Float, binary64, fits}
use Rattle.refusal.specs.Paper.{refused, is_answer}
use Rattle.refusal.proofs.PaperLaws.{some-answer}
use Rattle.division.specs.Table.{is_scale}
use Rattle.division.specs.Sheet.{sheet_at}
use Rattle.frame.specs.Exact.{exactly, floor, ceiling}
use Rattle.frame.specs.Metres.{sheet_at_metres}
use Rattle.frame.specs.Given.{in_reach}
use Rattle.frame.proofs.FarLaws.{far-east, far-north, out-of-reach}
use Rattle.frame.proofs.PointTheorems.{rounded}

-- two tests, one for each value
pub pair : {a b p q : Bool} → a ≡ p → b ≡ q → (a && b) ≡ (p && q)
pair {b = b} {p = p} e f = ap (λ (x : Bool). x && b) e ∙ ap (λ (x : Bool). p && x) f

-- a value that is too large lies outside, whatever the other is
pub out-of-reach-refused : (s : ℕ) (e n : Float) → fits binary64 e ≡ true → fits binary64 n ≡ true → is_scale s ≡ true → (is_answer (exactly e) ≡ true) × (is_answer (exactly n) ≡ true) → (in_reach e && in_reach n) ≡ false → sheet_at_metres s e n ≡ refused 1 0
unfolding sheet_at
out-of-reach-refused s e n F G h k l = by (in_reach e) (in_reach n) refl refl l
  where
    by : (a b : Bool) → in_reach e ≡ a → in_reach n ≡ b → (a && b) ≡ false → sheet_at_metres s e n ≡ refused 1 0
    by false b p q r =
        let x = out-of-reach e F k.0 p in
        let y = some-answer (exactly n) k.1 in
        rounded e n x.number y.1 s ∙ rw (h, far-east (floor x.value) (ceiling y.0) x.down)
    by true false p q r =
        let x = some-answer (exactly e) k.0 in
        let y = out-of-reach n G k.1 q in
        rounded e n x.1 y.number s ∙ rw (h, far-north (floor x.0) (ceiling y.value) y.up)
    by true true p q r = let z : ◌≡◌ {A = ℕ} 0 1 = cc in absurd (omega arith)
