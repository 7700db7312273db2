-- A float of 2 ^ 53 metres or more in size lies outside the area, whichever way it is rounded. Assumes nothing.
use mathlib.Core.Path.{◌≡◌, refl, sym, ap, ◌∙◌}
use mathlib.Core.Bool.{Bool, true, false, cond, ◌&&◌}
use Prim.Native.Nat.{ℕ, zero, suc, ◌+◌, ◌-◌, ◌*◌, ◌/◌, ◌%◌, ◌^◌, ◌≤◌, ◌<◌}
use native.Mathlib.Nat.{le_trans, le_of_eq, mul_right_comm, mul-le-mul_left, mul-le-mul_right, le_of_mul-le-mul_right, le-div_iff_mul-le}
use native.Mathlib.Omega.{arith}
use borrow.Author.Tests.{lt-leb, le-ltb, leb-false, ltb-true}
use lib.Dec.{eqb-suc-zero}
use lib.IntN.{ℤ, pos, negsuc, neg_ℤ, nat_abs}
use lib.Signed.{shr_z}
use lib.Pow.{pow-add, pow_pos, pow_mono}
use lib.Ieee.{Float, nan, inf, fin, binary64, up, down, fits, to_bits}
use lib.Ieee.Fits.{down_pos}
use lib.Ieee.Exact.{HasValue}
use Rattle.refusal.specs.Paper.{answer, is_answer}
use Rattle.division.specs.Words.{◌=?◌, ◌≤ᶻ◌, ◌<ᶻ◌}
use Rattle.division.specs.Grid.{area, owns}
use Rattle.frame.specs.Exact.{Fraction, signed, exactly, floor, ceiling}
use Rattle.frame.specs.Given.{is_minus, exponent_in, mantissa_in, in_reach}
use Rattle.frame.proofs.SignLaws.{abs_neg, abs-signed}
use Rattle.frame.proofs.BitLaws.{has_value, number-told}

-- ten thousand kilometres or more, in millimetres
abbrev pub Far : ℤ → Type 0
Far z = 10_000_000_000 ≤ nat_abs z

-- ---- such a point is outside

no-first : (a b : Bool) → ((a && false) && b) ≡ false
no-first true b = refl
no-first false b = refl

no_last : (a b : Bool) → (a && (b && false)) ≡ false
no_last true true = refl
no_last true false = refl
no_last false b = refl

pub far-east : (e n : ℤ) → Far e → owns area e n ≡ false
far-east (pos a) n h = rw (le-ltb a 800_000_000 (omega arith)) (no-first (area.west ≤ᶻ pos a) (area.south <ᶻ n && n ≤ᶻ area.north))
far-east (negsuc a) n h = refl

pub far-north : (e n : ℤ) → Far n → owns area e n ≡ false
far-north e (pos a) h = rw (lt-leb a 5_170_000_000 (omega arith)) (no_last (area.west ≤ᶻ e && e <ᶻ area.east) (area.south <ᶻ pos a))
far-north e (negsuc a) h = no_last (area.west ≤ᶻ e && e <ᶻ area.east) true

-- ---- a large fraction is rounded to a large number

shr-far : (z : ℤ) (d : ℕ) → 0 < d → 10_000_000_000 * d ≤ nat_abs z → Far (shr_z z d)
shr-far (pos a) d D h = (le-div_iff_mul-le D).1 h
shr-far (negsuc a) d D h = let l : 9_999_999_999 ≤ a / d = (le-div_iff_mul-le D).1 (omega arith) in omega arith

-- rounded either way
pub far-down : (x : Fraction) → 0 < x.under → 10_000_000_000 * x.under ≤ nat_abs x.over → Far (floor x)
far-down x D h = shr-far x.over x.under D h

pub far-up : (x : Fraction) → 0 < x.under → 10_000_000_000 * x.under ≤ nat_abs x.over → Far (ceiling x)
far-up x D h =
    le_trans (shr-far (neg_ℤ x.over) x.under D (le_trans h (le_of_eq (sym (abs_neg x.over))))) (le_of_eq (sym (abs_neg (shr_z (neg_ℤ x.over) x.under))))

pub record FarOff (x : Float) : Type 0 where
  pub value : Fraction
  pub number : exactly x ≡ answer value
  pub down : Far (floor value)
  pub up : Far (ceiling value)

far-off : (x : Float) (s : Bool) (g p : ℕ) → 2 ^ 52 ≤ g → 1_075 ≤ p → HasValue x s (g * 2 ^ p) (2 ^ 1074) → FarOff x
unfolding exactly
far-off nan s g p G P v = absurd v
far-off (inf t) s g p G P v = absurd v
far-off (fin t m e) s g p G P v =
    let d = down e in
    let over = signed t (m * up e * 1_000) in
    let l : 2 ^ 53 * d ≤ m * up e = le_of_mul-le-mul_right (le_trans (large (2 ^ 1074) (2 ^ p) (le_trans (le_of_eq (sym (pow-add 2 1074 1))) (pow_mono P))) (le_of_eq (sym v.1))) (pow_pos 1074) in
    let a : 10_000_000_000 * d ≤ nat_abs over = le_trans (omega arith) (le_of_eq (sym (abs-signed t (m * up e * 1_000)))) in
    record {
      value = record { over = over; under = d };
      number = refl;
      down = far-down (record { over = over; under = d }) (down_pos e) a;
      up = far-up (record { over = over; under = d }) (down_pos e) a;
    }
  where
    large : (A Q : ℕ) → A * 2 ^ 1 ≤ Q → 2 ^ 53 * down e * A ≤ g * Q * down e
    large A Q q =
        let i : 2 ^ 52 * (A * 2) ≤ g * Q = le_trans (mul-le-mul_right (A * 2) G) (mul-le-mul_left g q) in
        le_trans (le_of_eq (tidy (down e) A)) (mul-le-mul_right (down e) i)
      where
        tidy : (d A : ℕ) → 2 ^ 53 * d * A ≡ 2 ^ 52 * (A * 2) * d
        tidy d A = mul_right_comm (2 ^ 53) d A ∙ ap (λ (k : ℕ). k * d) (omega arith)

leading : (f t : ℕ) → 0 < f → 2 ^ 52 ≤ cond (f =? 0) 0 (2 ^ 52) + t
leading zero t h = absurd (omega arith)
leading (suc f) t h = rw (eqb-suc-zero f) (omega arith)

pub out-of-reach : (x : Float) → fits binary64 x ≡ true → is_answer (exactly x) ≡ true → in_reach x ≡ false → FarOff x
out-of-reach x F number far =
    let bits = to_bits binary64 x in
    let f = exponent_in bits in
    let h : 1_075 < f = leb-false f 1_075 far in
    let k : f < 2_047 = ltb-true f 2_047 (number-told x F ∙ number) in
    far-off x (is_minus bits) (mantissa_in bits) (f - 1) (leading f (bits % 2 ^ 52) (omega arith)) (omega arith) (has_value x F λ e. omega arith)
