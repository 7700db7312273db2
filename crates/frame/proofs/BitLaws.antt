-- What the bits of a float stand for: its sign, and its mantissa over a power of two; so the shifted thousandfold is the float's exact value
-- rounded. Assumes nothing.
use mathlib.Core.Path.{◌≡◌, refl, sym, ap, ◌∙◌, subst}
use mathlib.Core.Bool.{Bool, true, false, not, cond}
use mathlib.Core.Logic.{◌⊎◌, inl, inr}
use Prim.Native.Nat.{ℕ, zero, suc, ◌+◌, ◌-◌, ◌*◌, ◌%◌, ◌^◌, ◌≤◌, ◌<◌}
use native.Mathlib.Nat.{mul_assoc, mul_right_comm, eq_of_mul-eq-mul_right}
use native.Mathlib.Omega.{arith}
use borrow.Author.Tests.{leb-true, leb-false, lt-ltb, le-ltb}
use lib.Dec.{T, ltb, eqb, eqb→eq, eqb-suc-zero, not_T}
use lib.IntN.{ℤ, pos, neg_ℤ, ◌-ℤ◌, +ℤ_idl}
use lib.Signed.{shr_z}
use lib.Pow.{pow-add, pow_pos}
use lib.Ieee.{Float, nan, inf, fin, binary64, up, down, odd, fits, is_nan, of_fields, of_bits, to_bits}
use lib.Ieee.Fits.{down_pos}
use lib.Ieee.Bits.{of_bits-to_bits, cond_no}
use lib.Ieee.Exact.{HasValue, odd_sign}
use Rattle.std.specs.Float.{float_is_finite}
use Rattle.refusal.specs.Paper.{answer, is_answer}
use Rattle.division.specs.Words.{◌≤?◌, ◌=?◌}
use Rattle.division.proofs.TestLaws.{le-or-less}
use Rattle.frame.specs.Exact.{Fraction, signed, exactly, downward, upward}
use Rattle.frame.specs.Given.{is_minus, exponent_in, mantissa_in, places_in, InReach}
use Rattle.frame.proofs.FractionLaws.{shr_same, shr-capped}
use Rattle.frame.proofs.SignLaws.{kept, keep, abs_neg, neg-signed, signed-fits, shifted-small, signed-kept, shifted-kept}

-- ---- no number

-- a float is a number exactly if it is finite
pub finite_told : (x : Float) → float_is_finite x ≡ is_answer (exactly x)
unfolding float_is_finite exactly
finite_told nan = refl
finite_told (inf s) = refl
finite_told (fin s m e) = refl

pub some_number : (x : Float) → is_answer (exactly x) ≡ true → T (not (is_nan x))
unfolding is_nan exactly
some_number nan h = subst (λ (b : Bool). T (not b)) h tt
some_number (inf s) h = tt
some_number (fin s m e) h = tt

-- ---- what the three fields stand for

at_zero : (s : Bool) (t : ℕ) → HasValue (of_fields binary64 s 0 t) s ((0 + t) * 2 ^ 0) (2 ^ 1074)
unfolding of_fields
at_zero s t = let e : t ≡ 0 + t = omega arith in subst (λ (g : ℕ). HasValue (odd 53 s t 0 1074) s (g * 2 ^ 0) (2 ^ 1074)) e (odd_sign 53 s t 0 1074)

at_some : (s : Bool) (j t : ℕ) → (suc j ≡ 2047 → ⊥) → HasValue (of_fields binary64 s (suc j) t) s ((2 ^ 52 + t) * 2 ^ j) (2 ^ 1074)
unfolding of_fields
at_some s j t h =
    let v = odd 53 s (2 ^ 52 + t) j 1074 in
    let is : cond (eqb (suc j) 2047) (cond (eqb t 0) (inf s) nan) v ≡ v =
    cond_no (eqb (suc j) 2047) (cond (eqb t 0) (inf s) nan) v (not_T (eqb (suc j) 2047) (λ (y : T (eqb (suc j) 2047)). h (eqb→eq (suc j) 2047 y))) in
    subst (λ (k : Float). HasValue k s ((2 ^ 52 + t) * 2 ^ j) (2 ^ 1074)) (sym is) (odd_sign 53 s (2 ^ 52 + t) j 1074)

at_top : (s : Bool) (t : ℕ) → is_answer (exactly (of_fields binary64 s 2047 t)) ≡ false
unfolding of_fields exactly
at_top s t = go (eqb t 0)
  where
    go : (b : Bool) → is_answer (exactly (cond b (inf s) nan)) ≡ false
    go true = refl
    go false = refl

valued : (x : Float) (s : Bool) (a c : ℕ) → HasValue x s a c → is_answer (exactly x) ≡ true
unfolding exactly
valued nan s a c h = absurd h
valued (inf t) s a c h = absurd h
valued (fin t m e) s a c h = refl

-- the mantissa of a field f and the digits t, and the power f - 1 of two, in the smallest floats
by-fields : (s : Bool) (f t : ℕ) → (f ≡ 2047 → ⊥) → HasValue (of_fields binary64 s f t) s ((cond (f =? 0) 0 (2 ^ 52) + t) * 2 ^ (f - 1)) (2 ^ 1074)
by-fields s zero t h = at_zero s t
by-fields s (suc j) t h = let e : suc j - 1 ≡ j = omega arith in rw (eqb-suc-zero j, e) (at_some s j t h)

-- with fewer places
fewer : (x : Float) (s : Bool) (g p : ℕ) → p ≤ 1074 → HasValue x s (g * 2 ^ p) (2 ^ 1074) → HasValue x s g (2 ^ (1074 - p))
fewer nan s g p l v = v
fewer (inf t) s g p l v = v
fewer (fin t m e) s g p l v = (
  v.0,
  eq_of_mul-eq-mul_right (2 ^ p) (pow_pos p) (m * up e * 2 ^ (1074 - p)) (g * down e)
      (mul_assoc (m * up e) (2 ^ (1074 - p)) (2 ^ p) ∙ ap (λ (k : ℕ). m * up e * k) (sym (pow-add 2 (1074 - p) p) ∙ ap (λ (k : ℕ). 2 ^ k) (joined p l)) ∙ v.1
      ∙ mul_right_comm g (2 ^ p) (down e)),
)
  where
    joined : (p : ℕ) → p ≤ 1074 → 1074 - p + p ≡ 1074
    joined p l = omega arith

-- ---- the exact value, rounded

-- a float that is g / 2 ^ k metres, either sign of its millimetres rounded down
pub record Shifts (x : Float) (s : Bool) (g k : ℕ) : Type 0 where
  pub value : Fraction
  pub number : exactly x ≡ answer value
  pub down : shr_z value.over value.under ≡ shr_z (signed s (g * 1_000)) (2 ^ k)
  pub up : shr_z (neg_ℤ value.over) value.under ≡ shr_z (signed (not s) (g * 1_000)) (2 ^ k)

shifts : (x : Float) {s : Bool} (g k : ℕ) → HasValue x s g (2 ^ k) → Shifts x s g k
unfolding exactly
shifts nan g k h = absurd h
shifts (inf t) g k h = absurd h
shifts (fin t m e) {s} g k h =
    let a = m * up e * 1_000 in
    let q : a * 2 ^ k ≡ g * 1_000 * down e = mul_right_comm (m * up e) 1_000 (2 ^ k) ∙ ap (λ (n : ℕ). n * 1_000) h.1 ∙ mul_right_comm g (down e) 1_000 in
    record {
      value = record { over = signed t a; under = down e };
      number = refl;
      down = shr_same t a (down e) (g * 1_000) (2 ^ k) (down_pos e) (pow_pos k) q ∙ ap (λ (b : Bool). shr_z (signed b (g * 1_000)) (2 ^ k)) h.0;
      up = ap (λ (z : ℤ). shr_z z (down e)) (neg-signed t a) ∙ shr_same (not t) a (down e) (g * 1_000) (2 ^ k) (down_pos e) (pow_pos k) q ∙ ap (λ (b : Bool). shr_z (signed (not b) (g * 1_000)) (2 ^ k)) h.0;
    }

-- of an exponent f, the places that the code shifts by shift as far as all of them
far-enough : (s : Bool) (n f : ℕ) → n < 2 ^ 63 → f ≤ 1_075 → shr_z (signed s n) (2 ^ cond (f ≤? 1_012) 63 (1_075 - f)) ≡ shr_z (signed s n) (2 ^ (1074 - (f - 1)))
far-enough s n f h l = by (f ≤? 1_012) refl
  where
    by : (b : Bool) → (f ≤? 1_012) ≡ b → shr_z (signed s n) (2 ^ cond b 63 (1_075 - f)) ≡ shr_z (signed s n) (2 ^ (1074 - (f - 1)))
    by true e = shr-capped (signed s n) (1074 - (f - 1)) (signed-fits s n h) (omega (arith, leb-true f 1_012 e))
    by false e = let q : 1_075 - f ≡ 1074 - (f - 1) = omega (arith, leb-false f 1_012 e) in ap (λ (k : ℕ). shr_z (signed s n) (2 ^ k)) q

pub small : (bits : ℕ) → mantissa_in bits * 1_000 < 2 ^ 63
small bits = by (exponent_in bits =? 0)
  where
    by : (b : Bool) → (cond b 0 (2 ^ 52) + bits % 2 ^ 52) * 1_000 < 2 ^ 63
    by true = omega arith
    by false = omega arith

pub few-places : (bits : ℕ) → places_in bits ≤ 63
few-places bits = by (exponent_in bits ≤? 1_012) refl
  where
    by : (b : Bool) → (exponent_in bits ≤? 1_012) ≡ b → cond b 63 (1_075 - exponent_in bits) ≤ 63
    by true e = omega arith
    by false e = omega (arith, leb-false (exponent_in bits) 1_012 e)

-- ---- of a float that the format holds, as owning it tells
module _ (x : Float) (F : fits binary64 x ≡ true) where
  abbrev bits : ℕ
  bits = to_bits binary64 x

  is-fields : x ≡ of_fields binary64 (is_minus bits) (exponent_in bits) (bits % 2 ^ 52)
  unfolding of_bits
  is-fields = sym (of_bits-to_bits binary64 x (subst T (sym F) tt))

  pub has_value : (exponent_in bits ≡ 2047 → ⊥) → HasValue x (is_minus bits) (mantissa_in bits * 2 ^ (exponent_in bits - 1)) (2 ^ 1074)
  has_value h =
      subst (λ (y : Float). HasValue y (is_minus bits) (mantissa_in bits * 2 ^ (exponent_in bits - 1)) (2 ^ 1074)) (sym is-fields) (by-fields (is_minus bits) (exponent_in bits) (bits % 2 ^ 52) h)

  -- an exponent of all ones is that of the infinities and of no number
  pub number-told : ltb (exponent_in bits) 2_047 ≡ is_answer (exactly x)
  number-told = by (le-or-less (exponent_in bits) 2_046)
    where
      by : (exponent_in bits ≤ 2_046) ⊎ (2_046 < exponent_in bits) → ltb (exponent_in bits) 2_047 ≡ is_answer (exactly x)
      by (inl h) = lt-ltb (exponent_in bits) 2_047 (omega arith) ∙ sym (valued x (is_minus bits) (mantissa_in bits * 2 ^ (exponent_in bits - 1)) (2 ^ 1074) (has_value λ e. omega arith))
      by (inr h) =
          let top : exponent_in bits ≡ 2_047 = omega arith in
          le-ltb (exponent_in bits) 2_047 (omega arith)
          ∙ sym (ap (λ (y : Float). is_answer (exactly y)) (is-fields ∙ ap (λ (f : ℕ). of_fields binary64 (is_minus bits) f (bits % 2 ^ 52)) top) ∙ at_top (is_minus bits) (bits % 2 ^ 52))

  module _ (n : InReach x) where
    reached : exponent_in bits ≤ 1_075
    reached = leb-true (exponent_in bits) 1_075 n.reached

    all : Shifts x (is_minus bits) (mantissa_in bits) (1074 - (exponent_in bits - 1))
    all = shifts x (mantissa_in bits) (1074 - (exponent_in bits - 1)) (fewer x (is_minus bits) (mantissa_in bits) (exponent_in bits - 1) (omega (arith, reached)) (has_value λ e. omega (arith, reached)))

    down_is : answer (shr_z (signed (is_minus bits) (mantissa_in bits * 1_000)) (2 ^ places_in bits)) ≡ downward x
    unfolding downward
    down_is = rw all.number (ap answer (far-enough (is_minus bits) (mantissa_in bits * 1_000) (exponent_in bits) (small bits) reached ∙ sym all.down))

    up_is : answer (neg_ℤ (shr_z (signed (not (is_minus bits)) (mantissa_in bits * 1_000)) (2 ^ places_in bits))) ≡ upward x
    unfolding upward
    up_is = rw all.number (ap (λ (z : ℤ). answer (neg_ℤ z)) (far-enough (not (is_minus bits)) (mantissa_in bits * 1_000) (exponent_in bits) (small bits) reached ∙ sym all.up))

    -- as the machine has it
    pub down-shifted : {over : ℤ} {k : ℕ} → over ≡ signed (is_minus bits) (mantissa_in bits * 1_000) → k ≡ places_in bits → answer (kept (shr_z (kept over) (2 ^ k))) ≡ downward x
    down-shifted e f = ap answer (shifted-kept (is_minus bits) (mantissa_in bits * 1_000) (small bits) e f) ∙ down_is

    pub up-shifted : {over r : ℤ} {k : ℕ} → over ≡ signed (not (is_minus bits)) (mantissa_in bits * 1_000) → k ≡ places_in bits → r ≡ neg_ℤ (kept (shr_z (kept over) (2 ^ k))) → answer (kept r) ≡ upward x
    up-shifted e f g =
        let s = not (is_minus bits) in
        let m = mantissa_in bits * 1_000 in
        let q = shr_z (signed s m) (2 ^ places_in bits) in
        ap answer (ap kept (g ∙ ap neg_ℤ (shifted-kept s m (small bits) e f)) ∙ keep (neg_ℤ q) (rw (abs_neg q) (shifted-small s m (small bits) (2 ^ places_in bits)))) ∙ up_is

    -- where both minuses are taken from 0, as the machine takes them
    pub up-turned : {over : ℤ} {k : ℕ} → over ≡ signed (is_minus bits) (mantissa_in bits * 1_000) → k ≡ places_in bits → answer (kept (pos 0 -ℤ kept (shr_z (kept (pos 0 -ℤ kept over)) (2 ^ k)))) ≡ upward x
    up-turned {over} {k} e f =
        let m = mantissa_in bits * 1_000 in
        let turned = ap (λ (z : ℤ). pos 0 -ℤ z) (signed-kept (is_minus bits) m (small bits) e) ∙ +ℤ_idl (neg_ℤ (signed (is_minus bits) m)) ∙ neg-signed (is_minus bits) m in
        up-shifted turned f (+ℤ_idl (neg_ℤ (kept (shr_z (kept (pos 0 -ℤ kept over)) (2 ^ k)))))
