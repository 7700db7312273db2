-- Sums of floats that are whole numbers, and halves of even ones, are exact as long as the sum is at most 2 ^ 53. Assumes nothing.
use mathlib.Core.Path.{◌≡◌, sym, ap, ◌∙◌}
use mathlib.Core.Bool.{true≢false, false, true}
use Prim.Native.Nat.{ℕ, ◌+◌, ◌*◌, ◌/◌, ◌%◌, ◌^◌, ◌≤◌}
use native.Mathlib.Nat.{mul-pos, mul-one, mul_comm, mul_assoc, mul_right_comm, add-mul}
use native.Mathlib.Omega.{arith}
use lib.IntN.{pos}
use lib.Ieee.{Float, nan, inf, fin, binary64, up, down, sum, add, div, of_int, of_bits}
use lib.Ieee.Fits.{down_pos}
use lib.Ieee.Exact.{HasValue}
use lib.Ieee.Back.{round_whole}
use lib.Ieee.Scale.{round_same}

-- the float of a whole number
abbrev pub float : ℕ → Float
float n = of_int binary64 (pos n)

pub whole-exact : (n : ℕ) → n ≤ 2 ^ 53 → HasValue (float n) false n 1
unfolding of_int
whole-exact n h = round_whole binary64 false n h

-- the sum of two floats that are whole numbers is the float of the sum
sum-exact : (x y : Float) (a b : ℕ) → HasValue x false a 1 → HasValue y false b 1 → add binary64 x y ≡ float (a + b)
unfolding of_int add sum
sum-exact nan y a b v w = elim v [ ]
sum-exact (inf _) y a b v w = elim v [ ]
sum-exact (fin false m e) nan a b v w = elim w [ ]
sum-exact (fin false m e) (inf _) a b v w = elim w [ ]
sum-exact (fin true m e) y a b v w = absurd (true≢false v.0)
sum-exact (fin false m e) (fin true n d) a b v w = absurd (true≢false w.0)
sum-exact (fin false m e) (fin false n d) a b v w =
    round_same binary64 false (m * up e * down d + n * up d * down e) (down e * down d) (a + b) 1
    (mul-pos (down_pos e) (down_pos d)) (omega arith) (go (m * up e) (n * up d) (down e) (down d) v.1 w.1)
  where
    go : (x y p q : ℕ) → x * 1 ≡ a * p → y * 1 ≡ b * q → (x * q + y * p) * 1 ≡ (a + b) * (p * q)
    go x y p q h k =
        let i : x * q ≡ a * (p * q) = ap (λ (z : ℕ). z * q) (sym (mul-one x) ∙ h) ∙ mul_assoc a p q in
        let j : y * p ≡ b * (p * q) = ap (λ (z : ℕ). z * p) (sym (mul-one y) ∙ k) ∙ mul_right_comm b q p ∙ mul_assoc b p q in
        mul-one (x * q + y * p) ∙ ap (λ (z : ℕ). z + y * p) i ∙ ap (λ (z : ℕ). a * (p * q) + z) j ∙ sym (add-mul a b (p * q))

-- and half of a float that is an even whole number is the float of the half
half-exact : (x : Float) (a : ℕ) → HasValue x false (2 * a) 1 → div binary64 x (fin false 1 (pos 1)) ≡ float a
unfolding of_int div
half-exact nan a v = elim v [ ]
half-exact (inf _) a v = elim v [ ]
half-exact (fin true m e) a v = absurd (true≢false v.0)
half-exact (fin false m e) a v =
    round_same binary64 false (m * up e * 1) (1 * 2 * down e) a 1 (mul-pos (omega arith) (down_pos e)) (omega arith) (go (m * up e) (down e) v.1)
  where
    go : (x p : ℕ) → x * 1 ≡ 2 * a * p → x * 1 * 1 ≡ a * (1 * 2 * p)
    go x p h = mul-one (x * 1) ∙ h ∙ ap (λ (z : ℕ). z * p) (mul_comm 2 a) ∙ mul_assoc a 2 p

-- so the middle of two whole numbers whose sum is even is exact; 2.0 as the code has it
pub middle-exact : (a b : ℕ) → a + b ≤ 2 ^ 53 → (a + b) % 2 ≡ 0 → div binary64 (add binary64 (float a) (float b)) (of_bits binary64 0x4000_0000_0000_0000) ≡ float ((a + b) / 2)
unfolding of_bits
middle-exact a b h k =
    let e : a + b ≡ 2 * ((a + b) / 2) = omega arith in
    ap (λ (z : Float). div binary64 z (fin false 1 (pos 1))) (sum-exact (float a) (float b) a b (whole-exact a (omega arith)) (whole-exact b (omega arith)) ∙ ap float e)
    ∙ half-exact (float (2 * ((a + b) / 2))) ((a + b) / 2) (whole-exact (2 * ((a + b) / 2)) (omega arith))
