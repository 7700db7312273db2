-- Rounding a fraction down or up to a whole number: it sees only the fraction's value, and no whole number lies between the fraction and
-- the number that it is rounded to. Assumes nothing.
use mathlib.Core.Path.{◌≡◌, refl, sym, ap, ◌∙◌}
use mathlib.Core.Bool.{Bool, true, false, not}
use Prim.Native.Nat.{ℕ, zero, suc, ◌+◌, ◌*◌, ◌/◌, ◌^◌, ◌≤◌, ◌<◌}
use native.Mathlib.Nat.{le_trans, le_of_eq, le_antisymm, lt_of_lt_of_le, zero-mul, suc-mul, mul_right_comm, mul-le-mul_right, le_of_mul-le-mul_right, le-div_iff_mul-le, div-lt_iff_lt-mul, mul-div_cancel, div-eq_of_lt, div-eq_of_lt-le}
use native.Mathlib.Omega.{arith}
use borrow.Author.Tests.{le-leb, lt-leb}
use lib.Dec.{leb}
use lib.IntN.{ℤ, pos, negsuc, neg_ℤ, ◌*ℤ◌}
use lib.Signed.{le_z, lt_z, mag, shr_z}
use lib.Pow.{pow_mono}
use lib.Ieee.Nearest.{div_same}
use Rattle.division.specs.declared.Edges.{Edges}
use Rattle.division.specs.Grid.{owns}
use Rattle.division.proofs.TestLaws.{same-leb, lt_not}
use Rattle.frame.specs.Exact.{Fraction, signed, floor, ceiling}
use Rattle.frame.specs.Theorems.{IsWhole, owns_exactly}
use Rattle.frame.proofs.SignLaws.{neg-times, neg-order, neg-turns}

-- ---- a fraction's value alone counts

below-mono : (a b c d : ℕ) → 0 < b → 0 < d → suc a * d ≤ suc c * b → a / b ≤ c / d
below-mono a b c d B D e =
    let k = c / d in
    let h : c < suc k * d = (div-lt_iff_lt-mul D).0 (omega arith) in
    let i : suc c * b ≤ suc k * d * b = mul-le-mul_right b h in
    let j : suc a ≤ suc k * b = le_of_mul-le-mul_right (le_trans e (le_trans i (le_of_eq (mul_right_comm (suc k) d b)))) D in
    let l : a / b < suc k = (div-lt_iff_lt-mul B).1 j in
    omega arith

-- a / b and c / d with one sign
pub shr_same : (s : Bool) (a b c d : ℕ) → 0 < b → 0 < d → a * d ≡ c * b → shr_z (signed s a) b ≡ shr_z (signed s c) d
shr_same false a b c d B D e = ap pos (div_same a b c d B D e)
shr_same true zero b zero d B D e = ap pos (div_same zero b zero d B D e)
shr_same true zero b (suc c) d B D e = absurd (omega (arith, zero-mul d, suc-mul c b))
shr_same true (suc a) b zero d B D e = absurd (omega (arith, zero-mul b, suc-mul a d))
shr_same true (suc a) b (suc c) d B D e =
    ap negsuc (le_antisymm (below-mono a b c d B D (le_of_eq e)) (below-mono c d a b D B (le_of_eq (sym e))))

-- below 2 ^ 63 in size, all that is shifted is gone after 63 places
pub shr-capped : (z : ℤ) (k : ℕ) → mag z < 2 ^ 63 → 63 ≤ k → shr_z z (2 ^ 63) ≡ shr_z z (2 ^ k)
shr-capped (pos a) k h l = ap pos (div-eq_of_lt h ∙ sym (div-eq_of_lt (lt_of_lt_of_le h (pow_mono l))))
shr-capped (negsuc a) k h l = ap negsuc (div-eq_of_lt h ∙ sym (div-eq_of_lt (lt_of_lt_of_le h (pow_mono l))))

-- ---- no whole number lies between

neg-pos : (n a : ℕ) → le_z (neg_ℤ (pos n)) (pos a) ≡ true
neg-pos zero a = le-leb 0 a (omega arith)
neg-pos (suc n) a = refl

neg-neg : (n a : ℕ) → le_z (neg_ℤ (pos n)) (negsuc a) ≡ leb (suc a) n
neg-neg zero a = sym (lt-leb (suc a) 0 (omega arith))
neg-neg (suc n) a = same-leb a n (suc a) (suc n) (λ h. omega arith) (λ h. omega arith)

-- a whole number is at or below the floor exactly if it is at or below the fraction
pub at-floor : (z over : ℤ) (d : ℕ) → 0 < d → le_z z (shr_z over d) ≡ le_z (z *ℤ pos d) over
at-floor (pos k) (pos a) d D = same-leb k (a / d) (k * d) a (λ h. (le-div_iff_mul-le D).0 h) (λ h. (le-div_iff_mul-le D).1 h)
at-floor (pos k) (negsuc a) d D = refl
at-floor (negsuc k) (pos a) d D = sym (neg-pos (suc k * d) a)
at-floor (negsuc k) (negsuc a) d D =
    same-leb (a / d) k (suc a) (suc k * d) (λ h. (div-lt_iff_lt-mul D).0 (omega arith)) (λ h. let l : a / d < suc k = (div-lt_iff_lt-mul D).1 h in omega arith)
    ∙ sym (neg-neg (suc k * d) a)

-- and the ceiling is at or below a whole number exactly if the fraction is
pub at-ceiling : (z over : ℤ) (d : ℕ) → 0 < d → le_z (neg_ℤ (shr_z (neg_ℤ over) d)) z ≡ le_z over (z *ℤ pos d)
at-ceiling z over d D =
    neg-turns (shr_z (neg_ℤ over) d) z ∙ at-floor (neg_ℤ z) (neg_ℤ over) d D ∙ ap (λ (y : ℤ). le_z y (neg_ℤ over)) (neg-times z d)
    ∙ neg-order (z *ℤ pos d) over

-- so the same edges are passed
before-floor : (z over : ℤ) (d : ℕ) → 0 < d → lt_z (shr_z over d) z ≡ lt_z over (z *ℤ pos d)
before-floor z over d D = lt_not (shr_z over d) z ∙ ap not (at-floor z over d D) ∙ sym (lt_not over (z *ℤ pos d))

after-ceiling : (z over : ℤ) (d : ℕ) → 0 < d → lt_z z (neg_ℤ (shr_z (neg_ℤ over) d)) ≡ lt_z (z *ℤ pos d) over
after-ceiling z over d D =
    lt_not z (neg_ℤ (shr_z (neg_ℤ over) d)) ∙ ap not (at-ceiling z over d D) ∙ sym (lt_not (z *ℤ pos d) over)

-- the rounded point, the east value down and the north value up, is owned where the exact one is, whatever the edges
pub rounded-owned : (w : Edges) (e n : Fraction) → 0 < e.under → 0 < n.under → owns w (floor e) (ceiling n) ≡ owns_exactly w e n
rounded-owned w e n E N =
    rw (at-floor w.west e.over e.under E, before-floor w.east e.over e.under E, after-ceiling w.south n.over n.under N, at-ceiling w.north n.over n.under N)

-- ---- the rule for exact values is the rule for whole millimetres where they are whole

shr-times : (z : ℤ) (d : ℕ) → 0 < d → shr_z (z *ℤ pos d) d ≡ z
shr-times (pos k) d D = ap pos (mul-div_cancel k D)
shr-times (negsuc k) zero D = absurd (omega arith)
shr-times (negsuc k) (suc d) D =
    let e : suc k * suc d ≡ suc (k * suc d + d) = omega (arith, suc-mul k (suc d)) in
    ap (λ (n : ℕ). shr_z (neg_ℤ (pos n)) (suc d)) e ∙ ap negsuc (div-eq_of_lt-le (suc d) (omega arith) (omega (arith, suc-mul k (suc d))))

times-order : (y z : ℤ) (d : ℕ) → 0 < d → le_z (y *ℤ pos d) (z *ℤ pos d) ≡ le_z y z
times-order y z d D = sym (at-floor y (z *ℤ pos d) d D) ∙ ap (le_z y) (shr-times z d D)

times-before : (y z : ℤ) (d : ℕ) → 0 < d → lt_z (y *ℤ pos d) (z *ℤ pos d) ≡ lt_z y z
times-before y z d D = lt_not (y *ℤ pos d) (z *ℤ pos d) ∙ ap not (times-order z y d D) ∙ sym (lt_not y z)

pub whole-owned : (w : Edges) (x y : Fraction) (e n : ℤ) → 0 < x.under → 0 < y.under → IsWhole x e → IsWhole y n → owns_exactly w x y ≡ owns w e n
whole-owned w x y e n X Y p q =
    rw (p, q, times-order w.west e x.under X, times-before e w.east x.under X, times-before w.south n y.under Y, times-order n w.north y.under Y)
