-- Signed numbers: their size, minus, and the order that it turns round. Assumes nothing.
use mathlib.Core.Path.{◌≡◌, refl, sym, ap, ◌∙◌}
use mathlib.Core.Bool.{Bool, true, false, not}
use Prim.Native.Nat.{ℕ, zero, suc, ◌*◌, ◌^◌, ◌≤◌, ◌<◌, suc-le-suc}
use native.Mathlib.Nat.{lt_of_le_of_lt, div-le_self, zero-mul}
use native.Mathlib.Omega.{arith}
use borrow.Author.Tests.{le-leb, lt-leb}
use lib.IntN.{ℤ, pos, negsuc, neg_ℤ, nat_abs, ◌*ℤ◌, neg_ℤ-neg_ℤ}
use lib.Signed.{le_z, mag, shr_z}
use mir.Syntax.{w64}
use mir.Val.{to_z, of_z}
use Rattle.division.proofs.TestLaws.{returned, same-leb}
use Rattle.frame.specs.Exact.{signed}

-- ---- size

pub abs_neg : (z : ℤ) → nat_abs (neg_ℤ z) ≡ nat_abs z
abs_neg (pos zero) = refl
abs_neg (pos (suc n)) = refl
abs_neg (negsuc n) = refl

pub abs-signed : (s : Bool) (n : ℕ) → nat_abs (signed s n) ≡ n
abs-signed false n = refl
abs-signed true n = abs_neg (pos n)

-- a size below 2 ^ 63 fits the machine's numbers
pub fits : (z : ℤ) → nat_abs z < 2 ^ 63 → mag z < 2 ^ 63
fits (pos n) h = h
fits (negsuc n) h = omega arith

-- what the machine keeps of a number, which is the number
abbrev pub kept : ℤ → ℤ
kept z = to_z w64 (of_z w64 z)

pub keep : (z : ℤ) → nat_abs z < 2 ^ 63 → kept z ≡ z
keep z h = returned z (fits z h)

abs-shr : (z : ℤ) (d : ℕ) → nat_abs (shr_z z d) ≤ nat_abs z
abs-shr (pos a) d = div-le_self a d
abs-shr (negsuc a) d = suc-le-suc (div-le_self a d)

-- a signed size, and the same shifted
module _ (s : Bool) (n : ℕ) (h : n < 2 ^ 63) where
  pub signed-small : nat_abs (signed s n) < 2 ^ 63
  signed-small = rw (abs-signed s n) h

  pub signed-fits : mag (signed s n) < 2 ^ 63
  signed-fits = fits (signed s n) signed-small

  pub shifted-small : (d : ℕ) → nat_abs (shr_z (signed s n) d) < 2 ^ 63
  shifted-small d = lt_of_le_of_lt (abs-shr (signed s n) d) signed-small

  module _ {z : ℤ} (e : z ≡ signed s n) where
    pub signed-kept : kept z ≡ signed s n
    signed-kept = ap kept e ∙ keep (signed s n) signed-small

    pub shifted-kept : {k j : ℕ} → k ≡ j → kept (shr_z (kept z) (2 ^ k)) ≡ shr_z (signed s n) (2 ^ j)
    shifted-kept {k} {j} f = ap kept (ap (λ (x : ℤ). shr_z x (2 ^ k)) signed-kept ∙ ap (λ (i : ℕ). shr_z (signed s n) (2 ^ i)) f) ∙ keep (shr_z (signed s n) (2 ^ j)) (shifted-small (2 ^ j))

-- ---- minus

pub neg-signed : (s : Bool) (n : ℕ) → neg_ℤ (signed s n) ≡ signed (not s) n
neg-signed false n = refl
neg-signed true n = neg_ℤ-neg_ℤ (pos n)

pub neg-times : (z : ℤ) (d : ℕ) → neg_ℤ z *ℤ pos d ≡ neg_ℤ (z *ℤ pos d)
neg-times (pos zero) d = rw (zero-mul d)
neg-times (pos (suc n)) d = refl
neg-times (negsuc n) d = sym (neg_ℤ-neg_ℤ (pos (suc n * d)))

pub neg-order : (a b : ℤ) → le_z (neg_ℤ a) (neg_ℤ b) ≡ le_z b a
neg-order (pos zero) (pos zero) = refl
neg-order (pos zero) (pos (suc b)) = sym (lt-leb (suc b) 0 (omega arith))
neg-order (pos zero) (negsuc b) = le-leb 0 (suc b) (omega arith)
neg-order (pos (suc a)) (pos zero) = sym (le-leb 0 (suc a) (omega arith))
neg-order (pos (suc a)) (pos (suc b)) = same-leb b a (suc b) (suc a) (λ h. omega arith) (λ h. omega arith)
neg-order (pos (suc a)) (negsuc b) = refl
neg-order (negsuc a) (pos zero) = lt-leb (suc a) 0 (omega arith)
neg-order (negsuc a) (pos (suc b)) = refl
neg-order (negsuc a) (negsuc b) = same-leb (suc a) (suc b) a b (λ h. omega arith) (λ h. omega arith)

pub neg-turns : (a b : ℤ) → le_z (neg_ℤ a) b ≡ le_z (neg_ℤ b) a
neg-turns a b = ap (le_z (neg_ℤ a)) (sym (neg_ℤ-neg_ℤ b)) ∙ neg-order a (neg_ℤ b)
