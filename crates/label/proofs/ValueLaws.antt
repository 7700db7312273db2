-- Decimal digits stand for the number that they were written from, and grow at the end as a loop reads them.
use mathlib.Core.Path.{◌≡◌, refl, sym, ◌∙◌}
use mathlib.Core.Bool.{Bool, true, false, cond, ◌&&◌}
use mathlib.Core.List.{List, [], ◌∷◌, ◌++◌}
use Prim.Native.Nat.{ℕ, zero, suc, ◌+◌, ◌-◌, ◌*◌, ◌/◌, ◌%◌, ◌^◌, ◌<◌}
use native.Mathlib.Nat.{pow-suc, add-mul, mul_assoc, add_assoc, div-lt_iff_lt-mul, div-add-mod', zero-mul}
use native.Mathlib.Omega.{arith}
use native.Mathlib.Numerals.{add-one}
use borrow.Author.Tests.{eqb-true}
use lib.Dec.{eqb, leb}
use lib.ListN.{length, length-append}
use Rattle.label.specs.Text.{digits, without_zeros, decimal, value}

pub value-snoc : (ds : List ℕ) (d : ℕ) → value (ds ++ (d ∷ [])) ≡ value ds * 10 + (d - 48)
unfolding value
value-snoc [] d = let e : (d - 48) * 1 + 0 ≡ 0 * 10 + (d - 48) = omega arith in e
value-snoc (x ∷ ds) d =
    let n : length (ds ++ (d ∷ [])) ≡ suc (length ds) = length-append ds (d ∷ []) ∙ add-one (length ds) in
    let a = (x - 48) * 10 ^ length ds in
    rw (n, pow-suc 10 (length ds), value-snoc ds d, add-mul a (value ds) 10, ← mul_assoc (x - 48) (10 ^ length ds) 10) (sym (add_assoc (a * 10) (value ds * 10) (d - 48)))

pub value-digits : (k n : ℕ) → n < 10 ^ k → value (digits k n) ≡ n
unfolding digits value
value-digits zero n h = omega arith
value-digits (suc k) n h =
    let q : n / 10 < 10 ^ k = (div-lt_iff_lt-mul {k = 10} (omega arith)).1 (omega (arith, pow-suc 10 k)) in
    let v : 48 + n % 10 - 48 ≡ n % 10 = omega arith in
    rw (value-snoc (digits k (n / 10)) (48 + n % 10), value-digits k (n / 10) q, v) (div-add-mod' n 10)

pub value-without_zeros : (ds : List ℕ) → value (without_zeros ds) ≡ value ds
unfolding without_zeros value
value-without_zeros [] = refl
value-without_zeros (d ∷ ds) = by (eqb d 48) refl (leb 1 (length ds)) (value-without_zeros ds)
  where
    kept : (d - 48) * 10 ^ length ds + value ds ≡ value (d ∷ ds)
    kept = refl

    by : (t : Bool) → eqb d 48 ≡ t → (u : Bool) → value (without_zeros ds) ≡ value ds → value (cond (t && u) (without_zeros ds) (d ∷ ds)) ≡ (d - 48) * 10 ^ length ds + value ds
    by true e true ih = let z : d - 48 ≡ 0 = omega (arith, eqb-true d 48 e) in rw (z, zero-mul (10 ^ length ds), ih) (omega arith)
    by true e false ih = refl
    by false e u ih = refl

pub value-decimal : (n : ℕ) → n < 10 ^ 20 → value (decimal n) ≡ n
unfolding decimal
value-decimal n h = value-without_zeros (digits 20 n) ∙ value-digits 20 n h
