-- A number is written in digits, and fields in digits and hyphens. Assumes nothing.
use mathlib.Core.Path.{◌≡◌, refl}
use mathlib.Core.Bool.{Bool, true, false, cond, ◌&&◌}
use mathlib.Core.List.{List, [], ◌∷◌, ◌++◌, flat_map}
use Prim.Native.Nat.{ℕ, zero, suc, ◌+◌, ◌/◌, ◌%◌}
use native.Mathlib.Omega.{arith}
use lib.ListN.{length}
use Rattle.division.specs.Words.{◌≤?◌, ◌=?◌}
use Rattle.division.proofs.TestLaws.{both, in_between}
use Rattle.label.specs.Text.{every, digits, without_zeros, decimal}
use Rattle.label.specs.Label.{is_label_byte}
use Rattle.label.specs.Given.{behind}
use Rattle.label.proofs.SpellLaws.{Digits, digits_append}

-- ---- digits

all_digits : (k n : ℕ) → Digits (digits k n)
unfolding digits
all_digits zero n = tt
all_digits (suc k) n = digits_append (digits k (n / 10)) ((48 + n % 10) ∷ []) (all_digits k (n / 10)) ((omega arith, omega arith), tt)

fewer_digits : (ds : List ℕ) → Digits ds → Digits (without_zeros ds)
unfolding without_zeros
fewer_digits [] h = tt
fewer_digits (d ∷ ds) h = by (d =? 48 && 1 ≤? length ds) (fewer_digits ds h.1)
  where
    by : (b : Bool) → Digits (without_zeros ds) → Digits (cond b (without_zeros ds) (d ∷ ds))
    by true g = g
    by false g = h

pub decimal-digits : (n : ℕ) → Digits (decimal n)
unfolding decimal
decimal-digits n = fewer_digits (digits 20 n) (all_digits 20 n)

-- ---- bytes of a label

pub plain-append : (a b : List ℕ) → every is_label_byte a ≡ true → every is_label_byte b ≡ true → every is_label_byte (a ++ b) ≡ true
unfolding every
plain-append [] b e f = f
plain-append (x ∷ a) b e f = let t = both (is_label_byte x) (every is_label_byte a) e in rw t.0 (plain-append a b t.1 f)

digits-plain : (ds : List ℕ) → Digits ds → every is_label_byte ds ≡ true
unfolding every
digits-plain [] h = refl
digits-plain (d ∷ ds) h = rw (in_between 48 57 d h.0.0 h.0.1) (digits-plain ds h.1)

pub decimal-plain : (n : ℕ) → every is_label_byte (decimal n) ≡ true
decimal-plain n = digits-plain (decimal n) (decimal-digits n)

pub behind-plain : (fs : List ℕ) → every is_label_byte (behind fs) ≡ true
unfolding every flat_map
behind-plain [] = refl
behind-plain (f ∷ fs) = plain-append (45 ∷ decimal f) (behind fs) (decimal-plain f) (behind-plain fs)
