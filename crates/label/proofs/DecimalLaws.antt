-- Decimal numbers: the digits without leading zeros grow by one digit at the end, as a loop writes them. Assumes nothing.
use mathlib.Core.Path.{◌≡◌, refl, sym, ap, ◌∙◌}
use mathlib.Core.Bool.{Bool, true, false, cond, ◌&&◌}
use mathlib.Core.List.{List, [], ◌∷◌, ◌++◌}
use mathlib.Core.Logic.{⊎_elim}
use Prim.Native.Nat.{ℕ, zero, suc, ◌+◌, ◌/◌, ◌%◌, ◌^◌, ◌≤◌, ◌<◌}
use native.Mathlib.Nat.{div-lt_iff_lt-mul, pow-suc, div-eq_of_lt, mod-eq_of_lt}
use native.Mathlib.Numerals.{add-one}
use native.Mathlib.Omega.{arith}
use borrow.Author.Tests.{ne_eqb, le-leb}
use lib.Dec.{eqb, leb}
use lib.ListN.{length, length-append, replicate, replicate-append-replicate}
use Rattle.division.proofs.TestLaws.{le-or-less}
use Rattle.label.specs.Text.{digits, without_zeros, decimal}

-- some digit is not zero
pub data Some : List ℕ → Type 0 where
  here : {d : ℕ} {ds : List ℕ} → (d ≡ 48 → ⊥) → Some (d ∷ ds)
  there : {d : ℕ} {ds : List ℕ} → Some ds → Some (d ∷ ds)

some-long : {ds : List ℕ} → Some ds → 0 < length ds
some-long (here n) = omega arith
some-long (there s) = omega arith

longer : (ds : List ℕ) (d : ℕ) → 1 ≤ length (ds ++ (d ∷ []))
longer ds d = omega (arith, length-append ds (d ∷ []))

-- behind a number that is not zero, a digit stays
pub behind : (ds : List ℕ) (d : ℕ) → Some ds → without_zeros (ds ++ (d ∷ [])) ≡ without_zeros ds ++ (d ∷ [])
unfolding without_zeros
behind [] d s = elim s [ ]
behind (x ∷ ds) d (here n) = rw (ne_eqb x 48 n)
behind (x ∷ ds) d (there s) = by (eqb x 48) (behind ds d s)
  where
    by : (b : Bool) → without_zeros (ds ++ (d ∷ [])) ≡ without_zeros ds ++ (d ∷ [])
        → cond (b && leb 1 (length (ds ++ (d ∷ [])))) (without_zeros (ds ++ (d ∷ []))) (x ∷ (ds ++ (d ∷ []))) ≡ cond (b && leb 1 (length ds)) (without_zeros ds) (x ∷ ds) ++ (d ∷ [])
    by true e = rw (le-leb 1 (length (ds ++ (d ∷ []))) (longer ds d), le-leb 1 (length ds) (some-long s)) e
    by false e = refl

pub some-append : {ds : List ℕ} (es : List ℕ) → Some ds → Some (ds ++ es)
some-append es (here n) = here n
some-append es (there s) = there (some-append es s)

pub some-last : (ds : List ℕ) {d : ℕ} → (d ≡ 48 → ⊥) → Some (ds ++ (d ∷ []))
some-last [] n = here n
some-last (x ∷ ds) n = there (some-last ds n)

-- a number divided by ten has a digit less
tenth : (k n : ℕ) → n < 10 ^ suc k → n / 10 < 10 ^ k
tenth k n h = (div-lt_iff_lt-mul {k = 10} (omega arith)).1 (omega (arith, pow-suc 10 k))

-- the digits of a number that is not zero, and fits, are not all zero
pub some-digits : (k n : ℕ) → 0 < n → n < 10 ^ k → Some (digits k n)
unfolding digits
some-digits zero n a b = absurd (omega arith)
some-digits (suc k) n a b = go (n / 10) refl (some-digits k (n / 10))
  where
    go : (q : ℕ) → n / 10 ≡ q → (0 < n / 10 → n / 10 < 10 ^ k → Some (digits k (n / 10))) → Some (digits k (n / 10) ++ ((48 + n % 10) ∷ []))
    go zero e ih = some-last (digits k (n / 10)) (λ z. omega arith)
    go (suc q) e ih = some-append ((48 + n % 10) ∷ []) (ih (omega arith) (tenth k n b))

-- a further digit
pub decimal_step : (k n : ℕ) → 10 ≤ n → n < 10 ^ suc k → without_zeros (digits (suc k) n) ≡ without_zeros (digits k (n / 10)) ++ ((48 + n % 10) ∷ [])
unfolding digits
decimal_step k n a b = behind (digits k (n / 10)) (48 + n % 10) (some-digits k (n / 10) (omega arith) (tenth k n b))

-- the first digit: only zeros stand before it
zeros-before : (k d : ℕ) → without_zeros (digits k 0 ++ (d ∷ [])) ≡ d ∷ []
unfolding digits without_zeros
zeros-before k d = rw (all-zero k) (drops k)
  where
    all-zero : (k : ℕ) → digits k 0 ≡ replicate k 48
    all-zero zero = refl
    all-zero (suc k) = rw (all-zero k) (replicate-append-replicate k 1 48 ∙ ap (λ (j : ℕ). replicate j 48) (add-one k))

    alone : (b : Bool) → cond (b && false) [] (d ∷ []) ≡ d ∷ []
    alone true = refl
    alone false = refl

    drops : (k : ℕ) → without_zeros (replicate k 48 ++ (d ∷ [])) ≡ d ∷ []
    drops zero = alone (eqb d 48)
    drops (suc k) = rw (le-leb 1 (length (replicate k 48 ++ (d ∷ []))) (longer (replicate k 48) d)) (drops k)

pub decimal-one : (k n : ℕ) → n < 10 → without_zeros (digits (suc k) n) ≡ (48 + n) ∷ []
unfolding digits
decimal-one k n h = rw (div-eq_of_lt h, mod-eq_of_lt h) (zeros-before k (48 + n))

-- ---- the decimal of a number

-- a place more than a number needs is a zero in front, and goes
wider : (k n : ℕ) → n < 10 ^ suc k → without_zeros (digits (suc (suc k)) n) ≡ without_zeros (digits (suc k) n)
wider zero n h = decimal-one 1 n h ∙ sym (decimal-one 0 n h)
wider (suc k) n h =
    ⊎_elim (λ g. decimal_step (suc (suc k)) n g (omega (arith, pow-suc 10 (suc (suc k)))) ∙ ap (λ (l : List ℕ). l ++ ((48 + n % 10) ∷ [])) (wider k (n / 10) (tenth (suc k) n h)) ∙ sym (decimal_step (suc k) n g h))
    (λ l. decimal-one (suc (suc k)) n l ∙ sym (decimal-one (suc k) n l)) (le-or-less 10 n)

-- one digit, or the last behind the others
pub decimal_digit : (n : ℕ) → n < 10 → decimal n ≡ (48 + n) ∷ []
unfolding decimal
decimal_digit n h = decimal-one 19 n h

pub decimal-more : (n : ℕ) → 10 ≤ n → n < 10 ^ 20 → decimal n ≡ decimal (n / 10) ++ ((48 + n % 10) ∷ [])
unfolding decimal
decimal-more n g h = decimal_step 19 n g h ∙ ap (λ (l : List ℕ). l ++ ((48 + n % 10) ∷ [])) (sym (wider 18 (n / 10) (tenth 19 n h)))

-- a number of at most so many digits
pub decimal-most : (k n : ℕ) → n < 10 ^ suc k → n < 10 ^ 20 → length (decimal n) ≤ suc k
decimal-most zero n h b = omega (arith, ap length (decimal_digit n h))
decimal-most (suc k) n h b =
    ⊎_elim (λ g. rw (decimal-more n g b, length-append) (omega (arith, decimal-most k (n / 10) (tenth (suc k) n h) (omega arith))))
    (λ l. omega (arith, ap length (decimal_digit n l))) (le-or-less 10 n)
