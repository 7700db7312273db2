-- Runs of numbers: what is kept of a run by a test that holds from low up to high is the run from low up to high. Assumes nothing.
use mathlib.Core.Path.{◌≡◌, refl, ap, ◌∙◌}
use mathlib.Core.Bool.{Bool, true, false, cond}
use mathlib.Core.List.{List, [], ◌∷◌, ◌++◌, append-nil}
use Prim.Native.Nat.{ℕ, zero, suc, ◌+◌, ◌≤◌, ◌<◌}
use native.Mathlib.Nat.{le_of_suc-le-suc}
use native.Mathlib.Omega.{arith}
use lib.ListN.{length, get_or}
use Rattle.division.specs.Words.{from, keep}

pub length_from : (a n : ℕ) → length (from a n) ≡ n
unfolding from
length_from a zero = refl
length_from a (suc n) = ap suc (length_from (a + 1) n)

pub get_or-from : (a n i : ℕ) → i < n → get_or (from a n) i 0 ≡ a + i
unfolding from
get_or-from a zero i h = absurd (omega arith)
get_or-from a (suc n) zero h = omega arith
get_or-from a (suc n) (suc i) h = get_or-from (a + 1) n i (le_of_suc-le-suc h) ∙ omega arith

pub from-append : (a m n : ℕ) → from a (m + n) ≡ from a m ++ from (a + m) n
unfolding from
from-append a zero n =
    let e : 0 + n ≡ n = omega arith in
    let g : a + 0 ≡ a = omega arith in rw (e, g)
from-append a (suc m) n =
    let e : suc m + n ≡ suc (m + n) = omega arith in
    let g : a + suc m ≡ a + 1 + m = omega arith in
    rw (e, g) (ap (λ (l : List ℕ). a ∷ l) (from-append (a + 1) m n))

module _ (f : ℕ → Bool) where
  pub keep-none : (a n : ℕ) → ((c : ℕ) → a ≤ c → c < a + n → f c ≡ false) → keep f (from a n) ≡ []
  unfolding keep from
  keep-none a zero h = refl
  keep-none a (suc n) h = rw (h a (omega arith) (omega arith)) (keep-none (a + 1) n (λ c x y. h c (omega arith) (omega arith)))

  keep_all : (a n : ℕ) → ((c : ℕ) → a ≤ c → c < a + n → f c ≡ true) → keep f (from a n) ≡ from a n
  unfolding keep from
  keep_all a zero h = refl
  keep_all a (suc n) h = rw (h a (omega arith) (omega arith)) (ap (λ (l : List ℕ). a ∷ l) (keep_all (a + 1) n (λ c x y. h c (omega arith) (omega arith))))

  keep_append : (s t : List ℕ) → keep f (s ++ t) ≡ keep f s ++ keep f t
  unfolding keep
  keep_append [] t = refl
  keep_append (x ∷ s) t = by (f x) (keep_append s t)
    where
      by : (b : Bool) → keep f (s ++ t) ≡ keep f s ++ keep f t → cond b (x ∷ keep f (s ++ t)) (keep f (s ++ t)) ≡ cond b (x ∷ keep f s) (keep f s) ++ keep f t
      by true e = ap (λ (l : List ℕ). x ∷ l) e
      by false e = e

  -- the test holds for `size` numbers from a + low on, and for no other of the run
  pub keep-range : (a low size rest : ℕ) → ((c : ℕ) → a ≤ c → c < a + low → f c ≡ false) → ((c : ℕ) → a + low ≤ c → c < a + low + size → f c ≡ true) → ((c : ℕ) → a + low + size ≤ c → c < a + low + size + rest → f c ≡ false) → keep f (from a (low + (size + rest))) ≡ from (a + low) size
  keep-range a low size rest before inside after =
      let x : keep f (from a low) ≡ [] = keep-none a low before in
      let y : keep f (from (a + low) size) ≡ from (a + low) size = keep_all (a + low) size inside in
      let z : keep f (from (a + low + size) rest) ≡ [] = keep-none (a + low + size) rest after in
      rw (from-append a low (size + rest), from-append (a + low) size rest, keep_append (from a low), keep_append (from (a + low) size), x, y, z) (append-nil (from (a + low) size))
