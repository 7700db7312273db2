-- Words about numbers and lists that the paper takes for granted.
use Rattle.std.specs.Prelude.{ℕ, zero, suc, ◌+◌, Bool, cond, ◌&&◌, List, [], ◌∷◌, leb, ltb, eqb, ℤ}
use Rattle.std.specs.Int.Signed.{le_z, lt_z}

-- tests on numbers, and on signed numbers
infix 50 ◌≤?◌ ◌<?◌ ◌=?◌ ◌≤ᶻ◌ ◌<ᶻ◌
abbrev pub ◌≤?◌ : ℕ → ℕ → Bool
a ≤? b = leb a b

abbrev pub ◌<?◌ : ℕ → ℕ → Bool
a <? b = ltb a b

abbrev pub ◌=?◌ : ℕ → ℕ → Bool
a =? b = eqb a b

abbrev pub ◌≤ᶻ◌ : ℤ → ℤ → Bool
a ≤ᶻ b = le_z a b

abbrev pub ◌<ᶻ◌ : ℤ → ℤ → Bool
a <ᶻ b = lt_z a b

-- x is one of low .. high
abbrev pub between : ℕ → ℕ → ℕ → Bool
between low high x = low ≤? x && x ≤? high

-- the n numbers from a on
unfoldable pub from : ℕ → ℕ → List ℕ
from a zero = []
from a (suc n) = a ∷ from (a + 1) n

-- those of a list that pass a test
unfoldable pub keep : {A : Type 0} → (A → Bool) → List A → List A
keep test [] = []
keep test (x ∷ xs) = cond (test x) (x ∷ keep test xs) (keep test xs)
