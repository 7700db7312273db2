-- A number below a thousand has one, two or three digits, more of them the larger it is. Assumes nothing.
use mathlib.Core.Path.{◌≡◌, ◌∙◌}
use mathlib.Core.List.{[], ◌∷◌}
use mathlib.Core.Logic.{⊎_elim}
use Prim.Native.Nat.{ℕ, ◌+◌, ◌/◌, ◌%◌, ◌≤◌, ◌<◌}
use native.Mathlib.Omega.{arith}
use borrow.Author.Tests.{le-leb, lt-leb}
use lib.ListN.{length}
use mir.Val.{bool_byte}
use Rattle.division.specs.Words.{◌≤?◌}
use Rattle.division.proofs.TestLaws.{le-or-less}
use Rattle.label.specs.Text.{decimal}
use Rattle.label.proofs.DecimalLaws.{decimal_digit, decimal-more}

pub decimal-1 : (v : ℕ) → v < 10 → decimal v ≡ (48 + v % 10) ∷ []
decimal-1 v h = let e : v % 10 ≡ v = omega arith in rw e (decimal_digit v h)

pub decimal-2 : (v : ℕ) → 10 ≤ v → v < 100 → decimal v ≡ (48 + v / 10 % 10) ∷ (48 + v % 10) ∷ []
decimal-2 v g h = decimal-more v g (omega arith) ∙ rw (decimal-1 (v / 10) (omega arith))

pub decimal-3 : (v : ℕ) → 100 ≤ v → v < 1_000 → decimal v ≡ (48 + v / 100) ∷ (48 + v / 10 % 10) ∷ (48 + v % 10) ∷ []
decimal-3 v g h =
    let e : v / 10 / 10 % 10 ≡ v / 100 = omega arith in
    decimal-more v (omega arith) (omega arith) ∙ rw (decimal-2 (v / 10) (omega arith) (omega arith), e)

-- ---- how many digits

pub size : (v : ℕ) → v < 1_000 → length (decimal v) ≡ 1 + bool_byte (10 ≤? v) + bool_byte (100 ≤? v)
size v h =
    ⊎_elim (λ a. ⊎_elim (λ b. rw (decimal-3 v b h, le-leb 10 v a, le-leb 100 v b))
    (λ b. rw (decimal-2 v a b, le-leb 10 v a, lt-leb 100 v b)) (le-or-less 100 v))
    (λ a. rw (decimal-1 v a, lt-leb 10 v a, lt-leb 100 v (omega arith))) (le-or-less 10 v)

bit-rises : (a v w : ℕ) → v ≤ w → bool_byte (a ≤? v) ≤ bool_byte (a ≤? w)
bit-rises a v w h = ⊎_elim (λ l. rw (le-leb a v l, le-leb a w (omega arith)) (omega arith)) (λ l. rw (lt-leb a v l) (omega arith)) (le-or-less a v)

pub size-rises : (v w : ℕ) → v ≤ w → w < 1_000 → length (decimal v) ≤ length (decimal w)
size-rises v w h l = omega (arith, size v (omega arith), size w l, bit-rises 10 v w h, bit-rises 100 v w h)
