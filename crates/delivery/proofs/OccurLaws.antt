-- How often a number occurs: at least once where it is a member, and at most once where no two places have the same. Assumes nothing.
use mathlib.Core.Path.{◌≡◌, refl, sym, ◌∙◌, subst}
use mathlib.Core.Bool.{Bool, true, false, cond}
use mathlib.Core.Logic.{⊎_elim}
use mathlib.Core.List.Pairwise
use mathlib.Core.List.{List, [], ◌∷◌, Memᴰ, Nodup}
use Prim.Native.Nat.{ℕ, zero, suc, ◌+◌, ◌≤◌, ◌<◌}
use native.Mathlib.Nat.{le_of_suc-le-suc}
use native.Mathlib.Omega.{arith}
use borrow.Author.Tests.{eqb-true, eq-eqb}
use lib.ListN.{length, get_or}
use Rattle.division.specs.Words.{◌=?◌}
use Rattle.division.proofs.TestLaws.{le-or-less}
use Rattle.division.proofs.MemberLaws.{mem-at, mem-place}
use Rattle.delivery.specs.Theorems.{occurs}

-- no two places of a list have the same
abbrev pub Apart : List ℕ → Type 0
Apart l = (i j : ℕ) → i < j → j < length l → get_or l i 0 ≡ get_or l j 0 → ⊥

pub nodup-apart : {l : List ℕ} → Nodup l → Apart l
nodup-apart {l = []} Pairwise.nil i j h g e = omega arith
nodup-apart {l = x ∷ l} (Pairwise.cons d p) i zero h g e = omega arith
nodup-apart {l = x ∷ l} (Pairwise.cons d p) zero (suc j) h g e = d (get_or l j 0) ∣ mem-at l j (le_of_suc-le-suc g) ∣₁ e
nodup-apart {l = x ∷ l} (Pairwise.cons d p) (suc i) (suc j) h g e = nodup-apart p i j (le_of_suc-le-suc h) (le_of_suc-le-suc g) e

module _ (k : ℕ) where
  -- one number more
  occurs-here : (x : ℕ) (l : List ℕ) → k ≡ x → occurs k (x ∷ l) ≡ 1 + occurs k l
  unfolding occurs
  occurs-here x l e = rw (eq-eqb k x e)

  occurs-more : (x : ℕ) (l : List ℕ) → occurs k l ≤ occurs k (x ∷ l)
  unfolding occurs
  occurs-more x l = by (k =? x)
    where
      by : (b : Bool) → occurs k l ≤ cond b (1 + occurs k l) (occurs k l)
      by true = omega arith
      by false = omega arith

  pub mem-occurs : {l : List ℕ} → Memᴰ k l → 1 ≤ occurs k l
  mem-occurs {l = []} m = elim m [ ]
  mem-occurs {l = x ∷ l} (Memᴰ.head e) = omega (arith, occurs-here x l e)
  mem-occurs {l = x ∷ l} (Memᴰ.tail m) = omega (arith, mem-occurs m, occurs-more x l)

  pub occurs-mem : (l : List ℕ) → 1 ≤ occurs k l → Memᴰ k l
  unfolding occurs
  occurs-mem [] h = absurd (omega arith)
  occurs-mem (x ∷ l) h = by (k =? x) refl (occurs-mem l) h
    where
      by : (b : Bool) → (k =? x) ≡ b → (1 ≤ occurs k l → Memᴰ k l) → 1 ≤ cond b (1 + occurs k l) (occurs k l) → Memᴰ k (x ∷ l)
      by true e later h = Memᴰ.head (eqb-true k x e)
      by false e later h = Memᴰ.tail (later h)

  pub none-occurs : (l : List ℕ) → (Memᴰ k l → ⊥) → occurs k l ≡ 0
  none-occurs l h = ⊎_elim (λ g. absurd (h (occurs-mem l g))) (λ g. omega arith) (le-or-less 1 (occurs k l))

  -- two places with the same
  pub twice : (l : List ℕ) (i j : ℕ) → i < j → j < length l → get_or l i 0 ≡ k → get_or l j 0 ≡ k → 2 ≤ occurs k l
  twice [] i j h g e f = absurd (omega arith)
  twice (x ∷ l) i zero h g e f = absurd (omega arith)
  twice (x ∷ l) zero (suc j) h g e f =
      omega (arith, occurs-here x l (sym e), mem-occurs (subst (λ (y : ℕ). Memᴰ y l) f (mem-at l j (le_of_suc-le-suc g))))
  twice (x ∷ l) (suc i) (suc j) h g e f = omega (arith, occurs-more x l, twice l i j (le_of_suc-le-suc h) (le_of_suc-le-suc g) e f)

  pub at-most-once : (l : List ℕ) → Apart l → occurs k l ≤ 1
  unfolding occurs
  at-most-once [] a = omega arith
  at-most-once (x ∷ l) a = by (k =? x) refl (at-most-once l (λ i j h g e. a (suc i) (suc j) (omega arith) (omega arith) e))
    where
      later : k ≡ x → Memᴰ k l → ⊥
      later e m = let p = mem-place m in a 0 (suc p.0) (omega arith) (omega (arith, p.1)) (sym e ∙ sym p.2)

      by : (b : Bool) → (k =? x) ≡ b → occurs k l ≤ 1 → cond b (1 + occurs k l) (occurs k l) ≤ 1
      by true e few = omega (arith, none-occurs l (later (eqb-true k x e)))
      by false e few = few
