-- What is in a list, in a run of numbers, in what a test keeps of a list, and in a block of rows and columns. Assumes nothing.
use mathlib.Core.Path.{◌≡◌, refl, sym, ap, ◌∙◌}
use mathlib.Core.Bool.{Bool, true, false, cond, ◌||◌}
use mathlib.Core.Logic.{⊎_elim}
use mathlib.Core.List.Memᴰ
use mathlib.Core.List.{List, [], ◌∷◌, map, flat_map, Memᴰ}
use Prim.Native.Nat.{ℕ, zero, suc, ◌+◌, ◌≤◌, ◌<◌}
use native.Mathlib.Nat.{eq-or-lt_of_le, le_of_suc-le-suc}
use native.Mathlib.Omega.{arith}
use borrow.Author.Tests.{eqb-true, eq-eqb}
use lib.ListN.{length, get_or}
use Rattle.refusal.specs.Numbers.{is_in}
use Rattle.division.specs.Words.{◌=?◌, from, keep}
use Rattle.division.specs.Cover.{block}
use Rattle.division.proofs.BlockLaws.{sheet_in}

pub in_mem : (k : ℕ) (l : List ℕ) → is_in l k ≡ true → Memᴰ k l
in_mem k [] e = let z : ◌≡◌ {A = ℕ} 0 1 = cc in absurd (omega arith)
in_mem k (x ∷ l) e = by (k =? x) refl e (in_mem k l)
  where
    by : (b : Bool) → (k =? x) ≡ b → (b || is_in l k) ≡ true → (is_in l k ≡ true → Memᴰ k l) → Memᴰ k (x ∷ l)
    by true f e below = Memᴰ.head (eqb-true k x f)
    by false f e below = Memᴰ.tail (below e)

pub mem-in : (k : ℕ) {l : List ℕ} → Memᴰ k l → is_in l k ≡ true
mem-in k {l = []} m = elim m [ ]
mem-in k {l = x ∷ l} (Memᴰ.head g) = rw (eq-eqb k x g)
mem-in k {l = x ∷ l} (Memᴰ.tail m) = by (k =? x) (mem-in k m)
  where
    by : (b : Bool) → is_in l k ≡ true → (b || is_in l k) ≡ true
    by true e = refl
    by false e = e

pub mem-at : (l : List ℕ) (i : ℕ) → i < length l → Memᴰ (get_or l i 0) l
mem-at [] i h = absurd (omega arith)
mem-at (x ∷ l) zero h = Memᴰ.head refl
mem-at (x ∷ l) (suc i) h = Memᴰ.tail (mem-at l i (le_of_suc-le-suc h))

-- and each member stands at a place
pub mem-place : {k : ℕ} {l : List ℕ} → Memᴰ k l → (i : ℕ) × (i < length l) × (get_or l i 0 ≡ k)
mem-place {l = []} m = elim m [ ]
mem-place {l = x ∷ l} (Memᴰ.head e) = (0, omega arith, sym e)
mem-place {l = x ∷ l} (Memᴰ.tail m) = let p = mem-place m in (suc p.0, omega (arith, p.1), p.2)

pub from-has : (a n : ℕ) {x : ℕ} → Memᴰ x (from a n) → (a ≤ x) × (x < a + n)
unfolding from
from-has a zero m = absurd (Memᴰ.not-nil m)
from-has a (suc n) m =
    ⊎_elim (λ e. (omega arith, omega arith)) (λ k. let h = from-has (a + 1) n k in (omega arith, omega arith)) (Memᴰ.cases_cons m)

pub has-from : (a n x : ℕ) → a ≤ x → x < a + n → Memᴰ x (from a n)
unfolding from
has-from a zero x h l = absurd (omega arith)
has-from a (suc n) x h l =
    ⊎_elim (λ e. Memᴰ.head (sym e)) (λ k. Memᴰ.tail (has-from (a + 1) n x (omega arith) (omega arith))) (eq-or-lt_of_le h)

module _ (f : ℕ → Bool) where
  pub keep-has : (l : List ℕ) {x : ℕ} → Memᴰ x (keep f l) → Memᴰ x l × (f x ≡ true)
  unfolding keep
  keep-has [] m = absurd (Memᴰ.not-nil m)
  keep-has (y ∷ l) {x} m = by (f y) refl (λ k. keep-has l k) m
    where
      by : (b : Bool) → f y ≡ b → (Memᴰ x (keep f l) → Memᴰ x l × (f x ≡ true)) → Memᴰ x (cond b (y ∷ keep f l) (keep f l)) → Memᴰ x (y ∷ l) × (f x ≡ true)
      by true e below m = ⊎_elim (λ g. (Memᴰ.head g, ap f g ∙ e)) (λ k. (Memᴰ.tail (below k).0, (below k).1)) (Memᴰ.cases_cons m)
      by false e below m = (Memᴰ.tail (below m).0, (below m).1)

  pub has-keep : {x : ℕ} → f x ≡ true → {l : List ℕ} → Memᴰ x l → Memᴰ x (keep f l)
  unfolding keep
  has-keep e {l = []} m = elim m [ ]
  has-keep {x} e {l = y ∷ l} (Memᴰ.head g) = let h : f y ≡ true = ap f (sym g) ∙ e in rw h (Memᴰ.head g)
  has-keep {x} e {l = y ∷ l} (Memᴰ.tail m) = by (f y) (has-keep e m)
    where
      by : (b : Bool) → Memᴰ x (keep f l) → Memᴰ x (cond b (y ∷ keep f l) (keep f l))
      by true m = Memᴰ.tail m
      by false m = m

-- sheet k stands in a row and a column of the block
pub record Cell (s : ℕ) (rs cs : List ℕ) (k : ℕ) : Type 0 where
  pub row : ℕ
  pub column : ℕ
  pub in_rows : Memᴰ row rs
  pub in-columns : Memᴰ column cs
  pub is : sheet_in s row column ≡ k

pub block-has : (s : ℕ) (rs cs : List ℕ) {k : ℕ} → Memᴰ k (block s rs cs) → Cell s rs cs k
unfolding block flat_map
block-has s [] cs m = absurd (Memᴰ.not-nil m)
block-has s (r ∷ rs) cs m =
    ⊎_elim
    (λ a. let t = Memᴰ.of_map (sheet_in s r) cs a in record { row = r; column = t.0; in_rows = Memᴰ.head refl; in-columns = t.1; is = t.2 })
    (λ b. let t = block-has s rs cs b in record { row = t.row; column = t.column; in_rows = Memᴰ.tail t.in_rows; in-columns = t.in-columns; is = t.is })
    (Memᴰ.append_cases (map (sheet_in s r) cs) m)

pub has_block : (s : ℕ) (cs : List ℕ) {r c : ℕ} {rs : List ℕ} → Memᴰ r rs → Memᴰ c cs → Memᴰ (sheet_in s r c) (block s rs cs)
unfolding block flat_map
has_block s cs {rs = []} h m = elim h [ ]
has_block s cs {r} {c} {rs = x ∷ rs} (Memᴰ.head e) m = Memᴰ.append_left (block s rs cs) (Memᴰ.cast (ap (λ (r : ℕ). sheet_in s r c) e) (Memᴰ.map (sheet_in s x) m))
has_block s cs {rs = x ∷ rs} (Memᴰ.tail h) m = Memᴰ.append_right (map (sheet_in s x) cs) (has_block s cs h m)
