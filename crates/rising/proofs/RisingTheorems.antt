-- Which lists pass and which are refused, and that the members of a rising list determine it: the first of them is the least. Assumes nothing.
use mathlib.Core.Path.{◌≡◌, refl, sym, ap, ap₂, ◌∙◌}
use mathlib.Core.Bool.{Bool, true, false}
use mathlib.Core.Logic.{⊎_elim, ◌↔◌}
use mathlib.Core.List.Memᴰ
use mathlib.Core.List.{List, [], ◌∷◌, Memᴰ}
use Prim.Native.Nat.{ℕ, zero, suc, ◌+◌, ◌≤◌, ◌<◌}
use native.Mathlib.Numerals.{add-one}
use native.Mathlib.Omega.{arith}
use borrow.Author.Tests.{leb-true}
use lib.Dec.{leb}
use lib.ListN.{length, get_or, take}
use Rattle.refusal.specs.Paper.{Paper, answer, refused, refuse◌unless◌, ◌>>◌}
use Rattle.refusal.proofs.PaperLaws.{differs}
use Rattle.rising.specs.Rising.{rising_from, IsSet, least_at, Rises, FirstFault}
use Rattle.rising.proofs.RisingLaws.{head, rising-more}

-- ---- a number in front of a list

-- what may come next behind it is what may come first in the list
behind : (least x : ℕ) (xs : List ℕ) (i : ℕ) → least_at least (x ∷ xs) (suc i) ≡ least_at (x + 1) xs i
behind least x xs zero = refl
behind least x xs (suc i) = refl

module _ (judge : ℕ → Paper Unit) (least x : ℕ) (xs : List ℕ) where
  rises-more : judge x ≡ answer tt → least ≤ x → Rises judge (x + 1) xs → Rises judge least (x ∷ xs)
  rises-more fine low r = record { each = each; rising = rising }
    where
      each : (i : ℕ) → i < length (x ∷ xs) → judge (get_or (x ∷ xs) i 0) ≡ answer tt
      each zero h = fine
      each (suc i) h = r.each i (omega arith)

      rising : (i : ℕ) → i < length (x ∷ xs) → least_at least (x ∷ xs) i ≤ get_or (x ∷ xs) i 0
      rising zero h = low
      rising (suc i) h = rw (behind least x xs i) (r.rising i (omega arith))

  rises-behind : Rises judge least (x ∷ xs) → Rises judge (x + 1) xs
  rises-behind r = record {
    each = λ i h. r.each (suc i) (omega arith);
    rising = λ i h. rw (behind least x xs i) at (r.rising (suc i) (omega arith));
  }

-- ---- a list passes exactly if each number is fine and they rise

module _ (judge : ℕ → Paper Unit) where
  pub rises-passes : (least : ℕ) (xs : List ℕ) → Rises judge least xs → rising_from judge least xs ≡ answer tt
  unfolding rising_from
  rises-passes least [] r = refl
  rises-passes least (x ∷ xs) r =
      rising-more judge least x xs (r.each 0 (omega arith)) (r.rising 0 (omega arith)) ∙ rises-passes (x + 1) xs (rises-behind judge least x xs r)

  pub passes-rises : (least : ℕ) (xs : List ℕ) → rising_from judge least xs ≡ answer tt → Rises judge least xs
  passes-rises least [] e = record { each = λ i h. absurd (omega arith); rising = λ i h. absurd (omega arith) }
  passes-rises least (x ∷ xs) e = let f = head judge least x xs e in rises-more judge least x xs f.fine f.rises (passes-rises (x + 1) xs f.later)

-- so it is a set exactly if it passes and is not too long
module _ (judge : ℕ → Paper Unit) (limit : ℕ) (xs : List ℕ) where
  pub set-passes : IsSet judge limit xs → rising_from judge 0 xs ≡ answer tt
  set-passes s = rises-passes judge 0 xs (record { each = s.each; rising = rising })
    where
      rising : (i : ℕ) → i < length xs → least_at 0 xs i ≤ get_or xs i 0
      rising zero h = omega arith
      rising (suc i) h = let l = rw (add-one i) at (s.rising i (omega arith)) in omega arith

  pub passes-set : length xs ≤ limit → rising_from judge 0 xs ≡ answer tt → IsSet judge limit xs
  passes-set few e =
      let r = passes-rises judge 0 xs e in
      record { few = few; each = r.each; rising = λ i h. rw (add-one i) (omega (arith, r.rising (suc i) (omega arith))) }

-- ---- and is refused exactly as its first faulty place is

-- a place that is refused is so whatever follows, and one that is not leaves it to what follows
stops : {n v : ℕ} (p : Paper Unit) (rises : Bool) (next : Paper Unit) → (p >> refuse 15 unless rises) ≡ refused n v → (p >> ((refuse 15 unless rises) >> next)) ≡ refused n v
stops (refused m w) rises next e = e
stops (answer fine) false next e = e
stops (answer fine) true next e = absurd (differs e)

module _ (judge : ℕ → Paper Unit) (number value : ℕ) where
  -- a number that passes in front of them
  fault-behind : (least x : ℕ) (xs : List ℕ) → judge x ≡ answer tt → least ≤ x → FirstFault judge (x + 1) xs (refused number value) → FirstFault judge least (x ∷ xs) (refused number value)
  fault-behind least x xs fine low f = record {
    place = suc f.place;
    inside = omega (arith, f.inside);
    front = rises-more judge least x (take f.place xs) fine low f.front;
    fault = rw (behind least x xs f.place) f.fault;
  }

  pub refused-faulty : (least : ℕ) (xs : List ℕ) → rising_from judge least xs ≡ refused number value → FirstFault judge least xs (refused number value)
  unfolding rising_from
  refused-faulty least [] e = absurd (differs e)
  refused-faulty least (x ∷ xs) e = by (judge x) refl (leb least x) refl (refused-faulty (x + 1) xs) e
    where
      here : (judge x >> refuse 15 unless leb least x) ≡ refused number value → FirstFault judge least (x ∷ xs) (refused number value)
      here e = record { place = 0; inside = omega arith; front = record { each = λ i h. absurd (omega arith); rising = λ i h. absurd (omega arith) }; fault = e }

      by : (p : Paper Unit) → judge x ≡ p → (t : Bool) → leb least x ≡ t → (rising_from judge (x + 1) xs ≡ refused number value → FirstFault judge (x + 1) xs (refused number value))
          → (p >> ((refuse 15 unless t) >> rising_from judge (x + 1) xs)) ≡ refused number value → FirstFault judge least (x ∷ xs) (refused number value)
      by (refused n v) f t g later e = here (rw f e)
      by (answer tt) f false g later e = here (rw (f, g) e)
      by (answer tt) f true g later e = fault-behind least x xs f (leb-true least x g) (later e)

  faulty-at : (least : ℕ) (xs : List ℕ) (place : ℕ) → place < length xs → Rises judge least (take place xs)
      → (judge (get_or xs place 0) >> refuse 15 unless leb (least_at least xs place) (get_or xs place 0)) ≡ refused number value → rising_from judge least xs ≡ refused number value
  unfolding rising_from
  faulty-at least [] place h r e = absurd (omega arith)
  faulty-at least (x ∷ xs) zero h r e = stops (judge x) (leb least x) _ e
  faulty-at least (x ∷ xs) (suc i) h r e =
      rising-more judge least x xs (r.each 0 (omega arith)) (r.rising 0 (omega arith))
      ∙ faulty-at (x + 1) xs i (omega arith) (rises-behind judge least x (take i xs) r) (rw (behind least x xs i) at e)

  pub faulty-refused : (least : ℕ) (xs : List ℕ) → FirstFault judge least xs (refused number value) → rising_from judge least xs ≡ refused number value
  faulty-refused least xs f = faulty-at least xs f.place f.inside f.front f.fault

-- ---- its members determine it

-- of two lists the second has every member of the first
abbrev Has : List ℕ → List ℕ → Type 0
Has a b = (x : ℕ) → Memᴰ x a → Memᴰ x b

module _ (judge : ℕ → Paper Unit) where
  -- each member is fine
  pub member-fine : (least : ℕ) (xs : List ℕ) → rising_from judge least xs ≡ answer tt → {x : ℕ} → Memᴰ x xs → judge x ≡ answer tt
  member-fine least [] e m = absurd (Memᴰ.not-nil m)
  member-fine least (y ∷ ys) e m =
      let f = head judge least y ys e in
      ⊎_elim (λ same. ap judge same ∙ f.fine) (λ later. member-fine (y + 1) ys f.later later) (Memᴰ.cases_cons m)

  -- none is below the least, nor below what begins the list
  pub not-below : (least : ℕ) (xs : List ℕ) → rising_from judge least xs ≡ answer tt → {x : ℕ} → Memᴰ x xs → least ≤ x
  not-below least [] e m = absurd (Memᴰ.not-nil m)
  not-below least (y ∷ ys) e m =
      let f = head judge least y ys e in
      ⊎_elim (λ same. omega (arith, f.rises)) (λ later. omega (arith, f.rises, not-below (y + 1) ys f.later later)) (Memᴰ.cases_cons m)

  at_front : (least y : ℕ) (ys : List ℕ) → rising_from judge least (y ∷ ys) ≡ answer tt → {x : ℕ} → Memᴰ x (y ∷ ys) → y ≤ x
  at_front least y ys e m =
      ⊎_elim (λ same. omega arith) (λ later. omega (arith, not-below (y + 1) ys (head judge least y ys e).later later)) (Memᴰ.cases_cons m)

  -- without their common first number
  has-behind : (x : ℕ) (xs ys : List ℕ) → rising_from judge (x + 1) xs ≡ answer tt → Has (x ∷ xs) (x ∷ ys) → Has xs ys
  has-behind x xs ys e h z m =
      ⊎_elim (λ same. absurd (omega (arith, not-below (x + 1) xs e m))) (λ later. later) (Memᴰ.cases_cons (h z (Memᴰ.tail m)))

  same-list : (least : ℕ) (a b : List ℕ) → rising_from judge least a ≡ answer tt → rising_from judge least b ≡ answer tt → Has a b → Has b a → a ≡ b
  same-list least [] [] e f h k = refl
  same-list least [] (y ∷ ys) e f h k = absurd (Memᴰ.not-nil (k y (Memᴰ.head refl)))
  same-list least (x ∷ xs) [] e f h k = absurd (Memᴰ.not-nil (h x (Memᴰ.head refl)))
  same-list least (x ∷ xs) (y ∷ ys) e f h k =
      let same : y ≡ x = omega (arith, at_front least y ys f (h x (Memᴰ.head refl)), at_front least x xs e (k y (Memᴰ.head refl))) in
      let p = (head judge least x xs e).later in
      let q : rising_from judge (x + 1) ys ≡ answer tt = rw same at (head judge least y ys f).later in
      ap₂ (λ z zs. z ∷ zs) (sym same) (same-list (x + 1) xs ys p q (has-behind x xs ys p (rw same at h)) (has-behind x ys xs q (rw same at k)))

  -- a rising list is told by its members
  pub one-rising : (least : ℕ) (a b : List ℕ) → rising_from judge least a ≡ answer tt → rising_from judge least b ≡ answer tt → ((x : ℕ) → Memᴰ x a ↔ Memᴰ x b) → a ≡ b
  one-rising least a b e f same = same-list least a b e f (λ x. (same x).0) (λ x. (same x).1)

-- and so is a set
pub one_set : (judge : ℕ → Paper Unit) (limit : ℕ) (a b : List ℕ) → IsSet judge limit a → IsSet judge limit b → ((x : ℕ) → Memᴰ x a ↔ Memᴰ x b) → a ≡ b
one_set judge limit a b s t same = one-rising judge 0 a b (set-passes judge limit a s) (set-passes judge limit b t) same
