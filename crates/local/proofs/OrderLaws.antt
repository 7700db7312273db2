-- A list that rises by a key: a number's place in it is how many have a smaller key. Assumes nothing.
use mathlib.Core.Path.{◌≡◌, refl, sym, ap, ◌∙◌}
use mathlib.Core.Bool.{Bool, true, false, cond}
use mathlib.Core.Logic.{◌↔◌, ⊎_elim}
use mathlib.Core.List.{List, [], ◌∷◌, Memᴰ}
use Prim.Native.Nat.{ℕ, zero, suc, ◌+◌, ◌-◌, ◌≤◌, ◌<◌}
use native.Mathlib.Nat.{eq-or-lt_of_le, le_of_suc-le-suc}
use native.Mathlib.Omega.{arith}
use borrow.Author.Tests.{ltb-true, ltb-false, lt-ltb, le-ltb, eq-eqb, ne_eqb}
use lib.ListN.{length, get_or}
use Rattle.division.specs.Words.{◌<?◌, ◌=?◌, keep}
use Rattle.division.proofs.TestLaws.{le-or-less}
use Rattle.division.proofs.MemberLaws.{mem-at, keep-has}
use Rattle.local.specs.Rows.{place_in}
use Rattle.local.proofs.CountLaws.{Distinct, place-in, count, count_none}

module _ (key : ℕ → ℕ) where
  -- all of a list come after x. A list's own order is said by `List.Memᴰ`, which can be taken apart, and not by `Pairwise`, whose members cannot
  abbrev pub After : ℕ → List ℕ → Type 0
  After x l = (y : ℕ) → Memᴰ y l → key x < key y

  abbrev pub RisesBy : List ℕ → Type 0
  RisesBy [] = Unit {0}
  RisesBy (x ∷ l) = After x l × RisesBy l

  pub rises-apart : (l : List ℕ) → RisesBy l → Distinct l
  rises-apart [] r = tt
  rises-apart (x ∷ l) r = (λ y m e. omega (arith, r.0 y m, ap key e), rises-apart l r.1)

  pub keep-rises : (f : ℕ → Bool) (l : List ℕ) → RisesBy l → RisesBy (keep f l)
  unfolding keep
  keep-rises f [] r = tt
  keep-rises f (x ∷ l) r = by (f x) (keep-rises f l r.1)
    where
      by : (b : Bool) → RisesBy (keep f l) → RisesBy (cond b (x ∷ keep f l) (keep f l))
      by true k = (λ y m. r.0 y (keep-has f l m).0, k)
      by false k = k

  -- of two places the later has the larger key, and of two numbers that with the larger key the later place
  rises-at : (l : List ℕ) → RisesBy l → (i j : ℕ) → i < j → j < length l → key (get_or l i 0) < key (get_or l j 0)
  rises-at [] r i j h g = absurd (omega arith)
  rises-at (x ∷ l) r i zero h g = absurd (omega arith)
  rises-at (x ∷ l) r zero (suc j) h g = r.0 (get_or l j 0) (mem-at l j (le_of_suc-le-suc g))
  rises-at (x ∷ l) r (suc i) (suc j) h g = rises-at l r.1 i j (le_of_suc-le-suc h) (le_of_suc-le-suc g)

  later : (j k : ℕ) {l : List ℕ} → RisesBy l → Memᴰ j l → Memᴰ k l → place_in j l < place_in k l → key j < key k
  later j k {l} r m n h = rw ((place-in j m).1, (place-in k n).1) at (rises-at l r (place_in j l) (place_in k l) h (place-in k n).0)

  pub places-rise : (j k : ℕ) {l : List ℕ} → RisesBy l → Memᴰ j l → Memᴰ k l → (place_in j l < place_in k l) ↔ (key j < key k)
  places-rise j k {l} r m n = (later j k r m n, λ h. ⊎_elim (λ g. ⊎_elim (λ e. absurd (same h e)) (λ q. absurd (omega (arith, later k j r n m q))) (eq-or-lt_of_le g)) (λ g. g) (le-or-less (place_in k l) (place_in j l)))
    where
      same : key j < key k → place_in k l ≡ place_in j l → ⊥
      same h e = omega (arith, ap key (sym (place-in k n).1 ∙ ap (λ (i : ℕ). get_or l i 0) e ∙ (place-in j m).1))

  -- how many have a key below a bound
  abbrev pub smaller : ℕ → List ℕ → ℕ
  smaller bound l = count (λ y. key y <? bound) l

  none-smaller : (x bound : ℕ) (l : List ℕ) → After x l → bound ≤ key x + 1 → smaller bound l ≡ 0
  none-smaller x bound l a h = count_none (λ y. key y <? bound) l (λ y m. le-ltb (key y) bound (omega (arith, a y m)))

  pub rank : (k : ℕ) {l : List ℕ} → RisesBy l → Memᴰ k l → place_in k l ≡ smaller (key k) l
  unfolding place_in keep
  rank k {l = []} r m = elim m [ ]
  rank k {l = x ∷ l} r (Memᴰ.head g) =
      let h : (key x <? key k) ≡ false = le-ltb (key x) (key k) (omega (arith, ap key g)) in
      rw (eq-eqb k x g, h) (sym (none-smaller x (key k) l r.0 (omega (arith, ap key g))))
  rank k {l = x ∷ l} r (Memᴰ.tail m) =
      let d : (k =? x) ≡ false = ne_eqb k x (λ e. omega (arith, r.0 k m, ap key e)) in
      rw (d, lt-ltb (key x) (key k) (r.0 k m)) (omega (arith, rank k r.1 m))

  -- fewer than n have a key below v, and at least n one up to v: then v is the n-th's key
  pub nth-key : (l : List ℕ) → RisesBy l → (n v : ℕ) → smaller v l < n → n ≤ smaller (v + 1) l → key (get_or l (n - 1) 0) ≡ v
  unfolding keep
  nth-key [] r n v a b = absurd (omega arith)
  nth-key (x ∷ l) r n v a b = by (key x <? v) refl (key x <? v + 1) refl a b (λ g h. nth-key l r.1 (n - 1) v g h)
    where
      by : (c : Bool) → (key x <? v) ≡ c → (d : Bool) → (key x <? v + 1) ≡ d → length (cond c (x ∷ keep (λ y. key y <? v) l) (keep (λ y. key y <? v) l)) < n
          → n ≤ length (cond d (x ∷ keep (λ y. key y <? v + 1) l) (keep (λ y. key y <? v + 1) l)) → (smaller v l < n - 1 → n - 1 ≤ smaller (v + 1) l → key (get_or l (n - 1 - 1) 0) ≡ v) → key (get_or (x ∷ l) (n - 1) 0) ≡ v
      by true e true f a b below =
          let s : n - 1 ≡ suc (n - 1 - 1) = omega arith in
          rw s (below (omega arith) (omega arith))
      by true e false f a b below = absurd (omega (arith, ltb-true (key x) v e, ltb-false (key x) (v + 1) f))
      by false e true f a b below =
          let z : smaller (v + 1) l ≡ 0 = none-smaller x (v + 1) l r.0 (omega (arith, ltb-false (key x) v e)) in
          let s : n - 1 ≡ 0 = omega (arith, z) in
          rw s (omega (arith, ltb-true (key x) (v + 1) f, ltb-false (key x) v e))
      by false e false f a b below =
          let z : smaller (v + 1) l ≡ 0 = none-smaller x (v + 1) l r.0 (omega (arith, ltb-false (key x) (v + 1) f)) in
          absurd (omega (arith, z))
