-- Lists of numbers: whether a number is in one, where it stands, and how many pass a test; two lists of the same numbers have as many. Assumes nothing.
use mathlib.Core.Path.{◌≡◌, refl, sym, ap, ◌∙◌}
use mathlib.Core.Bool.{Bool, true, false, cond, ◌||◌}
use mathlib.Core.List.{List, [], ◌∷◌, map, Memᴰ}
use Prim.Native.Nat.{ℕ, zero, suc, ◌+◌, ◌≤◌, ◌<◌}
use native.Mathlib.Nat.{zero-add, le_of_suc-le-suc}
use native.Mathlib.Omega.{arith}
use borrow.Author.Tests.{eqb-true, eq-eqb, ne_eqb, le-ltb}
use lib.ListN.{length, get_or, drop, drop_of_length-le}
use mir.Val.{bool_byte}
use Rattle.refusal.specs.Numbers.{is_in}
use Rattle.rising.proofs.RisingLaws.{from-here}
use Rattle.division.specs.Words.{◌<?◌, ◌=?◌, keep}
use Rattle.division.proofs.NumberLaws.{at_most_one}
use Rattle.division.proofs.MemberLaws.{in_mem, mem-at}
use Rattle.local.specs.Rows.{place_in}
use Rattle.local.specs.Given.{count_below, Reaches}

-- ---- what is in a list

pub map_at : (f : ℕ → ℕ) (l : List ℕ) (i : ℕ) → i < length l → get_or (map f l) i 0 ≡ f (get_or l i 0)
map_at f [] i h = absurd (omega arith)
map_at f (x ∷ l) zero h = refl
map_at f (x ∷ l) (suc i) h = map_at f l i (le_of_suc-le-suc h)

-- x is none of a list; no two of a list are the same
abbrev pub NoneOf : ℕ → List ℕ → Type 0
NoneOf x l = (y : ℕ) → Memᴰ y l → x ≡ y → ⊥

abbrev pub Distinct : List ℕ → Type 0
Distinct [] = Unit {0}
Distinct (x ∷ l) = NoneOf x l × Distinct l

-- ---- where it stands

pub place-in : (k : ℕ) {l : List ℕ} → Memᴰ k l → (place_in k l < length l) × (get_or l (place_in k l) 0 ≡ k)
unfolding place_in
place-in k {l = []} m = elim m [ ]
place-in k {l = x ∷ l} (Memᴰ.head g) = rw (eq-eqb k x g) (omega arith, sym g)
place-in k {l = x ∷ l} (Memᴰ.tail m) = by (k =? x) refl (place-in k m)
  where
    by : (b : Bool) → (k =? x) ≡ b → (place_in k l < length l) × (get_or l (place_in k l) 0 ≡ k) → (cond b 0 (1 + place_in k l) < length (x ∷ l)) × (get_or (x ∷ l) (cond b 0 (1 + place_in k l)) 0 ≡ k)
    by true e t = (omega arith, sym (eqb-true k x e))
    by false e t = let s : 1 + place_in k l ≡ suc (place_in k l) = omega arith in rw s (omega (arith, t.0), t.1)

pub at_place : (l : List ℕ) (i : ℕ) → Distinct l → i < length l → place_in (get_or l i 0) l ≡ i
unfolding place_in
at_place [] i d h = absurd (omega arith)
at_place (x ∷ l) zero d h = rw (eq-eqb x x refl)
at_place (x ∷ l) (suc i) d h =
    let g = le_of_suc-le-suc h in
    rw (ne_eqb (get_or l i 0) x (λ e. d.0 (get_or l i 0) (mem-at l i g) (sym e)), at_place l i d.1 g) (omega arith)

-- ---- how many pass a test

abbrev pub count : (ℕ → Bool) → List ℕ → ℕ
count p l = length (keep p l)

module _ (p : ℕ → Bool) where
  count-cons : (x : ℕ) (l : List ℕ) → count p (x ∷ l) ≡ bool_byte (p x) + count p l
  unfolding keep
  count-cons x l = by (p x)
    where
      by : (b : Bool) → length (cond b (x ∷ keep p l) (keep p l)) ≡ bool_byte b + count p l
      by true = omega arith
      by false = sym (zero-add (count p l))

  pub count_none : (l : List ℕ) → ((y : ℕ) → Memᴰ y l → p y ≡ false) → count p l ≡ 0
  unfolding keep
  count_none [] h = refl
  count_none (x ∷ l) h = rw (h x (Memᴰ.head refl)) (count_none l (λ y m. h y (Memᴰ.tail m)))

  pub count-all : (l : List ℕ) → ((y : ℕ) → Memᴰ y l → p y ≡ true) → count p l ≡ length l
  unfolding keep
  count-all [] h = refl
  count-all (x ∷ l) h = rw (h x (Memᴰ.head refl)) (ap suc (count-all l (λ y m. h y (Memᴰ.tail m))))

  -- place by place: so many of those before i pass
  pub record Counting (l : List ℕ) (n i : ℕ) : Type 0 where
    pub upto : i ≤ length l
    pub few : n ≤ i
    pub rest : n + count p (drop i l) ≡ count p l

  pub counting-next : {l : List ℕ} {n i : ℕ} → Counting l n i → i < length l → Counting l (n + bool_byte (p (get_or l i 0))) (i + 1)
  counting-next {l} {n} {i} c h =
      let here : count p (drop i l) ≡ bool_byte (p (get_or l i 0)) + count p (drop (i + 1) l) = ap (count p) (from-here l i h) ∙ count-cons (get_or l i 0) (drop (i + 1) l) in
      record { upto = omega arith; few = omega (arith, c.few, at_most_one (p (get_or l i 0))); rest = omega (arith, c.rest, here) }

  pub counting-done : {l : List ℕ} {n i : ℕ} → Counting l n i → length l ≤ i → n ≡ count p l
  unfolding keep
  counting-done {l} {n} {i} c h = let none : count p (drop i l) ≡ 0 = rw (drop_of_length-le l h) in omega (arith, c.rest, none)

  pub count_map : (f : ℕ → ℕ) (l : List ℕ) → count p (map f l) ≡ count (λ x. p (f x)) l
  unfolding keep
  count_map f [] = refl
  count_map f (x ∷ l) = by (p (f x)) (count_map f l)
    where
      by : (b : Bool) → count p (map f l) ≡ count (λ x. p (f x)) l → length (cond b (f x ∷ keep p (map f l)) (keep p (map f l))) ≡ length (cond b (x ∷ keep (λ x. p (f x)) l) (keep (λ x. p (f x)) l))
      by true e = ap suc e
      by false e = e

-- none is below 0, so where a number is reached, the bound is above 0
none_below : (l : List ℕ) → count_below 0 l ≡ 0
none_below l = count_none (λ x. x <? 0) l (λ y m. le-ltb y 0 (omega arith))

pub reached-first : {l : List ℕ} {n : ℕ} (bound : ℕ) → Reaches l n bound → (0 < bound) × (count_below 0 l < n)
reached-first {l} zero r = absurd (omega (arith, none_below l, r.one, r.enough))
reached-first {l} (suc b) r = (omega arith, omega (arith, none_below l, r.one))

-- ---- the numbers of a list, picked out of another

-- tests that agree on a list keep the same of it
keep_same : (f g : ℕ → Bool) (l : List ℕ) → ((y : ℕ) → Memᴰ y l → f y ≡ g y) → keep f l ≡ keep g l
unfolding keep
keep_same f g [] h = refl
keep_same f g (x ∷ l) h = rw (h x (Memᴰ.head refl), keep_same f g l (λ y m. h y (Memᴰ.tail m)))

module _ (p : ℕ → Bool) where
  -- one number more is picked once
  pick-one : (x : ℕ) (f : ℕ → Bool) → f x ≡ false → {l : List ℕ} → Distinct l → Memᴰ x l → count p (keep (λ y. y =? x || f y) l) ≡ bool_byte (p x) + count p (keep f l)
  unfolding keep
  pick-one x f e {l = []} d m = elim m [ ]
  pick-one x f e {l = z ∷ l} d (Memᴰ.head g) =
      let t : keep (λ y. y =? x || f y) l ≡ keep f l = keep_same (λ y. y =? x || f y) f l (λ y m. ap (λ (b : Bool). b || f y) (ne_eqb y x (λ q. d.0 y m (sym (q ∙ g))))) in
      let k : f z ≡ false = ap f (sym g) ∙ e in
      rw (eq-eqb z x (sym g), k, t, g) (count-cons p z (keep f l))
  pick-one x f e {l = z ∷ l} d (Memᴰ.tail m) =
      let n : (z =? x) ≡ false = ne_eqb z x (d.0 x m) in
      rw n (by (f z) (pick-one x f e d.1 m))
    where
      by : (b : Bool) → count p (keep (λ y. y =? x || f y) l) ≡ bool_byte (p x) + count p (keep f l)
          → count p (cond b (z ∷ keep (λ y. y =? x || f y) l) (keep (λ y. y =? x || f y) l)) ≡ bool_byte (p x) + count p (cond b (z ∷ keep f l) (keep f l))
      by true e = omega (arith, e, count-cons p z (keep (λ y. y =? x || f y) l), count-cons p z (keep f l))
      by false e = e

  -- so of the numbers that are picked as many pass as of the list
  pub pick_all : (s : List ℕ) {l : List ℕ} → Distinct s → Distinct l → ((y : ℕ) → Memᴰ y s → Memᴰ y l) → count p (keep (is_in s) l) ≡ count p s
  unfolding keep
  pick_all [] {l} ds dl h = rw (none l)
    where
      none : (l : List ℕ) → keep (is_in []) l ≡ []
      none [] = refl
      none (x ∷ l) = none l
  pick_all (x ∷ s) {l} ds dl h =
      pick-one x (is_in s) (out (is_in s x) refl) dl (h x (Memᴰ.head refl))
      ∙ ap (λ (n : ℕ). bool_byte (p x) + n) (pick_all s ds.1 dl (λ y m. h y (Memᴰ.tail m))) ∙ sym (count-cons p x s)
    where
      out : (b : Bool) → is_in s x ≡ b → b ≡ false
      out true e = absurd (ds.0 x (in_mem x s e) refl)
      out false e = refl
