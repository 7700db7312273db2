-- The first of a list that passes a test: where it stands, that nothing passes where there is none, and how a loop finds it. Assumes nothing.
use mathlib.Core.Path.{◌≡◌, refl, sym, ap, ◌∙◌}
use mathlib.Core.Bool.{Bool, true, false, false≢true, cond}
use mathlib.Core.List.{List, [], ◌∷◌}
use Rattle.std.specs.Prelude.{Option, Some, None}
use Rattle.std.proofs.lemmas.Option.{none-some, same_Some}
use Prim.Native.Nat.{ℕ, zero, suc, ◌+◌, ◌≤◌, ◌<◌}
use native.Mathlib.Numerals.{add-one}
use native.Mathlib.Omega.{arith}
use lib.ListN.{length, get_or, drop, drop_of_length-le}
use lib.Seq.{drop-cons}
use Rattle.official.specs.Lookup.{find}

module _ {A : Type 0} (test : A → Bool) (d : A) where
  -- what is found stands at some place, and passes
  pub record Stands (xs : List A) (x : A) : Type 0 where
    pub place : ℕ
    pub within : place < length xs
    pub is : get_or xs place d ≡ x
    pub passes : test x ≡ true

  pub found-stands : (xs : List A) {x : A} → find test xs ≡ Some x → Stands xs x
  unfolding find
  found-stands [] {x} e = absurd (none-some x e)
  found-stands (y ∷ xs) {x} e = by (test y) refl e (found-stands xs)
    where
      by : (t : Bool) → test y ≡ t → cond t (Some y) (find test xs) ≡ Some x → (find test xs ≡ Some x → Stands xs x) → Stands (y ∷ xs) x
      by true t e behind = let i = same_Some y x e in record { place = 0; within = omega arith; is = i; passes = ap test (sym i) ∙ t }
      by false t e behind = let s = behind e in record { place = suc s.place; within = omega (arith, s.within); is = s.is; passes = s.passes }

  pub none_passes : (xs : List A) → find test xs ≡ None → (i : ℕ) → i < length xs → test (get_or xs i d) ≡ false
  unfolding find
  none_passes [] e i h = absurd (omega arith)
  none_passes (y ∷ xs) e i h = by (test y) refl e (none_passes xs) i h
    where
      by : (t : Bool) → test y ≡ t → cond t (Some y) (find test xs) ≡ None → (find test xs ≡ None → (i : ℕ) → i < length xs → test (get_or xs i d) ≡ false) → (i : ℕ) → i < length (y ∷ xs) → test (get_or (y ∷ xs) i d) ≡ false
      by true t e behind i h = absurd (none-some y (sym e))
      by false t e behind zero h = t
      by false t e behind (suc i) h = behind e i (omega arith)

  -- what alone passes is found
  pub alone-found : (xs : List A) (i : ℕ) → i < length xs → test (get_or xs i d) ≡ true → ((j : ℕ) → j < length xs → test (get_or xs j d) ≡ true → j ≡ i) → find test xs ≡ Some (get_or xs i d)
  alone-found xs i h e alone = by (find test xs) refl
    where
      by : (o : Option A) → find test xs ≡ o → o ≡ Some (get_or xs i d)
      by None f = absurd (false≢true (sym (none_passes xs f i h) ∙ e))
      by (Some x) f =
          let s = found-stands xs f in
          let j = alone s.place s.within (ap test s.is ∙ s.passes) in
          ap Some (sym s.is ∙ ap (λ (k : ℕ). get_or xs k d) j)

  -- ---- a loop over the list, which has come to place i

  module _ (xs : List A) (i : ℕ) where
    pub found_here : i < length xs → test (get_or xs i d) ≡ true → find test (drop i xs) ≡ Some (get_or xs i d)
    unfolding find
    found_here h e = rw (drop-cons xs i d h, e)

    pub found-behind : i < length xs → test (get_or xs i d) ≡ false → find test (drop i xs) ≡ find test (drop (i + 1) xs)
    unfolding find
    found-behind h e = rw (drop-cons xs i d h, e, add-one i)

    pub found_nowhere : length xs ≤ i → find test (drop i xs) ≡ None
    unfolding find
    found_nowhere h = rw (drop_of_length-le xs h)
