-- Things judged one after the other: the first decides, or it is fine and the rest does. Assumes nothing.
use mathlib.Core.Path.{◌≡◌, refl, sym, ap, ap₂, ◌∙◌}
use mathlib.Core.List.{List, [], ◌∷◌}
use Prim.Native.Nat.{ℕ, zero, suc, ◌+◌, ◌-◌, ◌≤◌, ◌<◌}
use native.Mathlib.Omega.{arith}
use lib.ListN.{length, get_or}
use Rattle.refusal.specs.declared.Refusal.{Refusal}
use Rattle.refusal.specs.Paper.{Paper, answer, refused, ◌>>◌}
use Rattle.refusal.specs.Numbers.{on_paper}
use Rattle.refusal.proofs.PaperLaws.{differs, passed-judge, judge-refuses}
use Rattle.division.specs.Words.{from}
use Rattle.delivery.specs.Delivery.{in_turn}

-- the places from i up to n: i, and the later ones
here : {i n : ℕ} → i < n → from i (n - i) ≡ i ∷ from (i + 1) (n - (i + 1))
unfolding from
here {i} {n} h = let e : n - i ≡ suc (n - (i + 1)) = omega arith in rw e

module _ (judge : ℕ → Paper Unit) where
  -- ---- place by place: those before i are fine, so those from i on decide

  pub record Turning (n i : ℕ) : Type 0 where
    pub upto : i ≤ n
    pub rest : in_turn judge (from 0 n) ≡ in_turn judge (from i (n - i))

  module _ {n i : ℕ} (t : Turning n i) where
    pub turning-more : i < n → judge i ≡ answer tt → Turning n (i + 1)
    unfolding in_turn
    turning-more h e = record { upto = omega arith; rest = t.rest ∙ rw (here h, e) }

    pub turning-stops : i < n → (why : Refusal) → judge i ≡ on_paper why → on_paper why ≡ in_turn judge (from 0 n)
    unfolding in_turn
    turning-stops h why e = sym (t.rest ∙ rw (here h) (judge-refuses why _ e))

    pub turning-done : n ≤ i → answer tt ≡ in_turn judge (from 0 n)
    unfolding in_turn from
    turning-done h = let e : n - i ≡ 0 = omega arith in sym (t.rest ∙ rw e)

  -- a list, and its places
  pub by-places : (at : ℕ → Paper Unit) (a : ℕ) (xs : List ℕ) → ((i : ℕ) → i < length xs → at (a + i) ≡ judge (get_or xs i 0)) → in_turn at (from a (length xs)) ≡ in_turn judge xs
  unfolding in_turn from
  by-places at a [] same = refl
  by-places at a (x ∷ xs) same =
      ap₂ ◌>>◌ (ap at (omega arith) ∙ same 0 (omega arith)) (by-places at (a + 1) xs (λ i h. ap at (omega arith) ∙ same (suc i) (omega arith)))

  -- ---- what passes, and what is refused

  pub all_pass : (xs : List ℕ) → ((i : ℕ) → i < length xs → judge (get_or xs i 0) ≡ answer tt) → in_turn judge xs ≡ answer tt
  unfolding in_turn
  all_pass [] fine = refl
  all_pass (x ∷ xs) fine = rw (fine 0 (omega arith)) (all_pass xs (λ i h. fine (suc i) (omega arith)))

  pub pass_all : (xs : List ℕ) → in_turn judge xs ≡ answer tt → (i : ℕ) → i < length xs → judge (get_or xs i 0) ≡ answer tt
  unfolding in_turn
  pass_all [] e i h = absurd (omega arith)
  pass_all (x ∷ xs) e zero h = (passed-judge (judge x) (in_turn judge xs) e).0
  pass_all (x ∷ xs) e (suc i) h = pass_all xs (passed-judge (judge x) (in_turn judge xs) e).1 i (omega arith)

  -- the first that is refused: all in front of it are fine
  pub record FirstRefused (xs : List ℕ) (number value : ℕ) : Type 0 where
    pub place : ℕ
    pub inside : place < length xs
    pub front : (i : ℕ) → i < place → judge (get_or xs i 0) ≡ answer tt
    pub stops : judge (get_or xs place 0) ≡ refused number value

  module _ (number value : ℕ) where
    pub refused-first : (xs : List ℕ) → in_turn judge xs ≡ refused number value → FirstRefused xs number value
    unfolding in_turn
    refused-first [] e = absurd (differs e)
    refused-first (x ∷ xs) e = by (judge x) refl (refused-first xs) e
      where
        more : judge x ≡ answer tt → FirstRefused xs number value → FirstRefused (x ∷ xs) number value
        more fine f = record { place = suc f.place; inside = omega (arith, f.inside); front = front; stops = f.stops }
          where
            front : (i : ℕ) → i < suc f.place → judge (get_or (x ∷ xs) i 0) ≡ answer tt
            front zero h = fine
            front (suc i) h = f.front i (omega arith)

        by : (p : Paper Unit) → judge x ≡ p → (in_turn judge xs ≡ refused number value → FirstRefused xs number value) → (p >> in_turn judge xs) ≡ refused number value → FirstRefused (x ∷ xs) number value
        by (answer tt) g later e = more g (later e)
        by (refused n v) g later e = record { place = 0; inside = omega arith; front = λ i h. absurd (omega arith); stops = g ∙ e }

    first-refused-at : (xs : List ℕ) (place : ℕ) → place < length xs → ((i : ℕ) → i < place → judge (get_or xs i 0) ≡ answer tt) → judge (get_or xs place 0) ≡ refused number value → in_turn judge xs ≡ refused number value
    unfolding in_turn
    first-refused-at [] place h front stops = absurd (omega arith)
    first-refused-at (x ∷ xs) zero h front stops = rw stops
    first-refused-at (x ∷ xs) (suc place) h front stops =
        rw (front 0 (omega arith)) (first-refused-at xs place (omega arith) (λ i l. front (suc i) (omega arith)) stops)

    pub first-refused : (xs : List ℕ) → FirstRefused xs number value → in_turn judge xs ≡ refused number value
    first-refused xs f = first-refused-at xs f.place f.inside f.front f.stops
