-- Splitting gives back the pieces that were joined, and joining gives back the bytes that were split.
use mathlib.Core.Path.{◌≡◌, refl, ap, ◌∙◌}
use mathlib.Core.Bool.{Bool, true, false, cond}
use mathlib.Core.List.{List, [], ◌∷◌, ◌++◌, flat_map, append-nil}
use Prim.Native.Nat.{ℕ}
use borrow.Author.Tests.{eq-eqb, ne_eqb, eqb-true}
use lib.Dec.{eqb}
use Rattle.label.specs.Text.{split, join, on_first}

-- a piece without the mark in it
abbrev pub Free : ℕ → List ℕ → Type 0
Free m [] = Unit {0}
Free m (b ∷ s) = (b ≡ m → ⊥) × Free m s

abbrev pub FreeAll : ℕ → List (List ℕ) → Type 0
FreeAll m [] = Unit {0}
FreeAll m (p ∷ ps) = Free m p × FreeAll m ps

pub split-last : (m : ℕ) (a : List ℕ) → Free m a → split m a ≡ a ∷ []
unfolding split
split-last m [] f = refl
split-last m (b ∷ a) f = rw (ne_eqb b m f.0, split-last m a f.1)

pub split-piece : (m : ℕ) (a s : List ℕ) → Free m a → split m (a ++ (m ∷ s)) ≡ a ∷ split m s
unfolding split
split-piece m [] s f = rw (eq-eqb m m refl)
split-piece m (b ∷ a) s f = rw (ne_eqb b m f.0, split-piece m a s f.1)

pub split-join : (m : ℕ) (p : List ℕ) (ps : List (List ℕ)) → Free m p → FreeAll m ps → split m (join m (p ∷ ps)) ≡ p ∷ ps
unfolding join flat_map
split-join m p [] f g = rw append-nil (split-last m p f)
split-join m p (q ∷ ps) f g = split-piece m p (q ++ flat_map (λ other. m ∷ other) ps) f ∙ ap (λ (l : List (List ℕ)). p ∷ l) (split-join m q ps g.0 g.1)

-- joining what was split
pub join_first : (m b : ℕ) (ps : List (List ℕ)) → join m (on_first b ps) ≡ b ∷ join m ps
unfolding join flat_map
join_first m b [] = refl
join_first m b (p ∷ ps) = refl

pub some-pieces : (m : ℕ) (s : List ℕ) → (p : List ℕ) × (ps : List (List ℕ)) × (split m s ≡ p ∷ ps)
unfolding split
some-pieces m [] = ([], [], refl)
some-pieces m (b ∷ s) = by (eqb b m) (some-pieces m s)
  where
    by : (t : Bool) → (p : List ℕ) × (ps : List (List ℕ)) × (split m s ≡ p ∷ ps) → (p : List ℕ) × (ps : List (List ℕ)) × (cond t ([] ∷ split m s) (on_first b (split m s)) ≡ p ∷ ps)
    by true r = ([], split m s, refl)
    by false r = (b ∷ r.0, r.1, rw r.2)

pub join-split : (m : ℕ) (s : List ℕ) → join m (split m s) ≡ s
unfolding split join flat_map
join-split m [] = refl
join-split m (b ∷ s) = by (eqb b m) refl (join-split m s)
  where
    by : (t : Bool) → eqb b m ≡ t → join m (split m s) ≡ s → join m (cond t ([] ∷ split m s) (on_first b (split m s))) ≡ b ∷ s
    by true e ih = let r = some-pieces m s in rw (eqb-true b m e) (rw r.2 (ap (λ (l : List ℕ). m ∷ l) (rw r.2 at ih)))
    by false e ih = join_first m b (split m s) ∙ ap (λ (l : List ℕ). b ∷ l) ih
