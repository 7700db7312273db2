-- The piece before the first mark: it is found byte by byte or block by block, it is a beginning of the bytes, and it is cut where they are cut. Assumes nothing.
use mathlib.Core.Path.{◌≡◌, refl, ap, ◌∙◌}
use mathlib.Core.Bool.{Bool, true, false, cond}
use mathlib.Core.List.{List, [], ◌∷◌}
use Prim.Native.Nat.{ℕ, zero, suc, ◌+◌, ◌≤◌, ◌<◌, min}
use native.Mathlib.Numerals.{add-one}
use native.Mathlib.Omega.{arith}
use borrow.Author.Tests.{eq-eqb, ne_eqb}
use lib.Dec.{eqb}
use lib.ListN.{length, get_or, take, drop, length-take, drop_of_length-le}
use lib.Seq.{drop-cons, drop-drop}
use Rattle.label.specs.Text.{split, on_first}

abbrev pub piece : ℕ → List ℕ → List ℕ
piece m s = get_or (split m s) 0 []

pub piece-none : (m : ℕ) → piece m [] ≡ []
unfolding split
piece-none m = refl

pub piece-cons : (m b : ℕ) (s : List ℕ) → piece m (b ∷ s) ≡ cond (eqb b m) [] (b ∷ piece m s)
unfolding split
piece-cons m b s = by (eqb b m) (split m s)
  where
    by : (t : Bool) (ps : List (List ℕ)) → get_or (cond t ([] ∷ ps) (on_first b ps)) 0 [] ≡ cond t [] (b ∷ get_or ps 0 [])
    by true ps = refl
    by false [] = refl
    by false (p ∷ ps) = refl

-- ---- a loop over the bytes, which has come to place i

module _ (m : ℕ) (s : List ℕ) (i : ℕ) where
  pub at_mark : i < length s → get_or s i 0 ≡ m → length (piece m (drop i s)) ≡ 0
  at_mark h e = rw (drop-cons s i 0 h, piece-cons m (get_or s i 0) (drop (suc i) s), eq-eqb (get_or s i 0) m e)

  pub past-byte : i < length s → (get_or s i 0 ≡ m → ⊥) → length (piece m (drop i s)) ≡ 1 + length (piece m (drop (i + 1) s))
  past-byte h e = rw (drop-cons s i 0 h, piece-cons m (get_or s i 0) (drop (suc i) s), ne_eqb (get_or s i 0) m e, add-one i) (omega arith)

  pub at-end : length s ≤ i → length (piece m (drop i s)) ≡ 0
  at-end h = rw (drop_of_length-le s h, piece-none m)

-- ---- the piece and the bytes

pub piece-take : (m n : ℕ) (s : List ℕ) → piece m (take n s) ≡ take n (piece m s)
piece-take m zero s = piece-none m
piece-take m (suc n) [] = rw (piece-none m)
piece-take m (suc n) (b ∷ s) = rw (piece-cons m b (take n s), piece-cons m b s) (by (eqb b m) (piece-take m n s))
  where
    by : (t : Bool) → piece m (take n s) ≡ take n (piece m s) → cond t [] (b ∷ piece m (take n s)) ≡ take (suc n) (cond t [] (b ∷ piece m s))
    by true e = refl
    by false e = ap (λ (l : List ℕ). b ∷ l) e

pub take-piece : (m : ℕ) (s : List ℕ) → take (length (piece m s)) s ≡ piece m s
take-piece m [] = rw (piece-none m)
take-piece m (b ∷ s) = rw (piece-cons m b s) (by (eqb b m) (take-piece m s))
  where
    by : (t : Bool) → take (length (piece m s)) s ≡ piece m s → take (length (cond t [] (b ∷ piece m s))) (b ∷ s) ≡ cond t [] (b ∷ piece m s)
    by true e = refl
    by false e = ap (λ (l : List ℕ). b ∷ l) e

pub piece-within : (m : ℕ) (s : List ℕ) → length (piece m s) ≤ length s
piece-within m s = omega (arith, ap length (take-piece m s), length-take (length (piece m s)) s)

-- ---- a loop over blocks of the bytes, which has come to place i: a block has the mark, or it is passed

past_bytes : (m n : ℕ) (s : List ℕ) → n ≤ length (piece m s) → length (piece m s) ≡ n + length (piece m (drop n s))
past_bytes m zero s h = omega arith
past_bytes m (suc n) [] h = absurd (omega (arith, ap length (piece-none m)))
past_bytes m (suc n) (b ∷ s) h = rw (piece-cons m b s) (by (eqb b m) (past_bytes m n s) (rw (piece-cons m b s) at h))
  where
    by : (t : Bool) → (n ≤ length (piece m s) → length (piece m s) ≡ n + length (piece m (drop n s))) → suc n ≤ length (cond t [] (b ∷ piece m s))
        → length (cond t [] (b ∷ piece m s)) ≡ suc n + length (piece m (drop n s))
    by true f l = absurd (omega arith)
    by false f l = omega (arith, f (omega arith))

module _ (m : ℕ) (s : List ℕ) (i n : ℕ) where
  front : length (piece m (take n (drop i s))) ≡ min n (length (piece m (drop i s)))
  front = ap length (piece-take m n (drop i s)) ∙ length-take n (piece m (drop i s))

  pub in_block : length (piece m (take n (drop i s))) < n → length (piece m (drop i s)) ≡ length (piece m (take n (drop i s)))
  in_block h = omega (arith, front)

  pub past-block : n ≤ length (piece m (take n (drop i s))) → length (piece m (drop i s)) ≡ n + length (piece m (drop (i + n) s))
  past-block h = rw drop-drop at (past_bytes m n (drop i s) (omega (arith, front)))
