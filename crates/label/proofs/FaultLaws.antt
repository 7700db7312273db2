-- The first faulty field in bytes: a field begins at its place, and is empty there or begins with a zero and goes on. What stands before the
-- first hyphen is the first field, so places are judged field by field. Assumes nothing.
use mathlib.Core.Path.{◌≡◌, refl, sym, ap, ◌∙◌}
use mathlib.Core.Bool.{Bool, true, false, not, cond, ◌&&◌, and-false}
use mathlib.Core.List.{List, [], ◌∷◌}
use mathlib.Core.Logic.{⊎_elim}
use Prim.Native.Nat.{ℕ, zero, suc, ◌+◌, ◌-◌, ◌≤◌, ◌<◌}
use native.Mathlib.Omega.{arith}
use borrow.Author.Tests.{eq-eqb, ne_eqb, eqb-true, eqb-false}
use lib.Dec.{eqb}
use lib.ListN.{length, get_or, drop, length-drop, get_or-eq_default}
use lib.Seq.{get_or-take, get_or-drop}
use Rattle.division.proofs.TestLaws.{both, le-or-less}
use Rattle.label.specs.Text.{every, split}
use Rattle.label.specs.Label.{is_field}
use Rattle.label.specs.Theorems.{First, begins, closes, is_faulty}
use Rattle.label.proofs.PieceLaws.{piece, piece-none, piece-cons, take-piece, piece-within}
use Rattle.label.proofs.PlaceLaws.{first_piece, last-piece, next-piece, faulty_at, wrong-field, fine-field}

-- ---- the bytes of the first piece

-- none of them is a hyphen
inside : (t : List ℕ) (i : ℕ) → i < length (piece 45 t) → get_or t i 0 ≡ 45 → ⊥
inside [] i h e = omega (arith, ap length (piece-none 45))
inside (b ∷ t) zero h e = by (eqb b 45) refl (rw (piece-cons 45 b t) at h)
  where
    by : (x : Bool) → eqb b 45 ≡ x → 0 < length (cond x [] (b ∷ piece 45 t)) → ⊥
    by true f l = omega arith
    by false f l = eqb-false b 45 f e
inside (b ∷ t) (suc i) h e = by (eqb b 45) (rw (piece-cons 45 b t) at h) (λ l. inside t i l e)
  where
    by : (x : Bool) → suc i < length (cond x [] (b ∷ piece 45 t)) → (i < length (piece 45 t) → ⊥) → ⊥
    by true l g = omega arith
    by false l g = g (omega arith)

-- and behind them stands one, if anything does
behind : (t : List ℕ) → length (piece 45 t) < length t → get_or t (length (piece 45 t)) 0 ≡ 45
behind [] h = absurd (omega arith)
behind (b ∷ t) h = rw (piece-cons 45 b t) (by (eqb b 45) refl (rw (piece-cons 45 b t) at h) (behind t))
  where
    by : (x : Bool) → eqb b 45 ≡ x → length (cond x [] (b ∷ piece 45 t)) < suc (length t) → (length (piece 45 t) < length t → get_or t (length (piece 45 t)) 0 ≡ 45) → get_or (b ∷ t) (length (cond x [] (b ∷ piece 45 t))) 0 ≡ 45
    by true f l g = eqb-true b 45 f
    by false f l g = g (omega arith)

-- ---- which places are faulty

module _ (t : List ℕ) where
  abbrev n : ℕ
  n = length (piece 45 t)

  -- the first field is closed behind its bytes, and not before
  closed : closes t n ≡ true
  closed = ⊎_elim (λ l. let e : n ≡ length t = omega (arith, piece-within 45 t) in rw (eq-eqb n (length t) e)) (λ l. rw (ne_eqb n (length t) (λ e. omega arith), eq-eqb (get_or t n 0) 45 (behind t l))) (le-or-less (length t) n)

  open-still : (k : ℕ) → k < n → closes t k ≡ false
  open-still k h = rw (ne_eqb k (length t) (λ e. omega (arith, piece-within 45 t)), ne_eqb (get_or t k 0) 45 (inside t k h))

  -- so at the start the first field is judged,
  at-start : is_faulty t 0 ≡ not (is_field (piece 45 t))
  at-start = by (piece 45 t) refl
    where
      by : (p : List ℕ) → piece 45 t ≡ p → is_faulty t 0 ≡ not (is_field p)
      by [] e = rw (rw e at closed)
      by (d ∷ []) e = rw (open-still 0 (rw e (omega arith)), rw e at closed) (and-false (eqb (get_or t 0 0) 48))
      by (d ∷ c ∷ ds) e =
          let f : get_or t 0 0 ≡ d = sym (get_or-take n t 0 0 (rw e (omega arith))) ∙ ap (λ (l : List ℕ). get_or l 0 0) (take-piece 45 t ∙ e) in
          rw (open-still 0 (rw e (omega arith)), open-still 1 (rw e (omega arith)), f) (twice (eqb d 48))
        where
          twice : (b : Bool) → (b && true) ≡ not (not b)
          twice true = refl
          twice false = refl

  -- no other begins up to the hyphen,
  none-begins : (k : ℕ) → 0 < k → k ≤ n → is_faulty t k ≡ false
  none-begins k h l = rw (ne_eqb k 0 (λ e. omega arith), ne_eqb (get_or t (k - 1) 0) 45 (inside t (k - 1) (omega arith)))

  -- nor behind the end,
  pub none-behind : (k : ℕ) → length t < k → is_faulty t k ≡ false
  none-behind k h = rw (ne_eqb k 0 (λ e. omega arith), get_or-eq_default t 0 {n = k - 1} (omega arith))

  -- and behind the hyphen the others are judged
  module _ (h : n < length t) where
    abbrev u : List ℕ
    u = drop (suc n) t

    shifted : (j : ℕ) → closes t (suc n + j) ≡ closes u j
    shifted j = rw (same, get_or-drop (suc n) t j 0)
      where
        same : eqb (suc n + j) (length t) ≡ eqb j (length u)
        same = by (eqb j (length u)) refl
          where
            by : (b : Bool) → eqb j (length u) ≡ b → eqb (suc n + j) (length t) ≡ b
            by true e = eq-eqb (suc n + j) (length t) (omega (arith, eqb-true j (length u) e, length-drop (suc n) t))
            by false e = ne_eqb (suc n + j) (length t) (λ f. eqb-false j (length u) e (omega (arith, length-drop (suc n) t)))

    pub begun : (j : ℕ) → begins t (suc n + j) ≡ begins u j
    begun zero = let e : suc n + 0 - 1 ≡ n = omega arith in rw (ne_eqb (suc n + 0) 0 (λ f. omega arith), e, eq-eqb (get_or t n 0) 45 (behind t h))
    begun (suc j) =
        let e : suc n + suc j - 1 ≡ suc n + j = omega arith in
        let f : suc j - 1 ≡ j = omega arith in
        rw (ne_eqb (suc n + suc j) 0 (λ g. omega arith), ne_eqb (suc j) 0 (λ g. omega arith), e, f, get_or-drop (suc n) t j 0)

    judged : (j : ℕ) → is_faulty t (suc n + j) ≡ is_faulty u j
    judged j =
        let e : suc n + j + 1 ≡ suc n + (j + 1) = omega arith in
        rw (begun j, shifted j, e, shifted (j + 1), get_or-drop (suc n) t j 0)

-- ---- the first faulty place

module _ (t : List ℕ) (k : ℕ) where
  -- a place is the start, within the first field, or behind its hyphen
  by_field : {P : Type 0} → (k ≡ 0 → P) → (0 < k → k ≤ length (piece 45 t) → P) → ((j : ℕ) → k ≡ suc (length (piece 45 t)) + j → P) → P
  by_field a b c =
      ⊎_elim (λ h. ⊎_elim (λ l. b (omega arith) l) (λ l. c (k - suc (length (piece 45 t))) (omega arith)) (le-or-less k (length (piece 45 t))))
      (λ h. a (omega arith)) (le-or-less 1 k)

module _ (t : List ℕ) where
  -- the fields behind the first hyphen
  abbrev pub others : List ℕ
  others = drop (suc (length (piece 45 t))) t

  -- where every field is one, no place is faulty, since behind the first hyphen none is
  none-faulty-by : (length (piece 45 t) < length t → every is_field (split 45 others) ≡ true → (j : ℕ) → is_faulty others j ≡ false) → every is_field (split 45 t) ≡ true → (k : ℕ) → is_faulty t k ≡ false
  unfolding every
  none-faulty-by ih e k =
      let q = first_piece 45 t in
      let a = both (is_field (piece 45 t)) (every is_field q.0) (rw q.1 at e) in
      by_field t k (λ f. rw (f, at-start t, a.0)) (none-begins t k)
      (λ j f. ⊎_elim (λ l. none-behind t k (omega (arith, piece-within 45 t)))
      (λ l. rw (f, judged t l j) (ih l (both (is_field (piece 45 t)) (every is_field (split 45 others)) (rw (next-piece 45 t l) at e)).1 j))
      (le-or-less (length t) (length (piece 45 t))))

  -- and where one is not, the first that is not begins at the first faulty place
  first-faulty-by : (length (piece 45 t) < length t → every is_field (split 45 others) ≡ false → First (is_faulty others) (faulty_at others)) → every is_field (split 45 t) ≡ false → First (is_faulty t) (faulty_at t)
  unfolding every
  first-faulty-by ih e = by (is_field (piece 45 t)) refl
    where
      p : List ℕ
      p = piece 45 t

      by : (b : Bool) → is_field p ≡ b → First (is_faulty t) (faulty_at t)
      by false f = rw (wrong-field t f) (record { there = rw (at-start t, f); before = λ k h. absurd (omega arith) })
      by true f = ⊎_elim (λ l. absurd (no_last l)) next (le-or-less (length t) (length p))
        where
          no_last : length t ≤ length p → ⊥
          no_last l = let z : true ≡ false = rw (last-piece 45 t l, f) at e in let o : ◌≡◌ {A = ℕ} 0 1 = cc in omega arith

          next : length p < length t → First (is_faulty t) (faulty_at t)
          next l =
              let w = ih l (rw (next-piece 45 t l, f) at e) in
              rw (fine-field t f) (record {
                there = rw (judged t l (faulty_at others)) w.there;
                before = λ k h. by_field t k (λ g. rw (g, at-start t, f)) (none-begins t k) (λ j g. rw (g, judged t l j) (w.before j (omega arith)));
              })

none-upto : (m : ℕ) (t : List ℕ) → length t ≤ m → every is_field (split 45 t) ≡ true → (k : ℕ) → is_faulty t k ≡ false
none-upto zero t h = none-faulty-by t (λ l. absurd (omega arith))
none-upto (suc m) t h = none-faulty-by t (λ l. none-upto m (others t) (omega (arith, length-drop (suc (length (piece 45 t))) t)))

first-upto : (m : ℕ) (t : List ℕ) → length t ≤ m → every is_field (split 45 t) ≡ false → First (is_faulty t) (faulty_at t)
first-upto zero t h = first-faulty-by t (λ l. absurd (omega arith))
first-upto (suc m) t h = first-faulty-by t (λ l. first-upto m (others t) (omega (arith, length-drop (suc (length (piece 45 t))) t)))

pub none-faulty : (t : List ℕ) → every is_field (split 45 t) ≡ true → (k : ℕ) → is_faulty t k ≡ false
none-faulty t = none-upto (length t) t (omega arith)

pub first-faulty : (t : List ℕ) → every is_field (split 45 t) ≡ false → First (is_faulty t) (faulty_at t)
first-faulty t = first-upto (length t) t (omega arith)
