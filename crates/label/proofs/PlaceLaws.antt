-- Where the first byte or field stands that fails a test: a loop passes what is fine, and stops at what is not. Assumes nothing.
use mathlib.Core.Path.{◌≡◌, refl, sym, ap, ◌∙◌}
use mathlib.Core.Bool.{Bool, true, false, cond, ◌&&◌}
use mathlib.Core.List.{List, [], ◌∷◌, ◌++◌, flat_map}
use mathlib.Core.Logic.{⊎_elim}
use Prim.Native.Nat.{ℕ, zero, suc, ◌+◌, ◌-◌, ◌≤◌, ◌<◌}
use native.Mathlib.Numerals.{add-one}
use native.Mathlib.Omega.{arith}
use lib.Dec.{eqb}
use lib.ListN.{length, get_or, take, drop, length-append, length-drop, drop_of_length-le}
use lib.Seq.{drop-cons, drop-drop}
use Rattle.division.proofs.TestLaws.{both, le-or-less}
use Rattle.label.specs.Text.{every, first_not, split, on_first}
use Rattle.label.specs.Label.{is_field, start_of}
use Rattle.label.proofs.SplitLaws.{some-pieces}
use Rattle.label.proofs.PieceLaws.{piece, piece-none, piece-cons, piece-within}

-- ---- a test that cannot hold, or cannot fail

pub cannot : (b : Bool) → (b ≡ true → ⊥) → b ≡ false
cannot true n = absurd (n refl)
cannot false n = refl

pub must : (b : Bool) → (b ≡ false → ⊥) → b ≡ true
must true n = refl
must false n = absurd (n refl)

-- ---- the first that fails

module _ {A : Type 0} (test : A → Bool) where
  pub first-none : (xs : List A) → every test xs ≡ true → first_not test xs ≡ length xs
  unfolding first_not every
  first-none [] e = refl
  first-none (x ∷ xs) e = let b = both (test x) (every test xs) e in rw (b.0, first-none xs b.1) (omega arith)

  pub first_some : (xs : List A) → every test xs ≡ false → first_not test xs < length xs
  unfolding first_not every
  first_some [] e = let z : ◌≡◌ {A = ℕ} 0 1 = cc in absurd (omega arith)
  first_some (x ∷ xs) e = by (test x) e (first_some xs)
    where
      by : (b : Bool) → (b && every test xs) ≡ false → (every test xs ≡ false → first_not test xs < length xs) → cond b (1 + first_not test xs) 0 < suc (length xs)
      by true f h = omega (arith, h f)
      by false f h = omega arith

-- a loop over the bytes, which has come to place i
module _ (test : ℕ → Bool) (s : List ℕ) (i : ℕ) where
  pub first_on : i < length s → test (get_or s i 0) ≡ true → first_not test (drop i s) ≡ 1 + first_not test (drop (i + 1) s)
  unfolding first_not
  first_on h e = rw (drop-cons s i 0 h, e, add-one i)

-- ---- pieces, one after the other

module _ (m : ℕ) where
  -- what stands before the first mark is the first piece
  pub first_piece : (s : List ℕ) → (ps : List (List ℕ)) × (split m s ≡ piece m s ∷ ps)
  first_piece s = let r = some-pieces m s in (r.1, rw r.2)

  -- all there is, where there is no mark
  pub last-piece : (s : List ℕ) → length s ≤ length (piece m s) → split m s ≡ piece m s ∷ []
  unfolding split
  last-piece [] h = refl
  last-piece (b ∷ s) h = rw (piece-cons m b s) (by (eqb b m) (rw (piece-cons m b s) at h) (last-piece s))
    where
      by : (t : Bool) → suc (length s) ≤ length (cond t [] (b ∷ piece m s)) → (length s ≤ length (piece m s) → split m s ≡ piece m s ∷ []) → cond t ([] ∷ split m s) (on_first b (split m s)) ≡ cond t [] (b ∷ piece m s) ∷ []
      by true l e = absurd (omega arith)
      by false l e = rw (e (omega arith))

  -- and the others are those behind the mark
  pub next-piece : (s : List ℕ) → length (piece m s) < length s → split m s ≡ piece m s ∷ split m (drop (suc (length (piece m s))) s)
  unfolding split
  next-piece [] h = absurd (omega arith)
  next-piece (b ∷ s) h = rw (piece-cons m b s) (by (eqb b m) (rw (piece-cons m b s) at h) (next-piece s))
    where
      by : (t : Bool) → length (cond t [] (b ∷ piece m s)) < suc (length s) → (length (piece m s) < length s → split m s ≡ piece m s ∷ split m (drop (suc (length (piece m s))) s))
          → cond t ([] ∷ split m s) (on_first b (split m s)) ≡ cond t [] (b ∷ piece m s) ∷ split m (drop (length (cond t [] (b ∷ piece m s))) s)
      by true l e = refl
      by false l e = rw (e (omega arith))

-- ---- where a field begins

pub start_first : (fields : List (List ℕ)) → start_of 0 fields ≡ 0
unfolding start_of flat_map
start_first fields = refl

pub start-next : (k : ℕ) (field : List ℕ) (fields : List (List ℕ)) → start_of (suc k) (field ∷ fields) ≡ suc (length field) + start_of k fields
unfolding start_of flat_map
start-next k field fields =
    let others = flat_map (λ other. other ++ (45 ∷ [])) (take k fields) in
    omega (arith, length-append (field ++ (45 ∷ [])) others, length-append field (45 ∷ []))

pub start_none : (k : ℕ) → start_of k [] ≡ 0
unfolding start_of flat_map
start_none zero = refl
start_none (suc k) = refl

-- field by field: `start` is where one begins and `left` others are to be passed, or there is none left
pub record Passing (s : List ℕ) (k start i : ℕ) : Type 0 where
  pub left : ℕ
  pub counted : i + left ≡ k
  pub within : start ≤ length s + 1
  pub rest : start ≤ length s → start_of k (split 45 s) ≡ start + start_of left (split 45 (drop start s))
  pub done : length s < start → start_of k (split 45 s) ≡ start

pub none_passed : (s : List ℕ) (k : ℕ) → Passing s k 0 0
none_passed s k = record { left = k; counted = omega arith; within = omega arith; rest = λ h. omega arith; done = λ h. absurd (omega arith) }

module _ {s : List ℕ} {k start i : ℕ} (w : Passing s k start i) where
  pub all-passed : k ≤ i → start ≡ start_of k (split 45 s)
  all-passed h =
      let z : w.left ≡ 0 = omega (arith, w.counted) in
      ⊎_elim (λ l. sym (w.rest l ∙ rw (z, start_first (split 45 (drop start s))) (omega arith))) (λ l. sym (w.done l)) (le-or-less start (length s))

  module _ (h : i < k) (l : start ≤ length s) where
    abbrev t : List ℕ
    t = drop start s

    pub one-passed : Passing s k (start + (length (piece 45 t) + 1)) (i + 1)
    one-passed = ⊎_elim last next (le-or-less (length t) (length (piece 45 t)))
      where
        p : ℕ
        p = length (piece 45 t)

        j : ℕ
        j = w.left - 1

        more : w.left ≡ suc j
        more = omega (arith, w.counted)

        -- the fields from here on, with this one passed
        on : (fields : List (List ℕ)) → split 45 t ≡ piece 45 t ∷ fields → start_of k (split 45 s) ≡ start + (p + 1) + start_of j fields
        on fields e =
            let f : start_of w.left (split 45 t) ≡ suc p + start_of j fields = ap (λ (n : ℕ). start_of n (split 45 t)) more ∙ ap (start_of (suc j)) e ∙ start-next j (piece 45 t) fields in
            omega (arith, w.rest l, f)

        last : length t ≤ p → Passing s k (start + (p + 1)) (i + 1)
        last g = record {
          left = j;
          counted = omega (arith, w.counted);
          within = omega (arith, piece-within 45 t, length-drop start s);
          rest = λ m. absurd (omega (arith, length-drop start s));
          done = λ m. on [] (last-piece 45 t g) ∙ rw (start_none j) (omega arith);
        }

        next : p < length t → Passing s k (start + (p + 1)) (i + 1)
        next g =
            let d : drop (suc p) t ≡ drop (start + (p + 1)) s = rw (← add-one p) (drop-drop (p + 1) start s) in
            record {
              left = j;
              counted = omega (arith, w.counted);
              within = omega (arith, length-drop start s);
              rest = λ m. rw (← d) (on (split 45 (drop (suc p) t)) (next-piece 45 t g));
              done = λ m. absurd (omega (arith, length-drop start s));
            }

-- ---- the first field that is empty or has a leading zero

abbrev pub faulty_at : List ℕ → ℕ
faulty_at s = start_of (first_not is_field (split 45 s)) (split 45 s)

pub wrong-field : (t : List ℕ) → is_field (piece 45 t) ≡ false → faulty_at t ≡ 0
unfolding first_not
wrong-field t e = let r = first_piece 45 t in rw (r.1, e) (start_first (piece 45 t ∷ r.0))

pub fine-field : (t : List ℕ) → is_field (piece 45 t) ≡ true → faulty_at t ≡ suc (length (piece 45 t)) + faulty_at (drop (suc (length (piece 45 t))) t)
unfolding first_not
fine-field t e = ⊎_elim last next (le-or-less (length t) (length (piece 45 t)))
  where
    p : List ℕ
    p = piece 45 t

    after : (ps : List (List ℕ)) → split 45 t ≡ p ∷ ps → faulty_at t ≡ suc (length p) + start_of (first_not is_field ps) ps
    after ps f = let g : 1 + first_not is_field ps ≡ suc (first_not is_field ps) = omega arith in rw (f, e, g) (start-next (first_not is_field ps) p ps)

    last : length t ≤ length p → faulty_at t ≡ suc (length p) + faulty_at (drop (suc (length p)) t)
    last l = after [] (last-piece 45 t l) ∙ rw (drop_of_length-le t (let h : length t ≤ suc (length p) = omega arith in h), start_first, wrong-field [] (rw (piece-none 45)))

    next : length p < length t → faulty_at t ≡ suc (length p) + faulty_at (drop (suc (length p)) t)
    next l = after (split 45 (drop (suc (length p)) t)) (next-piece 45 t l)

-- the fields before `start` are fine, and those from there on decide
pub record Fine (s : List ℕ) (start : ℕ) : Type 0 where
  pub within : start ≤ length s + 1
  pub rest : faulty_at s ≡ start + faulty_at (drop start s)

module _ {s : List ℕ} {start : ℕ} (w : Fine s start) where
  pub all-fine : length s < start → start ≡ faulty_at s
  all-fine h = sym (w.rest ∙ rw (drop_of_length-le s (let l : length s ≤ start = omega arith in l), wrong-field [] (rw (piece-none 45))) (omega arith))

  pub stops-here : is_field (piece 45 (drop start s)) ≡ false → start ≡ faulty_at s
  stops-here e = sym (w.rest ∙ rw (wrong-field (drop start s) e) (omega arith))

  pub one-fine : start ≤ length s → is_field (piece 45 (drop start s)) ≡ true → Fine s (start + length (piece 45 (drop start s)) + 1)
  one-fine h e =
      let p = length (piece 45 (drop start s)) in
      let q : start + (p + 1) ≡ start + p + 1 = omega arith in
      let d : drop (suc p) (drop start s) ≡ drop (start + p + 1) s = rw (← add-one p, ← q) (drop-drop (p + 1) start s) in
      record {
        within = omega (arith, piece-within 45 (drop start s), length-drop start s);
        rest = w.rest ∙ rw (fine-field (drop start s) e, d) (omega arith);
      }
