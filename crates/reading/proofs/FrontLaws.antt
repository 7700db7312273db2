-- The digits and hyphens that bytes begin with are the label where it ends with them, and no label is well formed where it does not.
-- Assumes nothing.
use mathlib.Core.Path.{◌≡◌, refl, sym, ap, ◌∙◌}
use mathlib.Core.Logic.{⊎_elim}
use mathlib.Core.Bool.{Bool, true, false, cond, ◌&&◌, ◌||◌}
use mathlib.Core.List.{List, [], ◌∷◌}
use Prim.Native.Nat.{ℕ, zero, suc, ◌+◌, ◌≤◌, ◌<◌, min}
use native.Mathlib.Omega.{arith}
use borrow.Author.Tests.{eq-eqb, ne_eqb, eqb-true, eqb-false}
use lib.Dec.{eqb}
use lib.ListN.{length, get_or, take, length-take}
use lib.Seq.{take_all}
use Rattle.refusal.specs.declared.Refusal.{Refusal}
use Rattle.refusal.specs.Paper.{answer}
use Rattle.refusal.specs.Numbers.{on_paper}
use Rattle.refusal.proofs.PaperLaws.{asked-on}
use Rattle.division.specs.Words.{◌=?◌, between}
use Rattle.division.specs.Table.{first}
use Rattle.division.specs.Sheet.{ground_of}
use Rattle.division.proofs.TestLaws.{both, between_in, le-or-less}
use Rattle.label.specs.Text.{every}
use Rattle.label.specs.Label.{is_label_byte, well_formed, formed, numbers_in, read_label}
use Rattle.label.proofs.PieceLaws.{piece, piece-none, piece-cons, piece-take}
use Rattle.label.proofs.PlaceLaws.{cannot}
use Rattle.label.proofs.FormLaws.{long-form}
use Rattle.reckoning.specs.declared.Named.{Named}
use Rattle.std.specs.Prelude.{Option, Some, None, not}
use Rattle.std.specs.Option.{option_eq}
use borrow.Author.Tests.{not-true, not-false}
use Rattle.reckoning.specs.Given.{corners_at}
use Rattle.reading.specs.Front.{read_front}
use Rattle.reading.specs.Given.{beginning, numbers_of, Found, IsScanned, front_at}
use Rattle.reading.proofs.DigitLaws.{begins-on, begins-off, begins-none}
use Rattle.reading.proofs.ScanLaws.{front}
use Rattle.reading.proofs.HeldLaws.{unformed, well}

-- ---- what bytes begin with, and all of them

module _ (test : ℕ → Bool) where
  -- if each passes, it is all of them
  begins-all : (s : List ℕ) → every test s ≡ true → beginning test s ≡ s
  unfolding every
  begins-all [] e = begins-none test
  begins-all (b ∷ s) e =
      let p = both (test b) (every test s) e in
      begins-on test b s p.0 ∙ ap (λ (l : List ℕ). b ∷ l) (begins-all s p.1)

  -- it is a beginning, so it is all of them if it is as long
  begins-take : (s : List ℕ) → take (length (beginning test s)) s ≡ beginning test s
  begins-take [] = rw (begins-none test)
  begins-take (b ∷ s) = by (test b) refl (begins-take s)
    where
      by : (t : Bool) → test b ≡ t → take (length (beginning test s)) s ≡ beginning test s → take (length (beginning test (b ∷ s))) (b ∷ s) ≡ beginning test (b ∷ s)
      by true e ih = rw (begins-on test b s e) (ap (λ (l : List ℕ). b ∷ l) ih)
      by false e ih = rw (begins-off test b s e)

  begins-long : (s : List ℕ) → length (beginning test s) ≡ length s → beginning test s ≡ s
  begins-long s e = sym (begins-take s) ∙ take_all (length (beginning test s)) s (omega arith)

  -- and of a beginning of the bytes it is one too
  begins-cut : (n : ℕ) (s : List ℕ) → beginning test (take n s) ≡ take n (beginning test s)
  begins-cut zero s = begins-none test
  begins-cut (suc n) [] = rw (begins-none test)
  begins-cut (suc n) (b ∷ s) = by (test b) refl (begins-cut n s)
    where
      by : (t : Bool) → test b ≡ t → beginning test (take n s) ≡ take n (beginning test s) → beginning test (b ∷ take n s) ≡ take (suc n) (beginning test (b ∷ s))
      by true e ih = rw (begins-on test b s e, begins-on test b (take n s) e) (ap (λ (l : List ℕ). b ∷ l) ih)
      by false e ih = rw (begins-off test b s e, begins-off test b (take n s) e)

-- ---- and the piece before the first space

-- a place is the end of bytes, or a space stands there
abbrev pub ended : List ℕ → ℕ → Bool
ended s i = i =? length s || get_or s i 0 =? 32

suc-same : (a b : ℕ) → eqb (suc a) (suc b) ≡ eqb a b
suc-same a b = by (eqb a b) refl
  where
    by : (t : Bool) → eqb a b ≡ t → eqb (suc a) (suc b) ≡ t
    by true e = eq-eqb (suc a) (suc b) (omega (arith, eqb-true a b e))
    by false e = ne_eqb (suc a) (suc b) (λ z. eqb-false a b e (omega arith))

-- with bytes left, the end is not here
ended_here : (b : ℕ) (s : List ℕ) → ended (b ∷ s) 0 ≡ eqb b 32
ended_here b s = rw (ne_eqb 0 (suc (length s)) (λ z. omega arith))

ended-cons : (b : ℕ) (s : List ℕ) (i : ℕ) → ended (b ∷ s) (suc i) ≡ ended s i
ended-cons b s i = rw (suc-same i (length s))

piece-ends : (s : List ℕ) → ended s (length (piece 32 s)) ≡ true
piece-ends [] = rw (piece-none 32)
piece-ends (b ∷ s) = rw (piece-cons 32 b s) (by (eqb b 32) refl (piece-ends s))
  where
    by : (t : Bool) → eqb b 32 ≡ t → ended s (length (piece 32 s)) ≡ true → ended (b ∷ s) (length (cond t [] (b ∷ piece 32 s))) ≡ true
    by true e ih = ended_here b s ∙ e
    by false e ih = ended-cons b s (length (piece 32 s)) ∙ ih

-- if the piece is of digits and hyphens, they are what the bytes begin with
piece-front : (s : List ℕ) → every is_label_byte (piece 32 s) ≡ true → front s ≡ piece 32 s
unfolding every
piece-front [] e = begins-none is_label_byte ∙ sym (piece-none 32)
piece-front (b ∷ s) e = by (eqb b 32) refl (piece-cons 32 b s) (piece-front s)
  where
    by : (t : Bool) → eqb b 32 ≡ t → piece 32 (b ∷ s) ≡ cond t [] (b ∷ piece 32 s) → (every is_label_byte (piece 32 s) ≡ true → front s ≡ piece 32 s) → front (b ∷ s) ≡ piece 32 (b ∷ s)
    by true h q ih = rw q (rw (eqb-true b 32 h) (begins-off is_label_byte 32 s refl))
    by false h q ih =
        let p = both (is_label_byte b) (every is_label_byte (piece 32 s)) (rw q at e) in
        rw q (begins-on is_label_byte b s p.0 ∙ ap (λ (l : List ℕ). b ∷ l) (ih p.1))

-- and what ends at a space, or with the bytes, is the piece
front-piece : (s : List ℕ) → ended s (length (front s)) ≡ true → piece 32 s ≡ front s
front-piece [] e = piece-none 32 ∙ sym (begins-none is_label_byte)
front-piece (b ∷ s) e = by (is_label_byte b) refl (front-piece s)
  where
    no-space : is_label_byte b ≡ true → b ≡ 32 → ⊥
    no-space f z = let y : false ≡ true = rw z at f in let o : ◌≡◌ {A = ℕ} 0 1 = cc in omega arith

    by : (t : Bool) → is_label_byte b ≡ t → (ended s (length (front s)) ≡ true → piece 32 s ≡ front s) → piece 32 (b ∷ s) ≡ front (b ∷ s)
    by true f ih =
        let g = begins-on is_label_byte b s f in
        let h : ended s (length (front s)) ≡ true = sym (ended-cons b s (length (front s))) ∙ rw g at e in
        piece-cons 32 b s ∙ rw (ne_eqb b 32 (no-space f), g) (ap (λ (l : List ℕ). b ∷ l) (ih h))
    by false f ih =
        let g = begins-off is_label_byte b s f in
        let h : eqb b 32 ≡ true = sym (ended_here b s) ∙ rw g at e in
        piece-cons 32 b s ∙ rw (h, g)

-- ---- a label that was read

-- it is well formed, and the numbers that were found are its own
pub record Read (numbers label : List ℕ) : Type 0 where
  pub formed : well_formed label ≡ true
  pub are : numbers ≡ numbers_in label

-- what a well formed label has: at most 16 bytes, all of them digits and hyphens, and numbers
few_bytes : (label : List ℕ) → well_formed label ≡ true → length label ≤ 16
unfolding well_formed
few_bytes label e =
    let p = (both (between 1 16 (length label) && every is_label_byte label) _ e).0 in
    (between_in 1 16 (length label) (both (between 1 16 (length label)) (every is_label_byte label) p).0).1

label-bytes : (label : List ℕ) → well_formed label ≡ true → every is_label_byte label ≡ true
unfolding well_formed
label-bytes label e =
    let p = (both (between 1 16 (length label) && every is_label_byte label) _ e).0 in
    (both (between 1 16 (length label)) (every is_label_byte label) p).1

some-numbers : (label : List ℕ) → well_formed label ≡ true → length (numbers_of label) ≡ 0 → ⊥
some-numbers label f e = let z : true ≡ false = sym f ∙ unformed label e in let o : ◌≡◌ {A = ℕ} 0 1 = cc in omega arith

-- numbers that were found are those of what the bytes begin with
found : {s numbers : List ℕ} {end : ℕ} → Found s numbers end → Read numbers (front s)
found {s} w =
    let g = well (front s) (λ e. omega (arith, w.some, ap length w.are, e)) in
    record { formed = g.0; are = w.are ∙ g.1 }

-- and of a label that is just that
named-so : {numbers l label : List ℕ} → l ≡ label → Read numbers l → Read numbers label
named-so e g = record { formed = rw (← e) g.formed; are = g.are ∙ ap numbers_in e }

-- and a label that the bytes begin with is found
finds : (s numbers label : List ℕ) → well_formed label ≡ true → front s ≡ label → (r : Option ℕ) → IsScanned s numbers r → r ≡ Some (length label)
finds s numbers label f e (Some end) w = ap Some (w.ends ∙ ap length e)
finds s numbers label f e None w = absurd (some-numbers label f (ap length (sym (ap numbers_of e) ∙ w)))

-- where it ends at a place, and where not, as the code asks it
ends_at : (r : Option ℕ) (n : ℕ) → not (option_eq eqb r (Some n)) ≡ false → r ≡ Some n
ends_at (Some k) n e = ap Some (eqb-true k n (not-false (eqb k n) e))
ends_at None n e = let z : ◌≡◌ {A = ℕ} 0 1 = cc in absurd (omega arith)

ends-elsewhere : (r : Option ℕ) (n : ℕ) → not (option_eq eqb r (Some n)) ≡ true → r ≡ Some n → ⊥
ends-elsewhere (Some k) n e f = eqb-false k n (not-true (eqb k n) e) (let q : k ≡ n = cc in q)
ends-elsewhere None n e f = let z : ◌≡◌ {A = ℕ} 0 1 = cc in omega arith

-- all of the bytes
module _ (s numbers : List ℕ) where
  pub label-read : (r : Option ℕ) {b : Bool} → IsScanned s numbers r → b ≡ not (option_eq eqb r (Some (length s))) → b ≡ false → Read numbers s
  label-read r w e f = whole r w (ends_at r (length s) (sym e ∙ f))
    where
      whole : (r : Option ℕ) → IsScanned s numbers r → r ≡ Some (length s) → Read numbers s
      whole (Some end) w e = let q : end ≡ length s = cc in named-so (begins-long is_label_byte s (sym w.ends ∙ q)) (found w)
      whole None w e = let z : ◌≡◌ {A = ℕ} 0 1 = cc in absurd (omega arith)

  pub label-faulty : (r : Option ℕ) {b : Bool} → IsScanned s numbers r → b ≡ not (option_eq eqb r (Some (length s))) → b ≡ true → well_formed s ≡ false
  label-faulty r w e f =
      cannot (well_formed s) (λ g. ends-elsewhere r (length s) (sym e ∙ f) (finds s numbers s g (begins-all is_label_byte s (label-bytes s g)) r w))

-- the first 17 bytes, as the code takes them
pub first-bytes : (line : List ℕ) → take (min (length line) 17) line ≡ take 17 line
first-bytes line = ⊎_elim few many (le-or-less (length line) 17)
  where
    few : length line ≤ 17 → take (min (length line) 17) line ≡ take 17 line
    few h = take_all (min (length line) 17) line (omega arith) ∙ sym (take_all 17 line h)

    many : 17 < length line → take (min (length line) 17) line ≡ take 17 line
    many h = let e : min (length line) 17 ≡ 17 = omega arith in rw e

-- what stands before the first space, by the first 17 bytes
module _ (line : List ℕ) {s : List ℕ} (q : s ≡ take 17 line) where
  cut : front s ≡ take 17 (front line)
  cut = ap front q ∙ begins-cut is_label_byte 17 line

  module _ {numbers : List ℕ} {end : ℕ} (w : Found s numbers end) where
    pub end-there : end ≤ length line
    end-there = omega (arith, w.within, ap length q, length-take 17 line)

    pub front_read : ended line end ≡ true → Read numbers (piece 32 line) × (take end line ≡ piece 32 line)
    front_read e =
        let g = found w in
        let few = few_bytes (front s) g.formed in
        let same : front s ≡ front line = cut ∙ take_all 17 (front line) (omega (arith, few, ap length cut, length-take 17 (front line))) in
        let there : length (front line) ≡ end = ap length (sym same) ∙ sym w.ends in
        let label : piece 32 line ≡ front line = front-piece line (rw there e) in
        (named-so (same ∙ sym label) g, rw (← there, label) (begins-take is_label_byte line))

  pub front-faulty : (numbers : List ℕ) (r : Option ℕ) → IsScanned s numbers r → ((end : ℕ) → r ≡ Some end → ended line end ≡ true → ⊥) → well_formed (piece 32 s) ≡ false
  front-faulty numbers r w n = cannot (well_formed (piece 32 s)) no
    where
      no : well_formed (piece 32 s) ≡ true → ⊥
      no f =
          let part : piece 32 s ≡ take 17 (piece 32 line) = ap (piece 32) q ∙ piece-take 32 17 line in
          let few = few_bytes (piece 32 s) f in
          let short : length (piece 32 line) ≤ 16 = omega (arith, few, ap length part, length-take 17 (piece 32 line)) in
          let whole = take_all 17 (piece 32 line) (omega (arith, short)) in
          let good : well_formed (piece 32 line) ≡ true = rw (part ∙ whole) at f in
          let all : front line ≡ piece 32 line = piece-front line (label-bytes (piece 32 line) good) in
          n (length (piece 32 line)) (finds s numbers (piece 32 line) good (cut ∙ rw all whole) r w) (piece-ends line)

-- of a label that is not well formed, the first 17 bytes tell what is wrong
pub same-fault : (line : List ℕ) → formed (piece 32 (take 17 line)) ≡ formed (piece 32 line)
same-fault line = ⊎_elim short long (le-or-less (length (piece 32 line)) 16)
  where
    short : length (piece 32 line) ≤ 16 → formed (piece 32 (take 17 line)) ≡ formed (piece 32 line)
    short h = ap formed (piece-take 32 17 line ∙ take_all 17 (piece 32 line) (omega arith))

    long : 16 < length (piece 32 line) → formed (piece 32 (take 17 line)) ≡ formed (piece 32 line)
    long h =
        let l : 16 < length (piece 32 (take 17 line)) = omega (arith, ap length (piece-take 32 17 line), length-take 17 (piece 32 line)) in
        long-form (piece 32 (take 17 line)) l ∙ sym (long-form (piece 32 line) h)

-- ---- what is read of the line is what is read of its label

pub front-refused : (line : List ℕ) (why : Refusal) → read_label (piece 32 line) ≡ on_paper why → on_paper why ≡ read_front line
unfolding read_front
front-refused line why e = asked-on why _ (sym e)

pub front-sheet : (line : List ℕ) (x : Named) {end : ℕ} → corners_at x.scale x.reach ≡ ground_of (first x.scale + x.reach.index) → end ≡ length (piece 32 line)
    → answer (first x.scale + x.reach.index) ≡ read_label (piece 32 line) → answer (front_at x end) ≡ read_front line
unfolding read_front
front-sheet line x {end} c l e = rw (← e, c, l)
