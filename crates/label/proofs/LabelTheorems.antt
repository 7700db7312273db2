-- One ground, one spelling: a label is read to a sheet exactly if it is the label that is written for that sheet. Written fields are read
-- back as the numbers they were written from, and well formed fields are spelt as their numbers are written. Assumes nothing.
use mathlib.Core.Path.{◌≡◌, refl, sym, ap, ap₂, ◌∙◌}
use mathlib.Core.Bool.{Bool, true, false, not, cond, ◌&&◌}
use mathlib.Core.List.{List, [], ◌∷◌, map}
use mathlib.Core.Logic.{◌↔◌}
use Prim.Native.Nat.{ℕ, ◌+◌, ◌≤◌, ◌<◌}
use native.Mathlib.Omega.{arith}
use borrow.Author.Tests.{le-leb}
use lib.Dec.{eqb, leb}
use lib.ListN.{length, get_or, drop, length-drop}
use Rattle.refusal.specs.Paper.{answer}
use Rattle.refusal.proofs.PaperLaws.{passed-at, passed-judge, found, same_answer}
use Rattle.division.specs.declared.Place.{Place}
use Rattle.division.specs.Words.{between}
use Rattle.division.specs.Table.{Made, of_area, of_scale, rows_of, columns_of, made}
use Rattle.division.specs.Sheet.{is_sheet, scale_of, place_of, sheet_of, parent_place}
use Rattle.division.specs.Given.{OnGrid}
use Rattle.division.specs.Theorems.{SameGround}
use Rattle.division.proofs.TestLaws.{both, between_in}
use Rattle.division.proofs.MadeLaws.{Sound, On, number-few, on-parent}
use Rattle.division.proofs.TableLaws.{rules, is-scale}
use Rattle.division.proofs.NumberLaws.{on-grid, sheet-place, scale-sheet, place-sheet, is-sheet}
use Rattle.division.proofs.GroundTheorems.{ground-tells}
use Rattle.label.specs.Text.{every, split, join, value, digits, without_zeros, decimal}
use Rattle.label.specs.Label.{mark_of, fields_of, count_of, in_range, first_out, place_from, scale_with, scale_named, is_label_byte, is_field, well_formed, start_of, formed, numbers_in, sheet_named, read_label, label_of}
use Rattle.label.proofs.ValueLaws.{value-decimal}
use Rattle.label.proofs.SplitLaws.{FreeAll, split-join, join-split}
use Rattle.label.proofs.FieldLaws.{count-fields, place-fields, on-from, fields-place}
use Rattle.label.proofs.RangeLaws.{range-fields}
use Rattle.label.proofs.LengthLaws.{Short, sizes}
use Rattle.label.proofs.ByteLaws.{decimal-digits}
use Rattle.label.proofs.SpellLaws.{digits-free, pieces, pieces-spelt}
use Rattle.label.proofs.FormLaws.{well-formed, formed-well}
use Rattle.label.proofs.NamedLaws.{named, marked}
use Rattle.label.proofs.WritingTheorems.{labels-short, labels-plain}

-- ---- what is written is well formed

strip-field : (d : ℕ) (ds : List ℕ) → is_field (without_zeros (d ∷ ds)) ≡ true
unfolding without_zeros
strip-field d [] = by (eqb d 48)
  where
    by : (b : Bool) → is_field (cond (b && false) [] (d ∷ [])) ≡ true
    by true = refl
    by false = refl
strip-field d (e ∷ ds) = by (eqb d 48) refl (strip-field e ds)
  where
    by : (b : Bool) → eqb d 48 ≡ b → is_field (without_zeros (e ∷ ds)) ≡ true → is_field (cond (b && leb 1 (length (e ∷ ds))) (without_zeros (e ∷ ds)) (d ∷ e ∷ ds)) ≡ true
    by true f h = rw (le-leb 1 (length (e ∷ ds)) (omega arith)) h
    by false f h = ap not f

pub decimal-field : (n : ℕ) → is_field (decimal n) ≡ true
unfolding decimal digits
decimal-field n = strip-field _ _

free_all : (ns : List ℕ) → FreeAll 45 (map decimal ns)
free_all [] = tt
free_all (n ∷ ns) = (digits-free (decimal n) (decimal-digits n), free_all ns)

all-fields : (ns : List ℕ) → every is_field (map decimal ns) ≡ true
unfolding every
all-fields [] = refl
all-fields (n ∷ ns) = rw (decimal-field n) (all-fields ns)

-- ---- what is written is read back

-- numbers that the decimal writer holds
abbrev Few : List ℕ → Type 0
Few [] = Unit {0}
Few (n ∷ ns) = (n < 1_000) × Few ns

values-back : (ns : List ℕ) → Few ns → map value (map decimal ns) ≡ ns
values-back [] h = refl
values-back (n ∷ ns) h = ap₂ (λ (a : ℕ) (b : List ℕ). a ∷ b) (value-decimal n (omega (arith, h.0))) (values-back ns h.1)

split-back : (n : ℕ) (ns : List ℕ) → split 45 (join 45 (map decimal (n ∷ ns))) ≡ map decimal (n ∷ ns)
split-back n ns = split-join 45 (decimal n) (map decimal ns) (digits-free (decimal n) (decimal-digits n)) (free_all ns)

few-fields : (m : Made) (p : Place) → Short m → Sound m → On m p → Few (fields_of m p)
unfolding fields_of rows_of columns_of
few-fields (of_area r c) p f s o = (omega (arith, o.in_rows, f.0), (omega (arith, o.in-columns, f.1), tt))
few-fields (of_scale z m k) p f s o =
    (omega (arith, number-few k s.0 p, f.0), few-fields m (parent_place k p) f.1 s.1 (on-parent z m k p s.0 o))

-- a sheet's numbers
module _ (n : ℕ) (h : is_sheet n ≡ true) where
  on : On (made (scale_of n)) (place_of n)
  on = let o = on-grid n h in record { in_rows = o.in_rows; in-columns = o.in-columns }

  sound : Sound (made (scale_of n))
  sound = (rules (on-grid n h).scale).sound

  numbers-back : numbers_in (label_of n) ≡ mark_of (scale_of n) ∷ fields_of (made (scale_of n)) (place_of n)
  unfolding label_of
  numbers-back =
      let s = scale_of n in
      let fs = fields_of (made s) (place_of n) in
      let k = sizes (on-grid n h).scale in
      ap (map value) (split-back (mark_of s) fs) ∙ values-back (mark_of s ∷ fs) (k.mark-few, few-fields (made s) (place_of n) k.short sound on)

  fields-sound : every is_field (split 45 (label_of n)) ≡ true
  unfolding label_of
  fields-sound =
      let s = scale_of n in
      ap (every is_field) (split-back (mark_of s) (fields_of (made s) (place_of n))) ∙ all-fields (mark_of s ∷ fields_of (made s) (place_of n))

  formed-back : well_formed (label_of n) ≡ true
  unfolding well_formed
  formed-back = rw (labels-short n h, labels-plain n h, fields-sound)

  named_back : scale_with (mark_of (scale_of n)) (length (mark_of (scale_of n) ∷ fields_of (made (scale_of n)) (place_of n))) ≡ scale_of n
  named_back =
      let e : length (mark_of (scale_of n) ∷ fields_of (made (scale_of n)) (place_of n)) ≡ 1 + count_of (made (scale_of n)) = omega (arith, count-fields (made (scale_of n)) (place_of n)) in
      rw e (marked (on-grid n h).scale).named

  -- "Each label reads back to its sheet"
  pub reads-back : read_label (label_of n) ≡ answer n
  unfolding read_label sheet_named
  reads-back =
      rw (well-formed (label_of n) formed-back, numbers-back, named_back, is-scale (on-grid n h).scale, range-fields (made (scale_of n)) (place_of n) sound on, place-fields (made (scale_of n)) (place_of n) sound)
      (ap answer (sheet-place n h))

-- ---- what is read was written

-- what reading a label has found
record Accepted (l : List ℕ) (n : ℕ) : Type 0 where
  s : ℕ
  named : scale_named (get_or (numbers_in l) 0 0) (length (numbers_in l)) ≡ answer s
  formed : well_formed l ≡ true
  range : in_range (made s) (drop 1 (numbers_in l)) ≡ true
  sheet : n ≡ sheet_of s (place_from (made s) (drop 1 (numbers_in l)))

accepted : (l : List ℕ) (n : ℕ) → read_label l ≡ answer n → Accepted l n
unfolding read_label sheet_named
accepted l n e =
    let a = passed-judge (formed l) _ e in
    let b = found (scale_named (get_or (numbers_in l) 0 0) (length (numbers_in l))) (λ s. sheet_named s l) a.1 in
    let c = passed-at 5 (start_of (1 + first_out (made b.0) (drop 1 (numbers_in l))) (split 45 l)) (in_range (made b.0) (drop 1 (numbers_in l))) _ b.2 in
    record { s = b.0; named = b.1; formed = formed-well l a.0; range = c.0; sheet = sym (same_answer c.1) }

pub record Written (l : List ℕ) (n : ℕ) : Type 0 where
  pub sheet : is_sheet n ≡ true
  pub label : l ≡ label_of n

-- what is well formed is spelt as its numbers are written
formed-spelt : (l : List ℕ) → well_formed l ≡ true → join 45 (map decimal (numbers_in l)) ≡ l
unfolding well_formed
formed-spelt l h =
    let a = both (between 1 16 (length l) && every is_label_byte l) (every is_field (split 45 l)) h in
    let b = both (between 1 16 (length l)) (every is_label_byte l) a.0 in
    let f : length l ≤ 20 = omega (arith, (between_in 1 16 (length l) b.0).1) in
    ap (join 45) (pieces-spelt (length l) (split 45 l) f (pieces l b.1) a.1) ∙ join-split 45 l

front : (l : List ℕ) → 1 ≤ length l → get_or l 0 0 ∷ drop 1 l ≡ l
front [] h = absurd (omega arith)
front (x ∷ l) h = refl

-- the label of the sheet at a place
label_at : {s : ℕ} (p : Place) → OnGrid s p → label_of (sheet_of s p) ≡ join 45 (map decimal (mark_of s ∷ fields_of (made s) p))
unfolding label_of
label_at p o = rw (place-sheet o, scale-sheet o)

-- every accepted label is the written label of its sheet
pub was-written : (l : List ℕ) (n : ℕ) → read_label l ≡ answer n → Written l n
was-written l n e =
    let a = accepted l n e in
    let s = a.s in
    let ns = numbers_in l in
    let fs = drop 1 ns in
    let t = named (get_or ns 0 0) (length ns) s a.named in
    let h = t.scale in
    let c : length fs ≡ count_of (made s) = omega (arith, length-drop 1 ns, t.count) in
    let g = on-from (made s) fs (rules h).sound a.range in
    let p = place_from (made s) fs in
    let o : OnGrid s p = record { scale = h; in_rows = g.in_rows; in-columns = g.in-columns } in
    let f : mark_of s ∷ fields_of (made s) p ≡ ns = ap₂ (λ (x : ℕ) (xs : List ℕ). x ∷ xs) t.mark (fields-place (made s) fs (rules h).sound a.range c) ∙ front ns (omega (arith, t.count)) in
    record {
      sheet = rw a.sheet (is-sheet o);
      label = sym (ap label_of a.sheet ∙ label_at p o ∙ ap (λ (xs : List ℕ). join 45 (map decimal xs)) f ∙ formed-spelt l a.formed);
    }

-- ---- the theorems

-- which labels are accepted, without any reading: those that are written for some sheet
pub accepted-iff : (l : List ℕ) (n : ℕ) → (read_label l ≡ answer n) ↔ Written l n
accepted-iff l n = (was-written l n, λ w. rw w.label (reads-back n w.sheet))

-- two labels that are read to one sheet are the same bytes
pub one-spelling : (a b : List ℕ) (n : ℕ) → read_label a ≡ answer n → read_label b ≡ answer n → a ≡ b
one-spelling a b n e f = (was-written a n e).label ∙ sym (was-written b n f).label

-- "Two accepted labels stand for the same ground only when they are the same bytes, whichever scales they are of"
pub one-ground-one-spelling : (a b : List ℕ) (m n : ℕ) → read_label a ≡ answer m → read_label b ≡ answer n → SameGround m n → a ≡ b
one-ground-one-spelling a b m n e f same =
    let j = was-written a m e in
    let k = was-written b n f in
    j.label ∙ ap label_of (ground-tells m n j.sheet k.sheet same) ∙ sym k.label
