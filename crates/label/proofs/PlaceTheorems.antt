-- What is refused, and where, is what document 02, b) says of the label's bytes and fields: each kind of fault is sought in the whole label
-- before the next kind, and a place is the first at which there is one. Assumes nothing.
use mathlib.Core.Path.{◌≡◌, refl, sym, ap, ap₂, ◌∙◌}
use mathlib.Core.Bool.{Bool, true, false, not, ◌&&◌, and-true, and-false}
use mathlib.Core.List.{List, [], ◌∷◌}
use mathlib.Core.Logic.{◌↔◌, ⊎_elim}
use Prim.Native.Nat.{ℕ, zero, suc, ◌+◌, ◌*◌, ◌≤◌, ◌<◌}
use native.Mathlib.Omega.{arith}
use borrow.Author.Tests.{lt-ltb, le-ltb, ltb-true}
use lib.Dec.{ltb}
use lib.ListN.{length, get_or, drop, length-drop, length-map}
use lib.Seq.{drop-drop}
use Rattle.refusal.specs.declared.Refusal.TheVariants.{LabelLength, StrangeByte, FieldForm, NamesNoScale}
use Rattle.refusal.specs.Paper.{Paper, answer, refused, refuse◌at◌unless◌, refuse◌unless◌, ◌>>◌, ◌>>=◌}
use Rattle.refusal.proofs.PaperLaws.{differs, same_number, same-value}
use Rattle.division.specs.Words.{◌≤?◌, between}
use Rattle.division.specs.Table.{Made, of_area, of_scale, is_scale, made}
use Rattle.division.specs.Sheet.{sheet_of}
use Rattle.division.proofs.TestLaws.{both, in_between, between_in, le-or-less}
use Rattle.division.proofs.TableLaws.{is-scale}
use Rattle.label.specs.Text.{every, first_not, split, value}
use Rattle.label.specs.Label.{ranges, in_range, first_out, place_from, scale_with, is_label_byte, is_field, well_formed, start_of, formed, numbers_in, sheet_named, read_label}
use Rattle.label.specs.Theorems.{First, fails_at, is_strange, begins, is_faulty, NamedBy, is_out, Wrong, empty, long, strange, faulty, unknown, out, in_range_before, read_before, as_before}
use Rattle.label.proofs.PieceLaws.{piece}
use Rattle.label.proofs.PlaceLaws.{cannot, last-piece, next-piece, start_first, start-next, faulty_at}
use Rattle.label.proofs.FormLaws.{empty-form, long-form, strange-form, field-form}
use Rattle.label.proofs.NamedLaws.{marked, named, scale_from, read-unformed, read_none, read_named}
use Rattle.label.proofs.FieldLaws.{count-ranges}
use Rattle.label.proofs.FaultLaws.{others, none-behind, begun, none-faulty, first-faulty}

-- ---- the first place

no : {b : Bool} → b ≡ true → b ≡ false → ⊥
no e f = let z : ◌≡◌ {A = ℕ} 0 1 = cc in omega arith

one-first : {test : ℕ → Bool} {a b : ℕ} → First test a → First test b → a ≡ b
one-first {test} {a} {b} x y =
    ⊎_elim (λ h. ⊎_elim (λ l. let e : a ≡ b = omega arith in e) (λ l. absurd (no x.there (y.before a l))) (le-or-less b a))
    (λ l. absurd (no y.there (x.before b l))) (le-or-less a b)

module _ {A : Type 0} (test : A → Bool) (none : A) where
  behind-one : (x : A) (xs : List A) (k : ℕ) → fails_at test none (x ∷ xs) (suc k) ≡ fails_at test none xs k
  behind-one x xs k = ap (λ (b : Bool). b && not (test (get_or xs k none))) (⊎_elim (λ l. le-ltb (suc k) (suc (length xs)) (omega arith) ∙ sym (le-ltb k (length xs) l)) (λ l. lt-ltb (suc k) (suc (length xs)) (omega arith) ∙ sym (lt-ltb k (length xs) l)) (le-or-less (length xs) k))

  none-fails : (xs : List A) → every test xs ≡ true → (k : ℕ) → fails_at test none xs k ≡ false
  unfolding every
  none-fails [] e k = rw (le-ltb k 0 (omega arith))
  none-fails (x ∷ xs) e zero = rw (both (test x) (every test xs) e).0 (and-false (ltb 0 (suc (length xs))))
  none-fails (x ∷ xs) e (suc k) = behind-one x xs k ∙ none-fails xs (both (test x) (every test xs) e).1 k

  first-fails : (xs : List A) → every test xs ≡ false → First (fails_at test none xs) (first_not test xs)
  unfolding every first_not
  first-fails [] e = absurd (no refl e)
  first-fails (x ∷ xs) e = by (test x) refl (first-fails xs)
    where
      by : (b : Bool) → test x ≡ b → (every test xs ≡ false → First (fails_at test none xs) (first_not test xs)) → First (fails_at test none (x ∷ xs)) (first_not test (x ∷ xs))
      by false f ih = rw f (record { there = rw (lt-ltb 0 (suc (length xs)) (omega arith), f); before = λ k h. absurd (omega arith) })
      by true f ih =
          let w = ih (rw f at e) in
          let g : 1 + first_not test xs ≡ suc (first_not test xs) = omega arith in
          rw (f, g) (record { there = behind-one x xs (first_not test xs) ∙ w.there; before = earlier w })
        where
          earlier : First (fails_at test none xs) (first_not test xs) → (k : ℕ) → k < suc (first_not test xs) → fails_at test none (x ∷ xs) k ≡ false
          earlier w zero h = rw f (and-false (ltb 0 (suc (length xs))))
          earlier w (suc k) h = behind-one x xs k ∙ w.before k (omega arith)

  -- so a list in which one fails does not pass
  some-fails : (xs : List A) (k : ℕ) → fails_at test none xs k ≡ true → every test xs ≡ false
  some-fails xs k e = cannot (every test xs) (λ f. no e (none-fails xs f k))

-- ---- where a field stands

-- a field begins at its place, within the label or at its end, and what stands there up to the next hyphen is the field
pub record Stands (s : List ℕ) (k : ℕ) : Type 0 where
  pub within : start_of k (split 45 s) ≤ length s
  pub there : begins s (start_of k (split 45 s)) ≡ true
  pub field : piece 45 (drop (start_of k (split 45 s)) s) ≡ get_or (split 45 s) k []

-- the field behind k others stands where it stands behind the first hyphen
later : (k : ℕ) (s : List ℕ) → length (piece 45 s) < length s → Stands (others s) k → Stands s (suc k)
later k s l w =
    let p = length (piece 45 s) in
    let x = start_of k (split 45 (others s)) in
    let e = next-piece 45 s l in
    let f : start_of (suc k) (split 45 s) ≡ suc p + x = ap (start_of (suc k)) e ∙ start-next k (piece 45 s) (split 45 (others s)) in
    record {
      within = rw f (omega (arith, w.within, length-drop (suc p) s));
      there = rw f (begun s l x ∙ w.there);
      field = rw (f, ← drop-drop x (suc p) s) (w.field ∙ sym (ap (λ (l : List (List ℕ)). get_or l (suc k) []) e));
    }

pub stands : (k : ℕ) (s : List ℕ) → k < length (split 45 s) → Stands s k
stands zero s h = record { within = rw (start_first (split 45 s)) (omega arith); there = rw (start_first (split 45 s)); field = rw (start_first (split 45 s)) }
stands (suc k) s h =
    ⊎_elim (λ l. absurd (omega (arith, ap length (last-piece 45 s l))))
    (λ l. later k s l (stands k (others s) (omega (arith, ap length (next-piece 45 s l))))) (le-or-less (length s) (length (piece 45 s)))

-- ---- what is wrong is refused

module _ (label : List ℕ) where
  abbrev numbers : List ℕ
  numbers = numbers_in label

  abbrev named-scale : ℕ
  named-scale = scale_with (get_or numbers 0 0) (length numbers)

  field-fails : (k : ℕ) → is_faulty label k ≡ true → every is_field (split 45 label) ≡ false
  field-fails k e = cannot (every is_field (split 45 label)) (λ f. no e (none-faulty label f k))

  no-scale : ((s : ℕ) → NamedBy label s → ⊥) → scale_from numbers ≡ refused 21 0
  no-scale n = by (is_scale named-scale) refl
    where
      by : (b : Bool) → is_scale named-scale ≡ b → ((refuse 21 at 0 unless b) >> answer named-scale) ≡ refused 21 0
      by true e = absurd (n named-scale (named (get_or numbers 0 0) (length numbers) named-scale (rw e)))
      by false e = refl

  scale_of : {s : ℕ} → NamedBy label s → scale_from numbers ≡ answer s
  scale_of {s} h =
      let e : named-scale ≡ s = sym (ap₂ scale_with h.mark h.count) ∙ (marked h.scale).named in
      rw (e, is-scale h.scale)

  out-refused : (s : ℕ) {k : ℕ} → First (is_out s label) k → sheet_named s label ≡ refused 5 (start_of (1 + k) (split 45 label))
  unfolding sheet_named in_range first_out
  out-refused s {k} w =
      let rs = ranges (made s) (drop 1 numbers) in
      let e = some-fails (λ good. good) true rs k w.there in
      rw (e, one-first (first-fails (λ good. good) true rs e) w)

  wrong-refused : {number place : ℕ} → Wrong label number place → read_label label ≡ refused number place
  wrong-refused (empty e) = read-unformed label (LabelLength 0) (empty-form label e)
  wrong-refused (long h) = read-unformed label (LabelLength 16) (long-form label h)
  wrong-refused (strange {place} s w) =
      let b = between_in 1 16 (length label) s in
      let e = some-fails is_label_byte 0 label place w.there in
      read-unformed label (StrangeByte place) (strange-form label b.0 b.1 e ∙ ap (refused 19) (one-first (first-fails is_label_byte 0 label e) w))
  wrong-refused (faulty {place} s plain w) =
      let b = between_in 1 16 (length label) s in
      let e = field-fails place w.there in
      read-unformed label (FieldForm place) (field-form label b.0 b.1 plain e ∙ ap (refused 20) (one-first (first-faulty label e) w))
  wrong-refused (unknown f n) = read_none label f NamesNoScale (no-scale n)
  wrong-refused (out {s} f h w) = read_named label f s (scale_of h) ∙ out-refused s w

  -- ---- what is refused is wrong

  -- a fault that is there is the one that is told
  told : {m n p q : ℕ} → read_label label ≡ refused n q → Wrong label m p → Wrong label n q
  told e w = let f = sym (wrong-refused w) ∙ e in rw (← (same_number f), ← (same-value f)) w

  module _ {number place : ℕ} (e : read_label label ≡ refused number place) where
    -- of a label that is well formed and names a scale, a field is out of range
    named-wrong : well_formed label ≡ true → NamedBy label named-scale → Wrong label number place
    unfolding sheet_named in_range
    named-wrong f h = by (in_range (made named-scale) (drop 1 numbers)) refl
      where
        by : (b : Bool) → in_range (made named-scale) (drop 1 numbers) ≡ b → Wrong label number place
        by true g =
            let a : sheet_named named-scale label ≡ answer (sheet_of named-scale (place_from (made named-scale) (drop 1 numbers))) = rw g in
            absurd (differs (sym (read_named label f named-scale (scale_of h) ∙ a) ∙ e))
        by false g = told e (out f h (first-fails (λ good. good) true (ranges (made named-scale) (drop 1 numbers)) g))

    formed-wrong : well_formed label ≡ true → Wrong label number place
    formed-wrong f = by (is_scale named-scale) refl
      where
        by : (b : Bool) → is_scale named-scale ≡ b → Wrong label number place
        by true g = named-wrong f (named (get_or numbers 0 0) (length numbers) named-scale (rw g))
        by false g = let n : scale_from numbers ≡ refused 21 0 = rw g in told e (unknown f (λ s h. differs (sym (scale_of h) ∙ n)))

    sized-wrong : between 1 16 (length label) ≡ true → Wrong label number place
    unfolding well_formed
    sized-wrong s = by (every is_label_byte label) refl (every is_field (split 45 label)) refl
      where
        by : (b : Bool) → every is_label_byte label ≡ b → (c : Bool) → every is_field (split 45 label) ≡ c → Wrong label number place
        by false f c g = told e (strange s (first-fails is_label_byte 0 label f))
        by true f false g = told e (faulty s f (first-faulty label g))
        by true f true g = formed-wrong (rw (s, f, g))

    refused-wrong : Wrong label number place
    refused-wrong =
        ⊎_elim (λ a. ⊎_elim (λ b. sized-wrong (in_between 1 16 (length label) a b)) (λ b. told e (long b)) (le-or-less (length label) 16))
        (λ a. told e (empty (omega arith))) (le-or-less 1 (length label))

-- ---- the theorems

-- "Each, and 5 too, carries the place of the first offending byte in the label": what is refused, and where, for every label
pub refused-iff : (label : List ℕ) (number place : ℕ) → (read_label label ≡ refused number place) ↔ Wrong label number place
refused-iff label number place = (λ e. refused-wrong label e, λ w. wrong-refused label w)

-- the place is within the label or at its end
pub place-within : (label : List ℕ) (number place : ℕ) → read_label label ≡ refused number place → place ≤ length label
place-within label number place e = by (refused-wrong label e)
  where
    by : {n p : ℕ} → Wrong label n p → p ≤ length label
    by (empty h) = omega arith
    by (long h) = omega arith
    by (strange {place} s w) = let l = ltb-true place (length label) (both (ltb place (length label)) (not (is_label_byte (get_or label place 0))) w.there).0 in omega arith
    by (faulty {place} s plain w) = ⊎_elim (λ h. h) (λ h. absurd (no w.there (none-behind label place h))) (le-or-less place (length label))
    by (unknown f n) = omega arith
    by (out {s} {k} f h w) =
        let rs = ranges (made s) (drop 1 (numbers label)) in
        let l = ltb-true k (length rs) (both (ltb k (length rs)) (not (get_or rs k true)) w.there).0 in
        (stands (1 + k) label (omega (arith, count-ranges (made s) (drop 1 (numbers label)), h.count, length-map (split 45 label) value))).within

-- by kind and not by place: a 19 anywhere hides every 20, and a 20 anywhere every 21, which has one place and hides every 5
module _ (label : List ℕ) (s : between 1 16 (length label) ≡ true) (k : ℕ) where
  pub strange-hides : is_strange label k ≡ true → (p : ℕ) × (p ≤ k) × (read_label label ≡ refused 19 p)
  strange-hides e =
      let w = first-fails is_label_byte 0 label (some-fails is_label_byte 0 label k e) in
      (first_not is_label_byte label, ⊎_elim (λ h. h) (λ h. absurd (no e (w.before k h))) (le-or-less (first_not is_label_byte label) k), wrong-refused label (strange s w))

  pub faulty-hides : every is_label_byte label ≡ true → is_faulty label k ≡ true → (p : ℕ) × (p ≤ k) × (read_label label ≡ refused 20 p)
  faulty-hides plain e =
      let w = first-faulty label (field-fails label k e) in
      (faulty_at label, ⊎_elim (λ h. h) (λ h. absurd (no e (w.before k h))) (le-or-less (faulty_at label) k), wrong-refused label (faulty s plain w))

pub unknown-hides : (label : List ℕ) → well_formed label ≡ true → ((s : ℕ) → NamedBy label s → ⊥) → read_label label ≡ refused 21 0
unknown-hides label f n = wrong-refused label (unknown f n)

-- the ranges one by one have the value of the one test that document 01's reading had
pub range-before : (m : Made) (fields : List ℕ) → in_range m fields ≡ in_range_before m fields
unfolding in_range in_range_before ranges every
range-before (of_area r c) fields = ap (λ (b : Bool). between 101 (100 + r) (get_or fields 0 0) && b) (and-true (between 1 c (get_or fields 1 0)))
range-before (of_scale s m k) fields = ap (λ (b : Bool). between 1 (k * k) (get_or fields 0 0) && b) (range-before m (drop 1 fields))

-- "Which labels are accepted does not change": 4 is told apart, and nothing else
pub as_before_lem : (label : List ℕ) → as_before (read_label label) ≡ read_before label
unfolding read_label read_before formed sheet_named well_formed
as_before_lem label = by (1 ≤? length label) (length label ≤? 16) (every is_label_byte label) (every is_field fields) (is_scale scale)
  where
    fields : List (List ℕ)
    fields = split 45 label

    scale : ℕ
    scale = named-scale label

    sheet : Paper ℕ
    sheet = answer (sheet_of scale (place_from (made scale) (drop 1 (numbers label))))

    ranged : (place : ℕ) (g : Bool) → as_before ((refuse 5 at place unless g) >> sheet) ≡ ((refuse 5 unless g) >> sheet)
    ranged place true = refl
    ranged place false = refl

    by : (a b c d f : Bool) →
        as_before (((refuse 4 at 0 unless a) >> ((refuse 4 at 16 unless b) >> ((refuse 19 at first_not is_label_byte label unless c) >> (refuse 20 at start_of (first_not is_field fields) fields unless d)))) >>
        (((refuse 21 at 0 unless f) >> answer scale) >>= λ s. sheet_named s label))
        ≡ ((refuse 4 unless (((a && b) && c) && d)) >> ((refuse 4 unless f) >> ((refuse 5 unless in_range_before (made scale) (drop 1 (numbers label))) >> sheet)))
    by false b c d f = refl
    by true false c d f = refl
    by true true false d f = refl
    by true true true false f = refl
    by true true true true false = refl
    by true true true true true =
        let behind = drop 1 (numbers label) in
        ranged (start_of (1 + first_out (made scale) behind) fields) (in_range (made scale) behind) ∙ ap (λ (g : Bool). (refuse 5 unless g) >> sheet) (range-before (made scale) behind)
