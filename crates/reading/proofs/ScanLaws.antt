-- The loop of `numbers_in`: what holds where a field begins, and what each way through a turn does. Assumes nothing.
use mathlib.Core.Path.{◌≡◌, refl, sym, ap, ◌∙◌}
use mathlib.Core.Logic.{⊎_elim}
use mathlib.Core.Bool.{Bool, true, false, and-false}
use mathlib.Core.List.{List, [], ◌∷◌, ◌++◌, map, append-nil}
use Prim.Native.Nat.{ℕ, suc, ◌+◌, ◌*◌, ◌≤◌, ◌<◌}
use native.Mathlib.Nat.{add-zero}
use native.Mathlib.Numerals.{add-one}
use native.Mathlib.Omega.{arith}
use borrow.Author.Tests.{eqb-true, lt-leb}
use lib.Dec.{eqb}
use lib.ListN.{length, get_or, drop, length-append, drop_of_length-le, get_or-eq_default}
use lib.Seq.{drop-cons, drop-drop, get_or-drop, append_snoc}
use Rattle.division.proofs.TestLaws.{in_between, between_in, le-or-less}
use Rattle.label.specs.Text.{every, split, value}
use Rattle.label.specs.Label.{is_label_byte, is_field, well_formed}
use Rattle.reading.specs.declared.numbers.Run.{Run}
use Rattle.reading.specs.Given.{is_digit, beginning, field_from, numbers_of, Found}
use Rattle.label.proofs.SplitLaws.{split-last, split-piece}
use Rattle.label.proofs.SpellLaws.{Digits, digits-free}
use Rattle.reading.proofs.DigitLaws.{begins-on, begins-off, begins-none, on-at}

-- ---- the digits and hyphens that bytes begin with

abbrev pub front : List ℕ → List ℕ
front s = beginning is_label_byte s

-- and the digits
abbrev digits : List ℕ → List ℕ
digits s = beginning is_digit s

are-digits : (s : List ℕ) → Digits (digits s)
are-digits [] = rw (begins-none is_digit) tt
are-digits (b ∷ s) = by (is_digit b) refl (are-digits s)
  where
    by : (t : Bool) → is_digit b ≡ t → Digits (digits s) → Digits (digits (b ∷ s))
    by true e ih = rw (begins-on is_digit b s e) (between_in 48 57 b e, ih)
    by false e ih = rw (begins-off is_digit b s e) tt

-- digits are digits or hyphens, so they come first
front-digits : (s : List ℕ) → front s ≡ digits s ++ front (drop (length (digits s)) s)
front-digits [] = rw (begins-none is_digit)
front-digits (b ∷ s) = by (is_digit b) refl (front-digits s)
  where
    by : (t : Bool) → is_digit b ≡ t → front s ≡ digits s ++ front (drop (length (digits s)) s) → front (b ∷ s) ≡ digits (b ∷ s) ++ front (drop (length (digits (b ∷ s))) (b ∷ s))
    by true e ih = rw (begins-on is_digit b s e, begins-on is_label_byte b s (rw e)) (ap (λ (l : List ℕ). b ∷ l) ih)
    by false e ih = rw (begins-off is_digit b s e)

-- behind them there is no digit
digits-end : (s : List ℕ) → digits (drop (length (digits s)) s) ≡ []
digits-end [] = rw (begins-none is_digit) (begins-none is_digit)
digits-end (b ∷ s) = by (is_digit b) refl (digits-end s)
  where
    by : (t : Bool) → is_digit b ≡ t → digits (drop (length (digits s)) s) ≡ [] → digits (drop (length (digits (b ∷ s))) (b ∷ s)) ≡ []
    by true e ih = rw (begins-on is_digit b s e) ih
    by false e ih = rw (begins-off is_digit b s e) (begins-off is_digit b s e)

-- where there is no digit and no hyphen, there is nothing more; a hyphen is one of them
no_more : (s : List ℕ) → digits s ≡ [] → eqb (get_or s 0 0) 45 ≡ false → front s ≡ []
no_more [] e h = begins-none is_label_byte
no_more (b ∷ s) e h = by (is_digit b) refl
  where
    by : (t : Bool) → is_digit b ≡ t → front (b ∷ s) ≡ []
    by true f = let z : suc (length (digits s)) ≡ 0 = ap length (rw (begins-on is_digit b s f) at e) in absurd (omega arith)
    by false f = begins-off is_label_byte b s (rw (f, h))

hyphen-more : (s : List ℕ) → front (45 ∷ s) ≡ 45 ∷ front s
hyphen-more s = begins-on is_label_byte 45 s refl

all_pass : (test : ℕ → Bool) (s : List ℕ) → every test (beginning test s) ≡ true
unfolding every
all_pass test [] = rw (begins-none test)
all_pass test (b ∷ s) = by (test b) refl (all_pass test s)
  where
    by : (t : Bool) → test b ≡ t → every test (beginning test s) ≡ true → every test (beginning test (b ∷ s)) ≡ true
    by true e ih = rw (begins-on test b s e, e) ih
    by false e ih = rw (begins-off test b s e)

front-within : (s : List ℕ) → length (front s) ≤ length s
front-within [] = rw (begins-none is_label_byte) (omega arith)
front-within (b ∷ s) = by (is_label_byte b) refl (front-within s)
  where
    by : (t : Bool) → is_label_byte b ≡ t → length (front s) ≤ length s → length (front (b ∷ s)) ≤ length (b ∷ s)
    by true e ih = rw (begins-on is_label_byte b s e) (omega arith)
    by false e ih = rw (begins-off is_label_byte b s e) (omega arith)

-- where a hyphen stands, there is a byte
byte-there : (s : List ℕ) (i : ℕ) → get_or s i 0 ≡ 45 → i < length s
byte-there s i e = ⊎_elim (λ h. let z : 0 ≡ 45 = sym (get_or-eq_default s 0 h) ∙ e in absurd (omega arith)) (λ h. h) (le-or-less (length s) i)

-- ---- form

abbrev formed : List ℕ → Bool
formed u = every is_field (split 45 u)

formed-none : formed [] ≡ false
unfolding every split
formed-none = refl

-- a field that does not begin with a digit is empty
formed-closed : (s : List ℕ) → formed (45 ∷ s) ≡ false
unfolding every split
formed-closed s = refl

formed-empty : (b : ℕ) (s : List ℕ) → is_digit b ≡ false → formed (front (b ∷ s)) ≡ false
formed-empty b s e = by (eqb b 45) refl
  where
    by : (t : Bool) → eqb b 45 ≡ t → formed (front (b ∷ s)) ≡ false
    by true h = rw (eqb-true b 45 h, hyphen-more s) (formed-closed (front s))
    by false h = rw (begins-off is_label_byte b s (rw (e, h))) formed-none

-- the first field decides, or the rest behind its hyphen
module _ (p : List ℕ) (g : Digits p) where
  formed-faulty : (s : List ℕ) → digits s ≡ [] → is_field p ≡ false → formed (p ++ front s) ≡ false
  unfolding every
  formed-faulty s e f = by (eqb (get_or s 0 0) 45) refl
    where
      last : formed p ≡ false
      last = rw (split-last 45 p (digits-free p g), f)

      more : (t : List ℕ) → formed (p ++ (45 ∷ t)) ≡ false
      more t = rw (split-piece 45 p t (digits-free p g), f)

      here : (s : List ℕ) → eqb (get_or s 0 0) 45 ≡ true → formed (p ++ front s) ≡ false
      here [] h = let z : ◌≡◌ {A = ℕ} 0 45 = eqb-true 0 45 h in absurd (omega arith)
      here (b ∷ s) h = rw (eqb-true b 45 h, hyphen-more s) (more (front s))

      by : (t : Bool) → eqb (get_or s 0 0) 45 ≡ t → formed (p ++ front s) ≡ false
      by true h = here s h
      by false h = rw (no_more s e h, append-nil p) last

  module _ (f : is_field p ≡ true) where
    formed-last : formed p ≡ true
    unfolding every
    formed-last = rw (split-last 45 p (digits-free p g), f)

    formed-more : (t : List ℕ) → formed (p ++ (45 ∷ t)) ≡ formed t
    unfolding every
    formed-more t = rw (split-piece 45 p t (digits-free p g), f)

-- ---- the numbers of what is formed, and none of what is not

none-formed : (u : List ℕ) → formed u ≡ false → [] ≡ numbers_of u
unfolding numbers_of well_formed
none-formed u e = rw (e, and-false)

none-long : (u : List ℕ) → 16 < length u → [] ≡ numbers_of u
unfolding numbers_of well_formed
none-long u h = rw (lt-leb (length u) 16 h, and-false)

some-formed : (s : List ℕ) → 1 ≤ length (front s) → length (front s) ≤ 16 → formed (front s) ≡ true → map value (split 45 (front s)) ≡ numbers_of (front s)
unfolding numbers_of well_formed
some-formed s l h e = rw (in_between 1 16 (length (front s)) l h, all_pass is_label_byte s, e)

-- ---- the loop

-- A field begins at place i of s: `done` are the numbers of the fields before it. The fields from there on decide the form, and their
-- numbers behind those are the numbers of all.
pub record Scan (s done : List ℕ) (i : ℕ) : Type 0 where
  pub short : length s ≤ 17
  pub within : i ≤ length s
  pub room : 2 * length done ≤ i
  pub long : i + length (front (drop i s)) ≡ length (front s)
  pub form : formed (front (drop i s)) ≡ formed (front s)
  pub numbers : done ++ map value (split 45 (front (drop i s))) ≡ map value (split 45 (front s))

pub begins : (s : List ℕ) {done : List ℕ} → length s ≤ 17 → done ≡ [] → Scan s done 0
begins s h e =
    rw e (record { short = h; within = omega arith; room = omega arith; long = omega arith; form = refl; numbers = refl })

module _ {s done : List ℕ} {i : ℕ} (w : Scan s done i) where
  pub ends-empty : length s ≤ i → [] ≡ numbers_of (front s)
  ends-empty h = none-formed (front s) (sym w.form ∙ rw (drop_of_length-le s h, begins-none is_label_byte) formed-none)

  module _ (lt : i < length s) where
    pub empty : is_digit (get_or s i 0) ≡ false → [] ≡ numbers_of (front s)
    empty e = none-formed (front s) (sym w.form ∙ rw (drop-cons s i 0 lt) (formed-empty (get_or s i 0) (drop (suc i) s) e))

    module _ (e : is_digit (get_or s i 0) ≡ true) where
      -- the field: a first digit and those behind it
      abbrev pub field : List ℕ
      field = get_or s i 0 ∷ digits (drop (i + 1) s)

      field_is : digits (drop i s) ≡ field
      field_is = on-at is_digit s i lt e

      abbrev pub end : ℕ
      end = i + 1 + length (digits (drop (i + 1) s))

      rest-is : drop (length (digits (drop i s))) (drop i s) ≡ drop end s
      rest-is = drop-drop (length (digits (drop i s))) i s ∙ ap (λ (k : ℕ). drop k s) end_is
        where
          end_is : i + length (digits (drop i s)) ≡ end
          end_is = omega (arith, ap length field_is)

      front-is : front (drop i s) ≡ field ++ front (drop end s)
      front-is = front-digits (drop i s) ∙ rw (rest-is, field_is)

      stops : digits (drop end s) ≡ []
      stops = rw rest-is at (digits-end (drop i s))

      of-digits : Digits field
      of-digits = rw field_is at (are-digits (drop i s))

      -- what is read of the field, by whether it has a leading zero
      good-run : is_field field ≡ true → field_from s (get_or s i 0) (i + 1) ≡ record { value = value field; end = end }
      good-run f = rw f

      bad-run : is_field field ≡ false → field_from s (get_or s i 0) (i + 1) ≡ record { value = 0; end = 17 }
      bad-run f = rw f

      -- a field that ends too far on: the label is too long, or the field has a leading zero
      pub too_far : (r : Run) → r ≡ field_from s (get_or s i 0) (i + 1) → 16 < r.end → [] ≡ numbers_of (front s)
      too_far r q h = by (is_field field) refl
        where
          by : (t : Bool) → is_field field ≡ t → [] ≡ numbers_of (front s)
          by true f =
              let k : r.end ≡ end = ap (λ (x : Run). x.end) (q ∙ good-run f) in
              none-long (front s) (omega (arith, w.long, ap length front-is, length-append field (front (drop end s)), k))
          by false f = none-formed (front s) (sym w.form ∙ rw front-is (formed-faulty field of-digits (drop end s) stops f))

      -- one that does not
      pub record Taken (r : Run) : Type 0 where
        pub good : is_field field ≡ true
        pub is : r.value ≡ value field
        pub ends : r.end ≡ end

      pub taken : (r : Run) → r ≡ field_from s (get_or s i 0) (i + 1) → r.end ≤ 16 → Taken r
      taken r q h = by (is_field field) refl
        where
          by : (t : Bool) → is_field field ≡ t → Taken r
          by true f = record { good = f; is = ap (λ (x : Run). x.value) (q ∙ good-run f); ends = ap (λ (x : Run). x.end) (q ∙ good-run f) }
          by false f = let z : r.end ≡ 17 = ap (λ (x : Run). x.end) (q ∙ bad-run f) in absurd (omega arith)

      module _ {r : Run} (t : Taken r) (few : r.end ≤ 16) where
        pub place-left : length done < 8
        place-left = omega (arith, w.room, t.ends)

        pub end-within : r.end ≤ length s
        end-within = omega (arith, t.ends, w.long, ap length front-is, length-append field (front (drop end s)), front-within s)

        -- no hyphen: the label ends here
        pub ends : eqb (get_or s r.end 0) 45 ≡ false → Found s (done ++ (r.value ∷ [])) r.end
        ends h =
            let none : front (drop end s) ≡ [] = no_more (drop end s) stops (rw (get_or-drop end s 0 0, add-zero end, ← t.ends) h) in
            let here : front (drop i s) ≡ field = front-is ∙ rw none (append-nil field) in
            let all : length (front s) ≡ r.end = omega (arith, w.long, ap length here, t.ends) in
            let good : formed (front s) ≡ true = sym w.form ∙ rw here (formed-last field of-digits t.good) in
            let some = some-formed s (omega (arith, all, t.ends)) (omega (arith, all, few)) good in
            record {
              are = rw (here, split-last 45 field (digits-free field of-digits), ← t.is) at w.numbers ∙ some;
              some = omega (arith, length-append done (r.value ∷ []));
              within = end-within;
              ends = sym all;
            }

        -- a hyphen: the next field begins behind it
        pub hyphen : eqb (get_or s r.end 0) 45 ≡ true → Scan s (done ++ (r.value ∷ [])) (r.end + 1)
        hyphen h =
            let there : r.end < length s = byte-there s r.end (eqb-true (get_or s r.end 0) 45 h) in
            let next : front (drop end s) ≡ 45 ∷ front (drop (r.end + 1) s) = rw (← t.ends, drop-cons s r.end 0 there, eqb-true (get_or s r.end 0) 45 h, add-one r.end) (hyphen-more (drop (suc r.end) s)) in
            let here : front (drop i s) ≡ field ++ (45 ∷ front (drop (r.end + 1) s)) = rw next at front-is in
            let rest = front (drop (r.end + 1) s) in
            record {
              short = w.short;
              within = omega arith;
              room = omega (arith, w.room, t.ends, length-append done (r.value ∷ []));
              long = omega (arith, w.long, ap length here, length-append field (45 ∷ rest), t.ends);
              form = sym (formed-more field of-digits t.good rest) ∙ rw here at w.form;
              numbers = append_snoc done r.value (map value (split 45 rest)) ∙ rw (here, split-piece 45 field rest (digits-free field of-digits), ← t.is) at w.numbers;
            }
