-- What is accepted of a delivery and what is refused, in document 02's words: the first refusal among the places decides, and then the first
-- among the sheets of the cover. Assumes nothing.
use mathlib.Core.Path.{◌≡◌, refl, sym, ap, ◌∙◌, subst}
use mathlib.Core.Bool.{Bool, true, false, not}
use mathlib.Core.Logic.{◌↔◌, ◌⊎◌, inl, inr, ⊎_elim}
use mathlib.Core.List.{List, Memᴰ}
use Prim.Native.Nat.{ℕ, ◌≤◌, ◌<◌}
use native.Mathlib.Omega.{arith}
use borrow.Author.Tests.{not-true}
use lib.ListN.{length, get_or, take}
use lib.Seq.{get_or-take, length-take-le}
use Rattle.refusal.specs.Paper.{Paper, answer, refused, refuse◌at◌unless◌, ◌>>◌}
use Rattle.refusal.specs.Numbers.{is_in}
use Rattle.refusal.proofs.PaperLaws.{same_answer, differs, same_number, same-value, passed-at, passed-judge, passed-test-at, laid-answered}
use Rattle.division.specs.declared.Edges.{Edges}
use Rattle.division.specs.Words.{from}
use Rattle.division.specs.Cover.{sheets_in, coverable, cover}
use Rattle.division.proofs.RangeLaws.{length_from, get_or-from}
use Rattle.division.proofs.MemberLaws.{in_mem, mem-in, mem-at, mem-place}
use Rattle.division.proofs.CoverLaws.{is-coverable}
use Rattle.division.proofs.CoverTheorems.{once}
use Rattle.delivery.specs.Delivery.{good_place, delivered, in_turn, against, check_delivery}
use Rattle.delivery.specs.Theorems.{occurs, EachOnce, GoodBefore, NotOfCover, SeenBefore, FirstMissing}
use Rattle.delivery.proofs.TurnLaws.{all_pass, pass_all, FirstRefused, refused-first, first-refused}
use Rattle.delivery.proofs.PlaceLaws.{clash}
use Rattle.delivery.proofs.MarkLaws.{place-strange, place-seen, place-good}
use Rattle.delivery.proofs.OccurLaws.{Apart, nodup-apart, mem-occurs, occurs-mem, none-occurs, twice, at-most-once}

-- ---- membership, as a test and in words

not_in : (k : ℕ) (l : List ℕ) → (Memᴰ k l → ⊥) → is_in l k ≡ false
not_in k l h = by (is_in l k) refl
  where
    by : (b : Bool) → is_in l k ≡ b → b ≡ false
    by true e = absurd (h (in_mem k l e))
    by false e = refl

in-not : (k : ℕ) (l : List ℕ) → is_in l k ≡ false → Memᴰ k l → ⊥
in-not k l e m = clash (mem-in k m) e

-- in front of a place, as a test and in words
earlier-in : (l : List ℕ) {i j : ℕ} → j < i → i ≤ length l → is_in (take i l) (get_or l j 0) ≡ true
earlier-in l {i} {j} h g = mem-in (get_or l j 0) (subst (λ (k : ℕ). Memᴰ k (take i l)) (get_or-take i l j 0 h) (mem-at (take i l) j (omega (arith, length-take-le i l g))))

in-earlier : (l : List ℕ) {i k : ℕ} → i ≤ length l → is_in (take i l) k ≡ true → (j : ℕ) × (j < i) × (get_or l j 0 ≡ k)
in-earlier l {i} {k} g e =
    let p = mem-place (in_mem k (take i l) e) in
    let h : p.0 < i = omega (arith, p.1, length-take-le i l g) in
    (p.0, h, sym (get_or-take i l p.0 0 h) ∙ p.2)

-- ---- a place of the delivery

-- what is refused at a place: 25 or 26, with the place
data Refusing (cover sheets : List ℕ) (i number value : ℕ) : Type 0 where
  strange : number ≡ 25 → value ≡ i → is_in cover (get_or sheets i 0) ≡ false → Refusing cover sheets i number value
  seen : number ≡ 26 → value ≡ i → is_in cover (get_or sheets i 0) ≡ true → is_in (take i sheets) (get_or sheets i 0) ≡ true → Refusing cover sheets i number value

module _ (cover sheets : List ℕ) (i : ℕ) where
  place-passes : good_place cover sheets i ≡ answer tt → (is_in cover (get_or sheets i 0) ≡ true) × (is_in (take i sheets) (get_or sheets i 0) ≡ false)
  unfolding good_place
  place-passes e =
      let p = passed-at 25 i (is_in cover (get_or sheets i 0)) _ e in
      (p.0, not-true (is_in (take i sheets) (get_or sheets i 0)) (passed-test-at 26 i _ p.1))

  place-refused : (number value : ℕ) → good_place cover sheets i ≡ refused number value → Refusing cover sheets i number value
  unfolding good_place
  place-refused number value e = by (is_in cover (get_or sheets i 0)) refl (is_in (take i sheets) (get_or sheets i 0)) refl e
    where
      by : (b : Bool) → is_in cover (get_or sheets i 0) ≡ b → (d : Bool) → is_in (take i sheets) (get_or sheets i 0) ≡ d
          → ((refuse 25 at i unless b) >> (refuse 26 at i unless not d)) ≡ refused number value → Refusing cover sheets i number value
      by false f d g e = strange (same_number (sym e)) (same-value (sym e)) f
      by true f true g e = seen (same_number (sym e)) (same-value (sym e)) f g
      by true f false g e = absurd (differs e)

-- no bad place up to here, by the tests and in words
module _ (cover sheets : List ℕ) (n : ℕ) (inside : n ≤ length sheets) where
  tests-good : ((i : ℕ) → i < n → good_place cover sheets i ≡ answer tt) → GoodBefore cover sheets n
  tests-good fine = record {
    of-cover = λ i h. in_mem (get_or sheets i 0) cover (place-passes cover sheets i (fine i h)).0;
    once = λ i j h g e. clash (earlier-in sheets h (omega arith)) (ap (is_in (take j sheets)) e ∙ (place-passes cover sheets j (fine j g)).1);
  }

  good-tests : GoodBefore cover sheets n → (i : ℕ) → i < n → good_place cover sheets i ≡ answer tt
  good-tests good i h =
      place-good cover sheets i (mem-in (get_or sheets i 0) (good.of-cover i h)) (by (is_in (take i sheets) (get_or sheets i 0)) refl)
    where
      by : (b : Bool) → is_in (take i sheets) (get_or sheets i 0) ≡ b → b ≡ false
      by true e = let p = in-earlier sheets {i = i} (omega arith) e in absurd (good.once p.0 i p.1 h p.2)
      by false e = refl

-- ---- all places

module _ (cover sheets : List ℕ) where
  place_is : (i : ℕ) → i < length sheets → get_or (from 0 (length sheets)) i 0 ≡ i
  place_is i h = get_or-from 0 (length sheets) i h ∙ omega arith

  passes-good : in_turn (good_place cover sheets) (from 0 (length sheets)) ≡ answer tt → GoodBefore cover sheets (length sheets)
  passes-good e =
      tests-good cover sheets (length sheets) (omega arith)
      (λ i h. rw (place_is i h) at (pass_all (good_place cover sheets) (from 0 (length sheets)) e i (omega (arith, length_from 0 (length sheets)))))

  good-passes : GoodBefore cover sheets (length sheets) → in_turn (good_place cover sheets) (from 0 (length sheets)) ≡ answer tt
  good-passes good =
      all_pass (good_place cover sheets) (from 0 (length sheets)) (λ i h. fine i (omega (arith, length_from 0 (length sheets))))
    where
      fine : (i : ℕ) → i < length sheets → good_place cover sheets (get_or (from 0 (length sheets)) i 0) ≡ answer tt
      fine i l = rw (place_is i l) (good-tests cover sheets (length sheets) (omega arith) good i l)

  -- the first bad place
  record FirstBad (number value : ℕ) : Type 0 where
    place : ℕ
    inside : place < length sheets
    first : GoodBefore cover sheets place
    bad : good_place cover sheets place ≡ refused number value

  refused-bad : (number value : ℕ) → in_turn (good_place cover sheets) (from 0 (length sheets)) ≡ refused number value → FirstBad number value
  refused-bad number value e =
      let f = refused-first (good_place cover sheets) number value (from 0 (length sheets)) e in
      let l : f.place < length sheets = omega (arith, f.inside, length_from 0 (length sheets)) in
      record {
        place = f.place;
        inside = l;
        first = tests-good cover sheets f.place (omega arith) (λ i h. rw (place_is i (omega arith)) at (f.front i h));
        bad = rw (place_is f.place l) at f.stops;
      }

  bad-refused : (number value : ℕ) → FirstBad number value → in_turn (good_place cover sheets) (from 0 (length sheets)) ≡ refused number value
  bad-refused number value b =
      let l = b.inside in
      first-refused (good_place cover sheets) number value (from 0 (length sheets)) (record {
        place = b.place;
        inside = omega (arith, length_from 0 (length sheets));
        front = λ i h. rw (place_is i (omega arith)) (good-tests cover sheets b.place (omega arith) b.first i h);
        stops = rw (place_is b.place l) b.bad;
      })

  -- ---- and all sheets of the cover

  sheet-refused : (sheet number value : ℕ) → delivered sheets sheet ≡ refused number value → (number ≡ 27) × (value ≡ sheet) × (is_in sheets sheet ≡ false)
  sheet-refused sheet number value e = by (is_in sheets sheet) refl e
    where
      by : (b : Bool) → is_in sheets sheet ≡ b → (refuse 27 at sheet unless b) ≡ refused number value → (number ≡ 27) × (value ≡ sheet) × (is_in sheets sheet ≡ false)
      by true f e = absurd (differs e)
      by false f e = (same_number (sym e), same-value (sym e), f)

  -- what is refused is refused of a place, or of a sheet where no place is bad
  against-refused : (number value : ℕ) → against cover sheets ≡ refused number value
      → FirstBad number value ⊎ (GoodBefore cover sheets (length sheets) × FirstRefused (delivered sheets) cover number value)
  unfolding against
  against-refused number value e = by (in_turn (good_place cover sheets) (from 0 (length sheets))) refl (in_turn (delivered sheets) cover) refl e
    where
      by : (p : Paper Unit) → in_turn (good_place cover sheets) (from 0 (length sheets)) ≡ p → (q : Paper Unit) → in_turn (delivered sheets) cover ≡ q → (p >> (q >> answer (length cover))) ≡ refused number value
          → FirstBad number value ⊎ (GoodBefore cover sheets (length sheets) × FirstRefused (delivered sheets) cover number value)
      by (refused n v) f q g e = inl (refused-bad number value (f ∙ rw (same_number e, same-value e)))
      by (answer fine) f (refused n v) g e = inr (passes-good f, refused-first (delivered sheets) number value cover (g ∙ rw (same_number e, same-value e)))
      by (answer fine) f (answer whole) g e = absurd (differs e)

  bad-against : (number value : ℕ) → FirstBad number value → against cover sheets ≡ refused number value
  unfolding against
  bad-against number value b = rw (bad-refused number value b)

  missing-against : (number value : ℕ) → GoodBefore cover sheets (length sheets) → FirstRefused (delivered sheets) cover number value → against cover sheets ≡ refused number value
  unfolding against
  missing-against number value good f = rw (good-passes good, first-refused (delivered sheets) number value cover f)

  -- ---- the three refusals

  strange-iff : (place : ℕ) → (against cover sheets ≡ refused 25 place) ↔ NotOfCover cover sheets place
  strange-iff place = (λ e. ⊎_elim told (λ m. absurd (other m.1)) (against-refused 25 place e), given)
    where
      told : FirstBad 25 place → NotOfCover cover sheets place
      told b = by (place-refused cover sheets b.place 25 place b.bad)
        where
          by : Refusing cover sheets b.place 25 place → NotOfCover cover sheets place
          by (strange n v out) = rw v (record { inside = b.inside; first = b.first; strange = in-not (get_or sheets b.place 0) cover out })
          by (seen n v in' again) = absurd (omega (arith, n))

      other : FirstRefused (delivered sheets) cover 25 place → ⊥
      other f = let r = sheet-refused (get_or cover f.place 0) 25 place f.stops in omega (arith, r.0)

      given : NotOfCover cover sheets place → against cover sheets ≡ refused 25 place
      given n = bad-against 25 place (record { place = place; inside = n.inside; first = n.first; bad = place-strange cover sheets place (not_in (get_or sheets place 0) cover n.strange) })

  seen-iff : (place : ℕ) → (against cover sheets ≡ refused 26 place) ↔ SeenBefore cover sheets place
  seen-iff place = (λ e. ⊎_elim told (λ m. absurd (other m.1)) (against-refused 26 place e), given)
    where
      told : FirstBad 26 place → SeenBefore cover sheets place
      told b = by (place-refused cover sheets b.place 26 place b.bad)
        where
          by : Refusing cover sheets b.place 26 place → SeenBefore cover sheets place
          by (strange n v out) = absurd (omega (arith, n))
          by (seen n v in' again) =
              let p = in-earlier sheets {i = b.place} (omega (arith, b.inside)) again in
              rw v (record { inside = b.inside; first = b.first; earlier = p.0; before = p.1; same = p.2 })

      other : FirstRefused (delivered sheets) cover 26 place → ⊥
      other f = let r = sheet-refused (get_or cover f.place 0) 26 place f.stops in omega (arith, r.0)

      given : SeenBefore cover sheets place → against cover sheets ≡ refused 26 place
      given n =
          let m : is_in cover (get_or sheets place 0) ≡ true = mem-in (get_or sheets place 0) (subst (λ (k : ℕ). Memᴰ k cover) n.same (n.first.of-cover n.earlier n.before)) in
          let l : place ≤ length sheets = omega (arith, n.inside) in
          bad-against 26 place (record { place = place; inside = n.inside; first = n.first; bad = place-seen cover sheets place m (ap (is_in (take place sheets)) (sym n.same) ∙ earlier-in sheets n.before l) })

  missing-iff : (sheet : ℕ) → (against cover sheets ≡ refused 27 sheet) ↔ FirstMissing cover sheets sheet
  missing-iff sheet = (λ e. ⊎_elim (λ b. absurd (other b)) (λ m. told m.0 m.1) (against-refused 27 sheet e), given)
    where
      other : FirstBad 27 sheet → ⊥
      other b = by (place-refused cover sheets b.place 27 sheet b.bad)
        where
          by : Refusing cover sheets b.place 27 sheet → ⊥
          by (strange n v out) = omega (arith, n)
          by (seen n v in' again) = omega (arith, n)

      told : GoodBefore cover sheets (length sheets) → FirstRefused (delivered sheets) cover 27 sheet → FirstMissing cover sheets sheet
      told good f =
          let r = sheet-refused (get_or cover f.place 0) 27 sheet f.stops in
          record {
            good = good;
            place = f.place;
            inside = f.inside;
            is = sym r.1;
            missing = rw r.1 (in-not (get_or cover f.place 0) sheets r.2);
            first = λ i h. in_mem (get_or cover i 0) sheets (passed-test-at 27 (get_or cover i 0) (is_in sheets (get_or cover i 0)) (f.front i h));
          }

      given : FirstMissing cover sheets sheet → against cover sheets ≡ refused 27 sheet
      given m =
          missing-against 27 sheet m.good (record {
            place = m.place;
            inside = m.inside;
            front = λ i h. rw (mem-in (get_or cover i 0) (m.first i h));
            stops = rw (m.is, not_in sheet sheets m.missing);
          })

  -- ---- what is accepted

  accepted-good : {n : ℕ} → against cover sheets ≡ answer n → GoodBefore cover sheets (length sheets) × ((k : ℕ) → Memᴰ k cover → Memᴰ k sheets)
  unfolding against
  accepted-good e =
      let a = passed-judge (in_turn (good_place cover sheets) (from 0 (length sheets))) _ e in
      let b = passed-judge (in_turn (delivered sheets) cover) _ a.1 in
      (passes-good a.0, λ k m. let p = mem-place m in subst (λ (k : ℕ). Memᴰ k sheets) p.2 (in_mem (get_or cover p.0 0) sheets (passed-test-at 27 (get_or cover p.0 0) (is_in sheets (get_or cover p.0 0)) (pass_all (delivered sheets) cover b.0 p.0 p.1))))

  good-accepted : GoodBefore cover sheets (length sheets) → ((k : ℕ) → Memᴰ k cover → Memᴰ k sheets) → against cover sheets ≡ answer (length cover)
  unfolding against
  good-accepted good all = rw (good-passes good, all_pass (delivered sheets) cover (λ i h. rw (mem-in (get_or cover i 0) (all (get_or cover i 0) (mem-at cover i h)))))

  accepted-once : {n : ℕ} → against cover sheets ≡ answer n → EachOnce cover sheets
  accepted-once e =
      let a = accepted-good e in
      record {
        each = λ k m. omega (arith, mem-occurs k (a.1 k m), at-most-once k sheets a.0.once);
        nothing-else = λ k out. none-occurs k sheets (λ m. let p = mem-place m in out (subst (λ (k : ℕ). Memᴰ k cover) p.2 (a.0.of-cover p.0 p.1)));
      }

  once-accepted : EachOnce cover sheets → against cover sheets ≡ answer (length cover)
  once-accepted o =
      good-accepted
      (record {
        of-cover = λ i h. by (get_or sheets i 0) (mem-at sheets i h) (is_in cover (get_or sheets i 0)) refl;
        once = λ i j h g e. by_two (get_or sheets j 0) (is_in cover (get_or sheets j 0)) refl (twice (get_or sheets j 0) sheets i j h g e refl);
      })
      (λ k m. occurs-mem k sheets (omega (arith, o.each k m)))
    where
      by : (k : ℕ) → Memᴰ k sheets → (b : Bool) → is_in cover k ≡ b → Memᴰ k cover
      by k m true e = in_mem k cover e
      by k m false e = absurd (omega (arith, mem-occurs k m, o.nothing-else k (in-not k cover e)))

      by_two : (k : ℕ) (b : Bool) → is_in cover k ≡ b → 2 ≤ occurs k sheets → ⊥
      by_two k true e h = omega (arith, o.each k (in_mem k cover e))
      by_two k false e h = omega (arith, o.nothing-else k (in-not k cover e))

  -- where the cover has each sheet once, that is to say as often as in the cover
  module _ (apart : Apart cover) where
    cover-once : (k : ℕ) → Memᴰ k cover → occurs k cover ≡ 1
    cover-once k m = omega (arith, mem-occurs k m, at-most-once k cover apart)

    once-often : EachOnce cover sheets → (k : ℕ) → occurs k sheets ≡ occurs k cover
    once-often o k = by (is_in cover k) refl
      where
        by : (b : Bool) → is_in cover k ≡ b → occurs k sheets ≡ occurs k cover
        by true e = o.each k (in_mem k cover e) ∙ sym (cover-once k (in_mem k cover e))
        by false e = o.nothing-else k (in-not k cover e) ∙ sym (none-occurs k cover (in-not k cover e))

    often-once : ((k : ℕ) → occurs k sheets ≡ occurs k cover) → EachOnce cover sheets
    often-once same = record { each = λ k m. same k ∙ cover-once k m; nothing-else = λ k out. same k ∙ none-occurs k cover out }

-- ---- of a window

-- "cover's 2, 7, 8, 9 first", whatever is delivered
pub cover-first : (s : ℕ) (w : Edges) (sheets : List ℕ) (number value : ℕ) → coverable s w ≡ refused number value → check_delivery s w sheets ≡ refused number value
unfolding check_delivery
cover-first s w sheets number value e = rw e

module _ (s : ℕ) (w : Edges) (sheets : List ℕ) (c : coverable s w ≡ answer tt) where
  set-against : check_delivery s w sheets ≡ against (sheets_in s w) sheets
  unfolding check_delivery
  set-against = rw c

  -- "Accept exactly when each sheet of the cover occurs once and nothing else does"
  pub accepted-iff : (check_delivery s w sheets ≡ answer (length (sheets_in s w))) ↔ EachOnce (sheets_in s w) sheets
  accepted-iff = (λ e. accepted-once (sheets_in s w) sheets (sym set-against ∙ e), λ o. set-against ∙ once-accepted (sheets_in s w) sheets o)

  -- that is, if every number occurs in the delivery as often as in the cover
  pub as-often-iff : (check_delivery s w sheets ≡ answer (length (sheets_in s w))) ↔ ((k : ℕ) → occurs k sheets ≡ occurs k (sheets_in s w))
  as-often-iff =
      let apart = nodup-apart (once (is-coverable c).seen) in
      (λ e. once-often (sheets_in s w) sheets apart (accepted-iff.0 e), λ same. accepted-iff.1 (often-once (sheets_in s w) sheets apart same))

  -- and nothing else is told of what is accepted
  pub accepted-count : {n : ℕ} → check_delivery s w sheets ≡ answer n → n ≡ length (sheets_in s w)
  accepted-count e = same_answer (sym e ∙ accepted-iff.1 (accepted-once (sheets_in s w) sheets (sym set-against ∙ e)))

  -- "25 a sheet not of the cover and 26 a sheet seen before, whichever place comes first; then 27 a sheet missing"
  pub not-of-cover-iff : (place : ℕ) → (check_delivery s w sheets ≡ refused 25 place) ↔ NotOfCover (sheets_in s w) sheets place
  not-of-cover-iff place = rw set-against (strange-iff (sheets_in s w) sheets place)

  pub seen-before-iff : (place : ℕ) → (check_delivery s w sheets ≡ refused 26 place) ↔ SeenBefore (sheets_in s w) sheets place
  seen-before-iff place = rw set-against (seen-iff (sheets_in s w) sheets place)

  pub first-missing-iff : (sheet : ℕ) → (check_delivery s w sheets ≡ refused 27 sheet) ↔ FirstMissing (sheets_in s w) sheets sheet
  first-missing-iff sheet = rw set-against (missing-iff (sheets_in s w) sheets sheet)

-- so the cover itself is accepted
pub cover-accepted : (s : ℕ) (w : Edges) (room : ℕ) (sheets : List ℕ) → cover s w room ≡ answer sheets → check_delivery s w sheets ≡ answer (length sheets)
unfolding cover
cover-accepted s w room sheets e =
    let c = passed-judge (coverable s w) _ e in
    let same = (laid-answered (sheets_in s w) room c.1).0 in
    rw (← same) ((as-often-iff s w (sheets_in s w) c.0).1 (λ k. refl))
