-- The marks after so many places of the delivery: the places of the cover whose sheets have come, since each sheet stands at one place of
-- it. So the mark tells whether a sheet was seen before, and in the end whether it is missing. Assumes nothing.
use mathlib.Core.Path.{◌≡◌, refl, sym, ap, ap₂, ◌∙◌, subst}
use mathlib.Core.Bool.{Bool, true, false, not, ◌||◌, or_assoc, or-false, or-true}
use mathlib.Core.List.{List, [], ◌∷◌, Memᴰ}
use Prim.Native.Nat.{ℕ, zero, suc, ◌+◌, ◌≤◌, ◌<◌}
use native.Mathlib.Nat.{zero-add, le_of_suc-le-suc}
use native.Mathlib.Numerals.{add-one}
use native.Mathlib.Omega.{arith}
use borrow.Author.Tests.{eqb-true, eqb-false, eq-eqb, ne_eqb}
use lib.Dec.{eqb}
use lib.ListN.{length, get_or, take, set, replicate, length-set, length-replicate}
use lib.Seq.{take_all, get_or-set_same, get_or-set_other}
use Rattle.refusal.specs.declared.Refusal.TheVariants.{NotOfCover, SeenBefore, Missing}
use Rattle.refusal.specs.declared.Refusal.{Refusal}
use Rattle.refusal.specs.Paper.{Paper, answer, refused, refuse◌at◌unless◌, ◌>>◌}
use Rattle.refusal.specs.Numbers.{on_paper, is_in}
use Rattle.refusal.proofs.PaperLaws.{judge-refuses, refuses-so}
use Rattle.division.specs.declared.Edges.{Edges}
use Rattle.division.specs.declared.cover.Block.{Block}
use Rattle.division.specs.Words.{◌=?◌, from}
use Rattle.division.specs.Cover.{sheets_in, coverable, block_in}
use Rattle.division.proofs.MemberLaws.{in_mem, mem-in, mem-at, mem-place}
use Rattle.division.proofs.CoverLaws.{passes, block-is}
use Rattle.delivery.specs.Delivery.{in_turn, good_place, delivered, against, check_delivery}
use Rattle.delivery.specs.Given.{sheets_of, Stands, Marked, marked_place, all_marked}
use Rattle.delivery.proofs.TurnLaws.{Turning, turning-more, turning-stops, turning-done, by-places}

-- ---- a sheet that stands in the cover, or does not

module _ {cover : List ℕ} {sheet r : ℕ} (t : Stands cover sheet r) where
  pub of-cover : r < length cover → is_in cover sheet ≡ true
  of-cover h = mem-in sheet (subst (λ (k : ℕ). Memᴰ k cover) (t.is h) (mem-at cover r h))

  pub not-of-cover : r ≡ length cover → is_in cover sheet ≡ false
  not-of-cover e = by (is_in cover sheet) refl
    where
      by : (b : Bool) → is_in cover sheet ≡ b → b ≡ false
      by true g = let p = mem-place (in_mem sheet cover g) in absurd (omega (arith, t.only p.0 p.1 p.2, p.1))
      by false g = refl

  -- the mark at its place tells whether it is one of those that were seen
  pub mark-tells : {seen : List ℕ} {marks : List Bool} → Marked cover seen marks → r < length cover → get_or marks r false ≡ is_in seen sheet
  mark-tells {seen} m h = m.each r h ∙ ap (is_in seen) (t.is h)

-- ---- one place more

in_take : (l : List ℕ) (i k : ℕ) → i < length l → is_in (take (suc i) l) k ≡ (is_in (take i l) k || k =? get_or l i 0)
in_take [] i k h = absurd (omega arith)
in_take (x ∷ l) zero k h = or-false (k =? x)
in_take (x ∷ l) (suc i) k h = ap (λ (b : Bool). k =? x || b) (in_take l i k (le_of_suc-le-suc h)) ∙ sym (or_assoc (k =? x) (is_in (take i l) k) (k =? get_or l i 0))

none-set : (n i : ℕ) → get_or (replicate n false) i false ≡ false
none-set zero i = refl
none-set (suc n) zero = refl
none-set (suc n) (suc i) = none-set n i

pub marked-none : (cover : List ℕ) (n : ℕ) → length cover ≤ n → Marked cover [] (replicate n false)
marked-none cover n h = record { room = omega (arith, length-replicate n false); each = λ i l. none-set n i }

module _ (cover sheets : List ℕ) (marks : List Bool) (i r : ℕ) (m : Marked cover (take i sheets) marks) (h : i < length sheets) (t : Stands cover (get_or sheets i 0) r) (l : r < length cover) where
  pub marked_more : Marked cover (take (i + 1) sheets) (set marks r true)
  marked_more = record {
    room = omega (arith, m.room, length-set marks r true);
    each = λ j g. rw (add-one i) (by j g (eqb j r) refl ∙ sym (in_take sheets i (get_or cover j 0) h));
  }
    where
      by : (j : ℕ) → j < length cover → (b : Bool) → eqb j r ≡ b → get_or (set marks r true) j false ≡ (is_in (take i sheets) (get_or cover j 0) || get_or cover j 0 =? get_or sheets i 0)
      by j g true e =
          let same : j ≡ r = eqb-true j r e in
          rw (same, get_or-set_same marks r true false (omega (arith, m.room)), eq-eqb (get_or cover r 0) (get_or sheets i 0) (t.is l)) (sym (or-true (is_in (take i sheets) (get_or cover r 0))))
      by j g false e =
          rw (get_or-set_other marks r j true false (eqb-false j r e), m.each j g, ne_eqb (get_or cover j 0) (get_or sheets i 0) (λ q. eqb-false j r e (t.only j g q))) (sym (or-false (is_in (take i sheets) (get_or cover j 0))))

-- ---- what is judged at a place of the delivery, by whether its sheet is of the cover and whether it was seen

module _ (cover sheets : List ℕ) (i : ℕ) where
  judged : {of-cover seen : Bool} → is_in cover (get_or sheets i 0) ≡ of-cover → is_in (take i sheets) (get_or sheets i 0) ≡ seen → good_place cover sheets i ≡ ((refuse 25 at i unless of-cover) >> (refuse 26 at i unless not seen))
  unfolding good_place
  judged e f = ap₂ (λ (of-cover seen : Bool). (refuse 25 at i unless of-cover) >> (refuse 26 at i unless not seen)) e f

  pub place-strange : is_in cover (get_or sheets i 0) ≡ false → good_place cover sheets i ≡ refused 25 i
  place-strange e = judged e refl

  pub place-seen : is_in cover (get_or sheets i 0) ≡ true → is_in (take i sheets) (get_or sheets i 0) ≡ true → good_place cover sheets i ≡ refused 26 i
  place-seen e f = judged e f

  pub place-good : is_in cover (get_or sheets i 0) ≡ true → is_in (take i sheets) (get_or sheets i 0) ≡ false → good_place cover sheets i ≡ answer tt
  place-good e f = judged e f

-- ---- the two passes

-- the delivery up to place i: no bad place so far, and its sheets are marked
pub record Marking (cover sheets : List ℕ) (marks : List Bool) (i : ℕ) : Type 0 where
  pub turns : Turning (good_place cover sheets) (length sheets) i
  pub marked : Marked cover (take i sheets) marks

module _ {cover sheets : List ℕ} {marks : List Bool} {i r : ℕ} (k : Marking cover sheets marks i) (h : i < length sheets) (t : Stands cover (get_or sheets i 0) r) where
  pub strange-here : r ≡ length cover → refused 25 i ≡ in_turn (good_place cover sheets) (from 0 (length sheets))
  strange-here e = turning-stops (good_place cover sheets) k.turns h (NotOfCover i) (place-strange cover sheets i (not-of-cover t e))

  module _ (l : r < length cover) where
    pub seen_here : get_or marks r false ≡ true → refused 26 i ≡ in_turn (good_place cover sheets) (from 0 (length sheets))
    seen_here e = turning-stops (good_place cover sheets) k.turns h (SeenBefore i) (place-seen cover sheets i (of-cover t l) (sym (mark-tells t k.marked l) ∙ e))

    pub marking-more : get_or marks r false ≡ false → Marking cover sheets (set marks r true) (i + 1)
    marking-more e = record {
      turns = turning-more (good_place cover sheets) k.turns h (place-good cover sheets i (of-cover t l) (sym (mark-tells t k.marked l) ∙ e));
      marked = marked_more cover sheets marks i r k.marked h t l;
    }

pub marking-done : {cover sheets : List ℕ} {marks : List Bool} {i : ℕ} → Marking cover sheets marks i → length sheets ≤ i → (answer tt ≡ in_turn (good_place cover sheets) (from 0 (length sheets))) × Marked cover sheets marks
marking-done {cover} {sheets} {marks} {i} k h =
    (turning-done (good_place cover sheets) k.turns h, subst (λ (l : List ℕ). Marked cover l marks) (take_all i sheets h) k.marked)

-- the cover up to a place: all are marked so far
module _ (cover : List ℕ) (marks : List Bool) {n i : ℕ} (t : Turning (marked_place cover marks) n i) where
  pub first-missing : i < n → get_or marks i false ≡ false → {sheet : ℕ} → sheet ≡ get_or cover i 0 → refused 27 sheet ≡ all_marked cover marks n
  unfolding all_marked
  first-missing h e {sheet} f =
      let here : marked_place cover marks i ≡ refused 27 sheet = rw (e, f) in
      rw (← turning-stops (marked_place cover marks) t h (Missing sheet) here)

  pub all_there : n ≤ i → {count : ℕ} → count ≡ n → answer count ≡ all_marked cover marks n
  unfolding all_marked
  all_there h e = rw (← turning-done (marked_place cover marks) t h, e)

-- ---- both together

module _ (cover sheets : List ℕ) where
  pub bad-place : (why : Refusal) → on_paper why ≡ in_turn (good_place cover sheets) (from 0 (length sheets)) → on_paper why ≡ against cover sheets
  unfolding against
  bad-place why e = sym (judge-refuses why _ (sym e))

  -- the marks tell what is missing: the sheet of a place that has none
  pub no-bad-place : (marks : List Bool) {n : ℕ} → answer tt ≡ in_turn (good_place cover sheets) (from 0 (length sheets)) → Marked cover sheets marks → length cover ≡ n → all_marked cover marks n ≡ against cover sheets
  unfolding against all_marked
  no-bad-place marks e m f =
      rw (← e, ← f) (ap (λ (p : Paper Unit). p >> answer (length cover)) (by-places (delivered sheets) (marked_place cover marks) 0 cover (λ i h. rw (zero-add i, m.each i h))))

-- what is refused of the rows and columns is refused, and else their sheets are the cover
pub cover-refused : (s : ℕ) (w : Edges) (sheets : List ℕ) (why : Refusal) → block_in s w ≡ on_paper why → check_delivery s w sheets ≡ on_paper why
unfolding block_in check_delivery
cover-refused s w sheets why e = refuses-so (coverable s w) _ (against (sheets_in s w) sheets) why e

pub cover-set-against : (s : ℕ) (w : Edges) (sheets : List ℕ) (b : Block) → block_in s w ≡ answer b → check_delivery s w sheets ≡ against (sheets_of s b) sheets
unfolding check_delivery
cover-set-against s w sheets b e = rw (passes s w b e) (ap (λ (l : List ℕ). against l sheets) (sym (block-is s w b e)))
