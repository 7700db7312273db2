-- A list is read entry by entry: what was placed and what is left to read make the whole. Assumes nothing.
use mathlib.Core.Path.{◌≡◌, refl, sym, ap, ap₂, ◌∙◌, subst}
use mathlib.Core.Bool.{true, false}
use mathlib.Core.List.{List, [], ◌∷◌, map}
use Prim.Native.Nat.{ℕ, zero, suc, ◌+◌, ◌-◌, ◌*◌, ◌^◌, ◌≤◌, ◌<◌}
use native.Mathlib.Nat.{zero-add, add-zero, one-mul}
use native.Mathlib.Numerals.{add-one, sub-one}
use native.Mathlib.Omega.{arith}
use borrow.Author.Tests.{le-leb, lt-leb}
use lib.ListN.{length, set, length-set}
use lib.Seq.{sets, sets-eq}
use Rattle.std.specs.Prelude.{Result, Ok, Err}
use Rattle.refusal.specs.Paper.{Paper, answer, refused}
use Rattle.refusal.specs.Numbers.{on_paper, paper}
use Rattle.refusal.specs.declared.Refusal.{Refusal}
use Rattle.refusal.specs.declared.Refusal.TheVariants.{MoreBytes}
use Rattle.refusal.proofs.PaperLaws.{on-paper, differs}
use denote.Ref.{Bor}
use Rattle.shelf.specs.declared.Read.{Read}
use Rattle.division.specs.Words.{◌=?◌}
use Rattle.shelf.specs.Number.{Number, read_number}
use Rattle.shelf.specs.Kind.{Kind, of_sheets, of_holdings}
use Rattle.shelf.specs.Reading.{Reading, stop, place_then, ◌then_read◌, entries_in, behind_in, read_in, kind_told, each_as, read_holdings, room_after_read, IsRead}
use Rattle.shelf.specs.Given.{IsEntry}
use Rattle.shelf.proofs.KindLaws.{Works, told-old, told-new}

-- a refusal stops the reading
refused-read : {A : Type 0} {p : Paper A} (why : Refusal) (next : A → Reading) → p ≡ on_paper why → (p then_read next) ≡ stop (on_paper why)
refused-read {A} why next e = rw (e, (on-paper why).is A, (on-paper why).is Unit)

-- a reading that ends well went on
pub record Went {A : Type 0} (p : Paper A) (next : A → Reading) : Type 0 where
  pub got : A
  pub is : p ≡ answer got
  pub on : (p then_read next) ≡ next got

pub went_on : {A : Type 0} (p : Paper A) (next : A → Reading) → (p then_read next).ended ≡ answer tt → Went p next
went_on (answer a) next e = record { got = a; is = refl; on = refl }
went_on (refused n v) next e = absurd (differs (sym e))

-- ---- entries from a place on

module _ (kind : Kind) (bytes : List ℕ) (least : ℕ) where
  pub entries_over : (k : ℕ) → k ≡ 0 → (length bytes =? 0) ≡ false → entries_in kind k least bytes ≡ stop (refused 14 0)
  unfolding entries_in
  entries_over k z h = rw (z, h)

  pub entries-whole : (k : ℕ) → k ≡ 0 → (length bytes =? 0) ≡ true → entries_in kind k least bytes ≡ stop (answer tt)
  unfolding entries_in
  entries-whole k z h = rw (z, h)

  pub entries-refused : (k : ℕ) (why : Refusal) → 0 < k → read_number bytes ≡ on_paper why → entries_in kind k least bytes ≡ stop (on_paper why)
  unfolding entries_in
  entries-refused zero why p e = absurd (omega arith)
  entries-refused (suc k) why p e = refused-read why _ e

  module _ (v : ℕ) (rest : List ℕ) (e : read_number bytes ≡ answer (record { value = v; rest = rest })) where
    pub entries-judged : (k : ℕ) (why : Refusal) → 0 < k → kind.judge 13 (least + v) ≡ on_paper why → entries_in kind k least bytes ≡ stop (on_paper why)
    unfolding entries_in
    entries-judged zero why p f = absurd (omega arith)
    entries-judged (suc k) why p f = rw e (refused-read why _ f)

    pub entries-place : (k : ℕ) → 0 < k → kind.judge 13 (least + v) ≡ answer tt → entries_in kind k least bytes ≡ place_then (least + v) (entries_in kind (k - 1) (least + v + 1) rest)
    unfolding entries_in
    entries-place zero p f = absurd (omega arith)
    entries-place (suc k) p f = rw (e, f, sub-one (suc k))

-- one entry: its gap is read, and its number judged
module _ (kind : Kind) (bytes : List ℕ) (least : ℕ) where
  pub entry_unread : (why : Refusal) → on_paper why ≡ read_number bytes → IsEntry kind bytes least (Err why)
  entry_unread why e = λ k p. entries-refused kind bytes least k why p (sym e)

  module _ (gap : ℕ) (behind : Bor (List ℕ)) (e : answer (record { value = gap; rest = behind.now }) ≡ read_number bytes) where
    pub entry-judged : (why : Refusal) → kind.judge 13 (least + gap) ≡ on_paper why → IsEntry kind bytes least (Err why)
    entry-judged why f = λ k p. entries-judged kind bytes least gap behind.now (sym e) k why p f

    pub entry-placed : Works kind → kind.judge 13 (least + gap) ≡ answer tt → IsEntry kind bytes least (Ok (least + gap, behind))
    entry-placed w f = (λ k p. entries-place kind bytes least gap behind.now (sym e) k p f, w.fine-small 13 (least + gap) f)

-- ---- the first number, and the count that it tells

module _ (kind : Kind) (bytes : List ℕ) (room : ℕ) where
  pub first-refused : (why : Refusal) → read_number bytes ≡ on_paper why → read_in kind bytes room ≡ stop (on_paper why)
  unfolding read_in
  first-refused why e = refused-read why _ e

  pub first_read : (first : Number) → read_number bytes ≡ answer first → read_in kind bytes room ≡ behind_in kind first room
  unfolding read_in
  first_read first e = rw e

module _ (kind : Kind) (v : ℕ) (rest : List ℕ) (room : ℕ) where
  pub count-refused : (why : Refusal) → kind.count v ≡ on_paper why → behind_in kind (record { value = v; rest = rest }) room ≡ stop (on_paper why)
  unfolding behind_in
  count-refused why f = refused-read why _ f

  module _ (count : ℕ) (f : kind.count v ≡ answer count) where
    pub count_room : room < count → behind_in kind (record { value = v; rest = rest }) room ≡ stop (refused 10 count)
    unfolding behind_in
    count_room l = rw (f, lt-leb count room l)

    pub count-read : count ≤ room → behind_in kind (record { value = v; rest = rest }) room ≡ entries_in kind count 0 rest
    unfolding behind_in
    count-read l = rw (f, le-leb count room l)

-- ---- the first number, and the kind that it tells

module _ (bytes : List ℕ) (room : ℕ) where
  pub told-refused : (why : Refusal) → read_number bytes ≡ on_paper why → read_holdings bytes room ≡ stop (on_paper why)
  unfolding read_holdings
  told-refused why e = refused-read why _ e

  -- the new reader is that of the kind, with each number as the holding that it stands for
  pub told-read : (kind : Kind) (first : Number) → read_number bytes ≡ answer first → kind_told first.value ≡ kind → read_holdings bytes room ≡ each_as kind.holds (behind_in kind first room)
  unfolding read_holdings
  told-read kind first e f = rw (e, f)

-- numbers that are placed as themselves, or alike
map-alike : (f g : ℕ → ℕ) → ((x : ℕ) → f x ≡ g x) → (xs : List ℕ) → map f xs ≡ map g xs
map-alike f g same [] = refl
map-alike f g same (x ∷ xs) = ap₂ (λ y ys. y ∷ ys) (same x) (map-alike f g same xs)

pub map-self : (xs : List ℕ) → map (λ n. n) xs ≡ xs
map-self [] = refl
map-self (x ∷ xs) = ap (λ (ys : List ℕ). x ∷ ys) (map-self xs)

each-alike : (f g : ℕ → ℕ) → ((x : ℕ) → f x ≡ g x) → (reading : Reading) → each_as f reading ≡ each_as g reading
each-alike f g same reading = ap (λ (placed : List ℕ). record { ended = reading.ended; placed = placed }) (map-alike f g same reading.placed)

each-self : (reading : Reading) → each_as (λ n. n) reading ≡ reading
each-self reading = ap (λ (placed : List ℕ). record { ended = reading.ended; placed = placed }) (map-self reading.placed)

pub each-once : (reading : Reading) → each_as (λ n. 1 * n) reading ≡ reading
each-once reading = each-alike (λ n. 1 * n) (λ n. n) one-mul reading ∙ each-self reading

module _ (bytes : List ℕ) (room v : ℕ) (rest : List ℕ) (e : read_number bytes ≡ answer (record { value = v; rest = rest })) where
  -- three times a sheet is the holding without a product, and once a holding is itself
  pub old-thrice : v < 8_192 → each_as (λ n. 3 * n) (behind_in of_sheets (record { value = v; rest = rest }) room) ≡ read_holdings bytes room
  old-thrice l = each-alike (λ n. 3 * n) of_sheets.holds (λ n. sym (add-zero (3 * n))) (behind_in of_sheets (record { value = v; rest = rest }) room) ∙ sym (told-read bytes room of_sheets _ e (told-old v l))

  pub new-once : 8_192 ≤ v → each_as (λ n. 1 * n) (behind_in of_holdings (record { value = v; rest = rest }) room) ≡ read_holdings bytes room
  new-once l = each-alike (λ n. 1 * n) of_holdings.holds one-mul (behind_in of_holdings (record { value = v; rest = rest }) room) ∙ sym (told-read bytes room of_holdings _ e (told-new v l))

-- ---- what the reader owes

abbrev pub Reads : Reading → List ℕ → List ℕ → Read → Type 0
Reads reading old new r = IsRead reading r × (new ≡ room_after_read reading old)

-- nothing placed
pub reads_none : {reading : Reading} {ended : Paper Unit} {r : Read} (old : List ℕ) (e : Result Unit Refusal) → r ≡ record { ended = e; placed = 0 } → reading ≡ stop ended → paper e ≡ ended → Reads reading old old r
reads_none old e q h f = rw (q, h) (record { ended = f; placed = refl }, refl)

-- what is the same reading
pub reads_as : {a b : Reading} {new : List ℕ} {r : Read} (old : List ℕ) → a ≡ b → Reads a old new r → Reads b old new r
reads_as {new = new} {r = r} old e p = subst (λ (reading : Reading). Reads reading old new r) e p

-- a reading under way: i numbers are placed, and `later` is what is left to read
pub record Placing (reading : Reading) (old : List ℕ) (i : ℕ) (new : List ℕ) (later : Reading) : Type 0 where
  pub ended : reading.ended ≡ later.ended
  pub count : length reading.placed ≡ i + length later.placed
  pub same : length new ≡ length old
  pub room : sets old 0 reading.placed ≡ sets new i later.placed

module _ {reading : Reading} {old : List ℕ} {i : ℕ} {new : List ℕ} {later : Reading} (p : Placing reading old i new later) where
  placing-next : (x : ℕ) (then : Reading) → later ≡ place_then x then → Placing reading old (i + 1) (set new i x) then
  placing-next x then e = record {
    ended = p.ended ∙ ap (λ (l : Reading). l.ended) e;
    count = omega (arith, p.count, ap (λ (l : Reading). length l.placed) e);
    same = length-set new i x ∙ p.same;
    room = p.room ∙ ap (λ (l : Reading). sets new i l.placed) e ∙ rw (add-one i);
  }

  placing-done : {r : Read} (e : Result Unit Refusal) (ended : Paper Unit) → r ≡ record { ended = e; placed = i } → later ≡ stop ended → paper e ≡ ended → i ≤ length old → Reads reading old new r
  placing-done e ended q h f l =
      let n : length reading.placed ≡ i = omega (arith, p.count, ap (λ (r : Reading). length r.placed) h) in
      rw q (
        record { ended = f ∙ sym (p.ended ∙ ap (λ (r : Reading). r.ended) h); placed = sym n },
        sym (p.room ∙ ap (λ (r : Reading). sets new i r.placed) h) ∙ sets-eq reading.placed old 0 (omega arith) ∙ rw (zero-add (length reading.placed)),
      )

-- the entries of a list, each placed as so many times itself: i of them are, and the rest is still to be read
pub record Entering (kind : Kind) (times : ℕ) (bytes : List ℕ) (count : ℕ) (room₀ room rest : List ℕ) (least i : ℕ) : Type 0 where
  pub three : times ≤ 3
  pub upto : i ≤ count
  pub enough : count ≤ length room₀
  pub low : least ≤ 2 ^ 28
  pub placing : Placing (each_as (λ n. times * n) (entries_in kind count 0 bytes)) room₀ i room (each_as (λ n. times * n) (entries_in kind (count - i) least rest))

module _ {kind : Kind} {times : ℕ} {bytes : List ℕ} {count : ℕ} {room₀ room rest : List ℕ} {least i : ℕ} (n : Entering kind times bytes count room₀ room rest least i) where
  -- what the whole reading owes
  abbrev Owes : Read → Type 0
  Owes r = Reads (each_as (λ n. times * n) (entries_in kind count 0 bytes)) room₀ room r

  -- the list ends with this answer
  ends : {r : Read} (e : Result Unit Refusal) (ended : Paper Unit) → r ≡ record { ended = e; placed = i } → entries_in kind (count - i) least rest ≡ stop ended → paper e ≡ ended → Owes r
  ends e ended q h f = placing-done n.placing e ended q (ap (each_as (λ n. times * n)) h) f (omega (arith, n.upto, n.enough))

  -- behind the last entry, with bytes left or none
  module _ (h : count ≤ i) where
    all : count ≡ i
    all = omega (arith, n.upto)

    pub ends-over : {r : Read} → r ≡ record { ended = Err MoreBytes; placed = count } → (length rest =? 0) ≡ false → Owes r
    ends-over q l = ends (Err MoreBytes) (refused 14 0) (q ∙ ap (λ (k : ℕ). record { ended = Err MoreBytes; placed = k }) all) (entries_over kind rest least (count - i) (omega arith) l) refl

    pub ends-whole : (length rest =? 0) ≡ true → Owes (record { ended = Ok tt; placed = count })
    ends-whole l = ends (Ok tt) (answer tt) (ap (λ (k : ℕ). record { ended = Ok tt; placed = k }) all) (entries-whole kind rest least (count - i) (omega arith) l) refl

  module _ (more : i < count) where
    pub ends-refused : {r : Read} (why : Refusal) → r ≡ record { ended = Err why; placed = i } → IsEntry kind rest least (Err why) → Owes r
    ends-refused why q e = ends (Err why) (on_paper why) q (e (count - i) (omega arith)) refl

    pub entering-next : (number : ℕ) (behind : Bor (List ℕ)) → IsEntry kind rest least (Ok (number, behind)) → Entering kind times bytes count room₀ (set room i (times * number)) behind.now (number + 1) (i + 1)
    entering-next number behind e =
        let left : count - i - 1 ≡ count - (i + 1) = omega arith in
        record {
          three = n.three;
          upto = omega arith;
          enough = n.enough;
          low = omega (arith, e.1);
          placing = placing-next n.placing (times * number) _ (ap (each_as (λ n. times * n)) (rw left at (e.0 (count - i) (omega arith))));
        }
