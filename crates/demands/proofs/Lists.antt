-- A list of either kind is written for each set and read back to it, whole or cut short, and the bytes of no other list are read. Assumes
-- nothing.
use mathlib.Core.Path.{◌≡◌, sym, ap, ◌∙◌, subst}
use mathlib.Core.List.{List, map}
use mathlib.Core.Logic.{⊎_elim}
use Prim.Native.Nat.{ℕ}
use native.Mathlib.Nat.{le_refl}
use native.Mathlib.Omega.{arith}
use lib.ListN.{length, take, length-map}
use Rattle.refusal.specs.Paper.{answer}
use Rattle.holding.specs.Holding.{sheet_in, product_in, Unstated}
use Rattle.holding.proofs.HoldingTheorems.{holding-passes, passes-holding, parts-back, number-back, one_number}
use Rattle.shelf.specs.Kind.{Kind, of_sheets, of_holdings, kind_of, KindName, Sheets, Holdings}
use Rattle.shelf.specs.Writing.{bytes_in, set_in, write_in}
use Rattle.shelf.specs.Reading.{Reading, read_list, read_holdings}
use Rattle.shelf.proofs.KindLaws.{works}
use Rattle.shelf.proofs.ReadingLaws.{map-self}
use Rattle.shelf.proofs.ListTheorems as list
use Rattle.shelf.proofs.HoldingsTheorems as new
use Rattle.demands.specs.Lists.{Way, of_kind, as_before, kind_in, read_by, stands_for, IsHoldingSet, Listed, PlacedKept, CountNeedsRoom, EachSetIsWritten, OnlySetsAreWritten, Listable, EachHoldingSetHasList, EachListReadsBack, OneSetOneList, AcceptedListIsWritten, CutEndsEarly, NewListIsRefused, OldListIsReadAsBefore, OtherFirstIsRefused, HoldingIsSheetAndProduct}
use Rattle.demands.proofs.RoomLaws.{fills}
use Rattle.demands.proofs.ListLaws.{above-needs, needs-above, ways-work, whole, cut_short, all-bytes}

pub placed-kept : PlacedKept
placed-kept (of_kind kind) bytes room told r = record {
  count = r.placed;
  filled = fills room (read_holdings bytes (length room)).placed (new.holdings-placed-fits bytes (length room));
  set = new.holdings-placed-set bytes (length room);
}
placed-kept as_before bytes room told r = record {
  count = r.placed;
  filled = fills room (read_list bytes (length room)).placed (list.placed-fits (works Sheets) bytes (length room));
  set = list.placed-set (works Sheets) bytes (length room);
}

pub count-needs-room : CountNeedsRoom
count-needs-room = record {
  given = above-needs;
  only = λ bytes room value e. let r = new.read_as bytes room in (r.0, needs-above r.0 bytes room value (ap (λ (q : Reading). q.ended) (sym r.1) ∙ e));
  only-before = needs-above Sheets;
}

pub each-set-is-written : EachSetIsWritten
each-set-is-written kind numbers room s l = list.set-written (kind_of kind) numbers room (list.set-passes (kind_of kind) numbers s) l

pub only-sets-are-written : OnlySetsAreWritten
only-sets-are-written kind numbers bytes room e = list.passes-set (kind_of kind) numbers (list.written-set (kind_of kind) numbers room e).0

-- ---- a set and its list

-- the numbers are a set, these are its bytes, and it has as many numbers as the set has members
record Set (way : Way) (set bytes : List ℕ) (list : Listed way set bytes) : Type 0 where
  is : set_in (kind_in way) list.numbers ≡ answer tt
  bytes-are : bytes_in (kind_in way) list.numbers ≡ bytes
  count : length set ≡ length list.numbers

set-of : (way : Way) (set bytes : List ℕ) (l : Listed way set bytes) → Set way set bytes l
set-of way set bytes l =
    let w = list.written-set (kind_in way) l.numbers l.room l.written in
    record { is = w.0; bytes-are = w.1; count = ap length l.stand ∙ length-map l.numbers (stands_for way) }

-- the list that a set of numbers has, given just the room for it
listed : (way : Way) (set numbers : List ℕ) → set ≡ map (stands_for way) numbers → set_in (kind_in way) numbers ≡ answer tt → (bytes : List ℕ) × Listed way set bytes
listed way set numbers stand e =
    let bytes = bytes_in (kind_in way) numbers in
    (bytes, record { numbers = numbers; stand = stand; room = length bytes; written = list.set-written (kind_in way) numbers (length bytes) e (le_refl (length bytes)) })

pub each-holding-set-has-list : EachHoldingSetHasList
each-holding-set-has-list = record { each = each; only = only }
  where
    each : (kind : KindName) (set : List ℕ) → Listable kind set → (bytes : List ℕ) × Listed (of_kind kind) set bytes
    each Sheets set s = let t = new.unstated-set set (list.set-passes of_holdings set s.0) s.1 in listed (of_kind Sheets) set (map sheet_in set) t.1 t.0
    each Holdings set s = listed (of_kind Holdings) set set (sym (map-self set)) (list.set-passes of_holdings set s)

    holding-set : (kind : KindName) (set bytes : List ℕ) → Listed (of_kind kind) set bytes → IsHoldingSet set
    holding-set kind set bytes l = subst IsHoldingSet (sym l.stand) (list.passes-set of_holdings (new.stand kind l.numbers) (new.stand-set kind l.numbers (set-of (of_kind kind) set bytes l).is))

    only : (kind : KindName) (set bytes : List ℕ) → Listed (of_kind kind) set bytes → Listable kind set
    only Sheets set bytes l = (holding-set Sheets set bytes l, subst Unstated (sym l.stand) (λ i h. new.no-product l.numbers i))
    only Holdings set bytes l = holding-set Holdings set bytes l

pub each-list-reads-back : EachListReadsBack
each-list-reads-back way set bytes lent l enough =
    let s = set-of way set bytes l in
    ap (λ (b : List ℕ). read_by way b lent) (sym s.bytes-are) ∙ whole l.numbers lent (omega (arith, s.count)) way s.is ∙ ap (λ (placed : List ℕ). record { ended = answer tt; placed = placed }) (sym l.stand)

pub one-set-one-list : OneSetOneList
one-set-one-list way a b bytes l m =
    let s = set-of way a bytes l in
    let t = set-of way b bytes m in
    l.stand ∙ ap (map (stands_for way)) (list.one-set-one-list (ways-work way) l.numbers m.numbers s.is t.is (s.bytes-are ∙ sym t.bytes-are)) ∙ sym m.stand

-- a list that was accepted is written again in room for just its bytes
again : (kind : Kind) (bytes : List ℕ) (room : ℕ) (xs : List ℕ) → list.Accepted kind bytes room xs → write_in kind xs (length bytes) ≡ answer bytes
again kind bytes room xs w = list.set-written kind xs (length bytes) w.set (omega (arith, ap length w.list)) ∙ ap answer (sym w.list)

pub accepted-list-is-written : AcceptedListIsWritten
accepted-list-is-written = record {
  new = λ bytes room b e.
      let t = new.was-taken bytes room (all-bytes bytes b) e in
      (t.kind, record { numbers = t.numbers; stand = t.stands; room = length bytes; written = again (kind_of t.kind) bytes room t.numbers t.accepted });
  before = λ bytes room b e.
      let placed = (read_list bytes room).placed in
      record { numbers = placed; stand = sym (map-self placed); room = length bytes; written = again of_sheets bytes room placed (list.was-written (works Sheets) bytes room (all-bytes bytes b) e) };
}

pub cut-ends-early : CutEndsEarly
cut-ends-early way set bytes l cut lent short enough =
    let s = set-of way set bytes l in
    ap (λ (b : List ℕ). read_by way (take cut b) lent) (sym s.bytes-are) ∙ cut_short l.numbers lent (omega (arith, s.count)) way cut s.is (omega (arith, ap length s.bytes-are))

-- ---- which lists each reader takes

pub new-list-is-refused : NewListIsRefused
new-list-is-refused = record {
  any = new.old-refuses;
  written = λ holdings bytes room lent e.
      let w = list.written-set of_holdings holdings room e in
      ap (λ (b : List ℕ). read_list b lent) (sym w.1) ∙ new.old-reader-refuses holdings lent w.0;
}

pub old-list-is-read-as-before : OldListIsReadAsBefore
old-list-is-read-as-before = new.old-read

pub other-first-is-refused : OtherFirstIsRefused
other-first-is-refused bytes room first e over off = ⊎_elim (new.between-refused bytes room first e over) (new.above-refused bytes room first e) off

-- ---- what stands in a set of holdings

pub holding-is-sheet-and-product : HoldingIsSheetAndProduct
holding-is-sheet-and-product = record {
  parts-back = parts-back;
  number-back = number-back;
  one_number = one_number;
  members = λ number. (
    λ e. (record { sheet = sheet_in number; product = product_in number }, passes-holding number 3 e),
    λ made. holding-passes made.0.sheet made.0.product number 3 made.1,
  );
}
