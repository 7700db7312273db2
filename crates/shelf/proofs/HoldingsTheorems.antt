-- The new reader takes lists of both kinds, since the first number tells the kind, and places the holdings that their numbers stand for;
-- document 01's reader refuses the new kind. Everything else is so of a list of any kind. Assumes nothing.
use mathlib.Core.Path.{◌≡◌, refl, sym, ap, ap₂, ◌∙◌}
use mathlib.Core.List.{List, [], ◌∷◌, ◌++◌, map, flat_map}
use mathlib.Core.Logic.{⊎_elim}
use Prim.Native.Nat.{ℕ, zero, suc, ◌+◌, ◌*◌, ◌≤◌, ◌<◌}
use native.Mathlib.Omega.{arith}
use lib.ListN.{length, get_or, take, length-map}
use Rattle.refusal.specs.Paper.{Paper, answer, refused}
use Rattle.refusal.specs.declared.Refusal.TheVariants.{BadNumber}
use Rattle.refusal.proofs.PaperLaws.{passed-test, same_answer, differs}
use Rattle.rising.specs.Rising.{rising_from, IsSet}
use Rattle.rising.proofs.RisingLaws.{head, rising-more}
use Rattle.division.specs.Sheet.{is_sheet}
use Rattle.division.proofs.TestLaws.{le-or-less}
use Rattle.holding.specs.Holding.{sheet_in, product_in, Unstated}
use Rattle.holding.proofs.HoldingLaws.{fine, sheet-is}
use Rattle.holding.proofs.HoldingTheorems.{holding-passes, unstated}
use Rattle.shelf.specs.Number.{Number, groups_of, number_bytes, read_number}
use Rattle.shelf.specs.Kind.{Kind, of_sheets, of_holdings, kind_of, KindName, Sheets, Holdings}
use Rattle.shelf.specs.Writing.{bytes_in, set_in, wholly_in}
use Rattle.shelf.specs.Reading.{Reading, stop, ◌then_read◌, behind_in, read_in, kind_told, each_as, read_holdings}
use Rattle.shelf.proofs.KindLaws.{works, sheet-fine, sheets-over, holdings-over, told-old, told-new, kind-told}
use Rattle.shelf.proofs.WritingLaws.{entry_bytes, set-in, in-set}
use Rattle.shelf.proofs.ReadingLaws.{first_read, count-refused, told-read}
use Rattle.shelf.proofs.NumberTheorems.{Bytes, number-reads}
use Rattle.shelf.proofs.ListTheorems.{set-passes, passes-set, placed-set, placed-fits, reads-back, Accepted, was-written, cut-behind, cut_in, cut-ends-early}

-- ---- the holdings that numbers stand for

module _ (kind : KindName) where
  -- the numbers of a list as holdings
  abbrev pub stand : List ℕ → List ℕ
  stand numbers = map (kind_of kind).holds numbers

  -- every sheet has a holding without a product, and they are in the order of the sheets
  holds-fine : (n : ℕ) → (kind_of kind).judge 3 n ≡ answer tt → of_holdings.judge 3 ((kind_of kind).holds n) ≡ answer tt
  holds-fine n e = by kind e
    where
      by : (k : KindName) → (kind_of k).judge 3 n ≡ answer tt → of_holdings.judge 3 ((kind_of k).holds n) ≡ answer tt
      by Sheets e = holding-passes n 0 _ 3 (unstated n (passed-test 3 (is_sheet n) e))
      by Holdings e = e

  holds-rise : (a b : ℕ) → a < b → (kind_of kind).holds a < (kind_of kind).holds b
  holds-rise a b l = by kind
    where
      by : (k : KindName) → (kind_of k).holds a < (kind_of k).holds b
      by Sheets = omega arith
      by Holdings = l

  stand-rises : (least from : ℕ) (xs : List ℕ) → ((x : ℕ) → least ≤ x → from ≤ (kind_of kind).holds x) → rising_from ((kind_of kind).judge 3) least xs ≡ answer tt → rising_from (of_holdings.judge 3) from (stand xs) ≡ answer tt
  unfolding rising_from
  stand-rises least from [] low e = refl
  stand-rises least from (x ∷ xs) low e =
      let f = head ((kind_of kind).judge 3) least x xs e in
      rising-more (of_holdings.judge 3) from ((kind_of kind).holds x) (stand xs) (holds-fine x f.fine) (low x f.rises)
      ∙ stand-rises (x + 1) ((kind_of kind).holds x + 1) xs (λ y l. omega (arith, holds-rise x y (omega arith))) f.later

  lowest : (x : ℕ) → 0 ≤ x → 0 ≤ (kind_of kind).holds x
  lowest x l = omega arith

  -- a set of either kind stands for a set of holdings
  pub stand-set : (xs : List ℕ) → set_in (kind_of kind) xs ≡ answer tt → set_in of_holdings (stand xs) ≡ answer tt
  stand-set xs e =
      let s = set-in e in
      in-set (record { few = omega (arith, s.few, length-map xs (kind_of kind).holds); rises = stand-rises 0 0 xs lowest s.rises })

-- "an old list is that of a set with product 0 throughout": the product of what a sheet stands for
pub no-product : (sheets : List ℕ) (i : ℕ) → product_in (get_or (stand Sheets sheets) i 0) ≡ 0
no-product [] i = refl
no-product (x ∷ sheets) zero = omega arith
no-product (x ∷ sheets) (suc i) = no-product sheets i

-- and every set of such holdings is what a set of sheets stands for
unstated-rises : (least from : ℕ) (xs : List ℕ) → 3 * least ≤ from + 2 → Unstated xs → rising_from (of_holdings.judge 3) from xs ≡ answer tt → rising_from (of_sheets.judge 3) least (map sheet_in xs) ≡ answer tt
unfolding rising_from
unstated-rises least from [] low u e = refl
unstated-rises least from (x ∷ xs) low u e =
    let f = head (of_holdings.judge 3) from x xs e in
    let none : product_in x ≡ 0 = u 0 (omega arith) in
    rising-more (of_sheets.judge 3) least (sheet_in x) (map sheet_in xs) (sheet-fine 3 (sheet_in x) (sheet-is x (fine 3 x f.fine).upto)) (omega (arith, f.rises))
    ∙ unstated-rises (sheet_in x + 1) (x + 1) xs (omega arith) (λ i l. u (suc i) (omega arith)) f.later

unstated-same : (xs : List ℕ) → Unstated xs → xs ≡ stand Sheets (map sheet_in xs)
unstated-same [] u = refl
unstated-same (x ∷ xs) u = ap₂ (λ y ys. y ∷ ys) (let none : product_in x ≡ 0 = u 0 (omega arith) in omega arith) (unstated-same xs (λ i l. u (suc i) (omega arith)))

pub unstated-set : (xs : List ℕ) → set_in of_holdings xs ≡ answer tt → Unstated xs → (set_in of_sheets (map sheet_in xs) ≡ answer tt) × (xs ≡ stand Sheets (map sheet_in xs))
unstated-set xs e u =
    let s = set-in e in
    (in-set (record { few = omega (arith, s.few, length-map xs sheet_in); rises = unstated-rises 0 0 xs (omega arith) u s.rises }), unstated-same xs u)

-- ---- the new reader is that of the kind which the first number tells, each number as the holding that it stands for

pub new-reader : (kind : Kind) (bytes : List ℕ) (room : ℕ) → ((first : Number) → read_number bytes ≡ answer first → kind_told first.value ≡ kind) → read_holdings bytes room ≡ each_as kind.holds (read_in kind bytes room)
unfolding read_holdings read_in
new-reader kind bytes room tells = by (read_number bytes) tells
  where
    by : (p : Paper Number) → ((first : Number) → p ≡ answer first → kind_told first.value ≡ kind)
        → (p then_read λ first. each_as (kind_told first.value).holds (behind_in (kind_told first.value) first room)) ≡ each_as kind.holds (p then_read λ first. behind_in kind first room)
    by (answer first) tells = rw (tells first refl)
    by (refused n v) tells = refl

-- ---- whatever is read, a set of holdings is placed

-- an old list, whatever is wrong with it, is read as by document 01's reader, each sheet with product 0; and any other list as a new one
pub old-read : (bytes : List ℕ) (room : ℕ) → ((first : Number) → read_number bytes ≡ answer first → first.value < 8_192) → read_holdings bytes room ≡ each_as of_sheets.holds (read_in of_sheets bytes room)
old-read bytes room below = new-reader of_sheets bytes room (λ first e. told-old first.value (below first e))

pub new-read : (bytes : List ℕ) (room : ℕ) (first : Number) → read_number bytes ≡ answer first → 8_192 ≤ first.value → read_holdings bytes room ≡ each_as of_holdings.holds (read_in of_holdings bytes room)
new-read bytes room first e l = new-reader of_holdings bytes room (λ other f. told-new other.value (omega (arith, ap (λ (n : Number). n.value) (same_answer (sym f ∙ e)))))

-- so it reads as the reader of one of the kinds
pub read_as : (bytes : List ℕ) (room : ℕ) → (kind : KindName) × (read_holdings bytes room ≡ each_as (kind_of kind).holds (read_in (kind_of kind) bytes room))
read_as bytes room = by (read_number bytes) refl
  where
    by : (p : Paper Number) → read_number bytes ≡ p → (kind : KindName) × (read_holdings bytes room ≡ each_as (kind_of kind).holds (read_in (kind_of kind) bytes room))
    by (refused n v) e = (Sheets, old-read bytes room (λ first f. absurd (differs (sym f ∙ e))))
    by (answer first) e =
        ⊎_elim
        (λ (l : 8_192 ≤ first.value). (Holdings, new-read bytes room first e l))
        (λ (l : first.value < 8_192). (Sheets, old-read bytes room (λ other f. omega (arith, ap (λ (n : Number). n.value) (same_answer (sym f ∙ e))))))
        (le-or-less 8_192 first.value)

module _ (bytes : List ℕ) (room : ℕ) where
  pub holdings-placed-set : IsSet (of_holdings.judge 3) 4_096 (read_holdings bytes room).placed
  holdings-placed-set =
      let r = read_as bytes room in
      passes-set of_holdings (read_holdings bytes room).placed (rw r.1 (stand-set r.0 _ (set-passes (kind_of r.0) _ (placed-set (works r.0) bytes room))))

  pub holdings-placed-fits : length (read_holdings bytes room).placed ≤ room
  holdings-placed-fits =
      let r = read_as bytes room in
      rw r.1 (omega (arith, length-map (read_in (kind_of r.0) bytes room).placed (kind_of r.0).holds, placed-fits (works r.0) bytes room))

-- ---- a list of either kind, whole or cut

module _ (kind : KindName) (xs : List ℕ) (e : set_in (kind_of kind) xs ≡ answer tt) where
  -- what begins with its first number tells the kind
  tells : (bytes rest : List ℕ) → bytes ≡ number_bytes ((kind_of kind).begins (length xs)) ++ rest → (first : Number) → read_number bytes ≡ answer first → kind_told first.value ≡ kind_of kind
  tells bytes rest split first f =
      let few = (set-in e).few in
      let n = (kind_of kind).begins (length xs) in
      ap (λ (m : Number). kind_told m.value) (same_answer (sym f ∙ ap read_number split ∙ number-reads n ((works kind).begins-small (length xs) few) rest)) ∙ kind-told kind (length xs) few

  -- demand 2: given room, it reads back to the holdings that it stands for
  pub holdings-read-back : (room : ℕ) → length xs ≤ room → read_holdings (bytes_in (kind_of kind) xs) room ≡ record { ended = answer tt; placed = stand kind xs }
  unfolding bytes_in flat_map
  holdings-read-back room enough =
      new-reader (kind_of kind) (bytes_in (kind_of kind) xs) room (tells (bytes_in (kind_of kind) xs) (entry_bytes 0 xs) refl) ∙ ap (each_as (kind_of kind).holds) (reads-back (works kind) xs room e enough)

  cut-tells : (cut : ℕ) (first : Number) → read_number (take cut (bytes_in (kind_of kind) xs)) ≡ answer first → kind_told first.value ≡ kind_of kind
  unfolding bytes_in flat_map
  cut-tells cut first f =
      let n = (kind_of kind).begins (length xs) in
      ⊎_elim
      (λ (l : groups_of n ≤ cut). tells (take cut (bytes_in (kind_of kind) xs)) _ (cut-behind n cut (entry_bytes 0 xs) l) first f)
      (λ (l : cut < groups_of n). absurd (differs (sym f ∙ cut_in n cut (entry_bytes 0 xs) ((works kind).begins-small (length xs) (set-in e).few) l)))
      (le-or-less (groups_of n) cut)

  -- demand 3: cut short of its end it ends early, with exactly the holdings whose bytes are wholly before the cut
  pub holdings-cut : (cut room : ℕ) → length xs ≤ room → cut < length (bytes_in (kind_of kind) xs) → read_holdings (take cut (bytes_in (kind_of kind) xs)) room ≡ record { ended = refused 11 0; placed = stand kind (wholly_in (kind_of kind) cut xs) }
  holdings-cut cut room enough short =
      new-reader (kind_of kind) (take cut (bytes_in (kind_of kind) xs)) room (cut-tells cut) ∙ ap (each_as (kind_of kind).holds) (cut-ends-early (works kind) xs cut room e enough short)

-- ---- what the new reader accepts was written, in one of the two kinds

pub record Taken (bytes : List ℕ) (room : ℕ) (placed : List ℕ) : Type 0 where
  pub kind : KindName
  pub numbers : List ℕ
  pub accepted : Accepted (kind_of kind) bytes room numbers
  pub stands : placed ≡ stand kind numbers

pub was-taken : (bytes : List ℕ) (room : ℕ) → Bytes bytes → (read_holdings bytes room).ended ≡ answer tt → Taken bytes room (read_holdings bytes room).placed
was-taken bytes room y e =
    let r = read_as bytes room in
    record {
      kind = r.0;
      numbers = (read_in (kind_of r.0) bytes room).placed;
      accepted = was-written (works r.0) bytes room y (ap (λ (reading : Reading). reading.ended) (sym r.1) ∙ e);
      stands = ap (λ (reading : Reading). reading.placed) r.1;
    }

-- ---- which first numbers are refused

module _ (bytes : List ℕ) (room : ℕ) (first : Number) (e : read_number bytes ≡ answer first) where
  -- "The present reader refuses such a list with 12": any that begins so, whatever follows
  pub old-refuses : 4_096 < first.value → read_in of_sheets bytes room ≡ stop (refused 12 0)
  old-refuses l = first_read of_sheets bytes room first e ∙ count-refused of_sheets first.value first.rest room BadNumber (sheets-over first.value l)

  -- "its first number may be 0 to 4 096 or 8 192 to 12 288, and any other is 12"
  pub between-refused : 4_096 < first.value → first.value < 8_192 → read_holdings bytes room ≡ stop (refused 12 0)
  between-refused l h =
      let f = told-read bytes room of_sheets first e (told-old first.value h) in
      f ∙ ap (each_as of_sheets.holds) (count-refused of_sheets first.value first.rest room BadNumber (sheets-over first.value l))

  pub above-refused : 12_288 < first.value → read_holdings bytes room ≡ stop (refused 12 0)
  above-refused l =
      let f = told-read bytes room of_holdings first e (told-new first.value (omega arith)) in
      f ∙ ap (each_as of_holdings.holds) (count-refused of_holdings first.value first.rest room BadNumber (holdings-over first.value l))

pub old-reader-refuses : (xs : List ℕ) (room : ℕ) → set_in of_holdings xs ≡ answer tt → read_in of_sheets (bytes_in of_holdings xs) room ≡ stop (refused 12 0)
unfolding bytes_in flat_map
old-reader-refuses xs room e =
    old-refuses (bytes_in of_holdings xs) room _ (number-reads (8_192 + length xs) (omega (arith, (set-in e).few)) (entry_bytes 0 xs)) (omega arith)
