-- What holds of the list, over the whole of it: a test that is computed at its fifteen places holds at each. Assumes nothing.
use mathlib.Core.Path.{◌≡◌, refl, sym, ap, ◌∙◌}
use mathlib.Core.Bool.{Bool, true, false, false≢true, not, ◌&&◌, ◌||◌}
use mathlib.Core.List.{List}
use Rattle.std.specs.Prelude.{Option, Some, None}
use Rattle.std.proofs.lemmas.Option.{none-some, same_Some}
use Prim.Native.Nat.{ℕ, ◌≤◌, ◌<◌}
use native.Mathlib.Omega.{arith}
use borrow.Author.Tests.{eqb-true}
use lib.ListN.{length}
use Rattle.refusal.specs.Paper.{Paper, answer, refused}
use Rattle.division.specs.Words.{◌=?◌, between, from, keep}
use Rattle.division.specs.Table.{table_row, rows_of, columns_of}
use Rattle.division.specs.Sheet.{index_at, scale_of}
use Rattle.division.proofs.TestLaws.{both, between_in}
use Rattle.division.proofs.MemberLaws.{has-from}
use Rattle.label.specs.Text.{text, every, split, value}
use Rattle.label.specs.Label.{mark_of, count_of, ranges, in_range, place_from, scale_with, formed, sheet_named, read_label}
use Rattle.label.proofs.LabelTheorems.{was-written}
use Rattle.names.specs.Name.{table, single_in, joined, SameName, same_bytes}
use Rattle.names.proofs.RowLaws.{each-passes}
use Rattle.names.proofs.NameTheorems.{bytes-tested}
use Rattle.catalogue.specs.Line.{label_in, has_name, name_in, is_name, with_name, read_line}
use Rattle.official.specs.List.{utf8, Row, official}
use Rattle.official.specs.Lookup.{answered, sheet_in, ◌is?◌, is250000}
use Rattle.official.specs.Theorems.{row_at, line_of, Sound}

pub fifteen : length official ≡ 15
unfolding official
fifteen = refl

at_each : (test : ℕ → Bool) → every test (from 0 15) ≡ true → (i : ℕ) → i < 15 → test i ≡ true
at_each test e i h = each-passes test e (has-from 0 15 i (omega arith) (omega arith))

-- ---- each label is of a 1:250 000 sheet, and each name could stand in a line

pub from-answered : (p : Paper ℕ) {n : ℕ} → answered p ≡ Some n → p ≡ answer n
from-answered (answer m) {n} e = ap answer (same_Some m n e)
from-answered (refused number value) {n} e = absurd (none-some n e)

pub is_some : (o : Option ℕ) {n : ℕ} → (o is? n) ≡ true → o ≡ Some n
is_some None e = absurd (false≢true e)
is_some (Some m) {n} e = ap Some (eqb-true m n e)

abbrev is_sound : Row → Option ℕ → Bool
is_sound row None = false
is_sound row (Some n) =
    is250000 n && (is_name row.name && ((answered (read_line (line_of row)) is? n) && (has_name (line_of row) && same_bytes (name_in (line_of row)) row.name)))

all_sound : every (λ i. is_sound (row_at i) (sheet_in (row_at i))) (from 0 15) ≡ true
unfolding every from keep table_row rows_of columns_of index_at scale_of split value mark_of count_of ranges in_range place_from scale_with formed sheet_named read_label same_bytes label_in is_name with_name read_line text utf8 official sheet_in
all_sound = refl

is-sound : (row : Row) (p : Paper ℕ) → read_label row.label ≡ p → is_sound row (answered p) ≡ true → Sound row
is-sound row (answer n) e t =
    let l = line_of row in
    let a = both (is250000 n) _ t in
    let b = both (is_name row.name) _ a.1 in
    let c = both (answered (read_line l) is? n) _ b.1 in
    let d = both (has_name l) (same_bytes (name_in l) row.name) c.1 in
    record {
      sheet = n;
      reads = e;
      scale = eqb-true (scale_of n) 1 a.0;
      stands = b.0;
      line = from-answered (read_line l) (is_some (answered (read_line l)) c.0);
      named = d.0;
      name = (bytes-tested (name_in l) row.name).yes d.1;
    }
is-sound row (refused number value) e t = absurd (false≢true t)

pub sound : (i : ℕ) → i < 15 → Sound (row_at i)
unfolding sheet_in
sound i h = is-sound (row_at i) (read_label (row_at i).label) refl (at_each (λ i. is_sound (row_at i) (sheet_in (row_at i))) all_sound i h)

-- in 14 bytes at most
all-sized : every (λ i. between 1 14 (length (row_at i).name)) (from 0 15) ≡ true
unfolding every from text utf8 official
all-sized = refl

pub name-sized : (i : ℕ) → i < 15 → (1 ≤ length (row_at i).name) × (length (row_at i).name ≤ 14)
name-sized i h = between_in 1 14 (length (row_at i).name) (at_each (λ i. between 1 14 (length (row_at i).name)) all-sized i h)

-- ---- no two are the same

-- by what a row is told apart
abbrev apart_by : (Row → List ℕ) → ℕ → ℕ → Bool
apart_by by i j = i =? j || not (same_bytes (by (row_at i)) (by (row_at j)))

abbrev all_apart : (Row → List ℕ) → Bool
all_apart by = every (λ i. every (apart_by by i) (from 0 15)) (from 0 15)

one_place : (by : Row → List ℕ) → all_apart by ≡ true → (i j : ℕ) → i < 15 → j < 15 → by (row_at i) ≡ by (row_at j) → i ≡ j
one_place by e i j h l s =
    either (i =? j) refl (same_bytes (by (row_at i)) (by (row_at j))) refl
    (at_each (apart_by by i) (at_each (λ i. every (apart_by by i) (from 0 15)) e i h) j l)
  where
    either : (same : Bool) → (i =? j) ≡ same → (alike : Bool) → same_bytes (by (row_at i)) (by (row_at j)) ≡ alike → (same || not alike) ≡ true → i ≡ j
    either true f alike g t = eqb-true i j f
    either false f true g t = absurd (false≢true t)
    either false f false g t = absurd ((bytes-tested (by (row_at i)) (by (row_at j))).no g s)

labels_apart : all_apart (λ row. row.label) ≡ true
unfolding every from same_bytes text utf8 official
labels_apart = refl

names_apart : all_apart (λ row. joined row.name) ≡ true
unfolding every from same_bytes table single_in joined text utf8 official
names_apart = refl

-- "no label occurs twice"
pub no-two-labels : (i j : ℕ) → i < 15 → j < 15 → (row_at i).label ≡ (row_at j).label → i ≡ j
no-two-labels = one_place (λ row. row.label) labels_apart

-- "No two of the fifteen names are the same"
pub no-two-names : (i j : ℕ) → i < 15 → j < 15 → SameName (row_at i).name (row_at j).name → i ≡ j
no-two-names = one_place (λ row. joined row.name) names_apart

-- so no two rows are of one sheet
pub one-sheet : (i j n : ℕ) → i < 15 → j < 15 → read_label (row_at i).label ≡ answer n → read_label (row_at j).label ≡ answer n → i ≡ j
one-sheet i j n h l e f = no-two-labels i j h l ((was-written (row_at i).label n e).label ∙ sym (was-written (row_at j).label n f).label)
