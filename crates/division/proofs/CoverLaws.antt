-- The cover of a window in the area: the block of the rows and columns that it meets, judged by their counts. Assumes nothing.
use mathlib.Core.Path.{◌≡◌, sym, ◌∙◌}
use mathlib.Core.List.{List}
use Prim.Native.Nat.{ℕ, ◌*◌, ◌≤◌, ◌<◌}
use native.Mathlib.Nat.{mul-le-mul, zero-add}
use native.Mathlib.Omega.{arith}
use borrow.Author.Tests.{le-leb, lt-leb, leb-true}
use lib.ListN.{length}
use lib.Seq.{sets, sets-eq}
use Rattle.refusal.specs.declared.Refusal.{Refusal}
use Rattle.refusal.specs.Numbers.{on_paper}
use Rattle.refusal.specs.Paper.{answer, refused, laid, counted, room_after}
use Rattle.refusal.proofs.PaperLaws.{passed, passed-test, passed-judge, same_answer, laid-fits, refuses-so}
use Rattle.division.specs.declared.Edges.{Edges}
use Rattle.division.specs.declared.cover.Block.{Block}
use Rattle.division.specs.Words.{◌≤?◌}
use Rattle.division.specs.Table.{is_scale, rows, columns}
use Rattle.division.specs.Grid.{area, within}
use Rattle.division.specs.Cover.{columns_in, rows_in, sheets_in, is_window, coverable, cover, spanned, block_in}
use Rattle.division.specs.Given.{Seen, BlockRoom}
use Rattle.division.proofs.TableLaws.{scale, rules, is-scale}
use Rattle.division.proofs.BlockLaws.{block_of, length-block}
use Rattle.division.proofs.SpanLaws.{Spans, span-is}
use Rattle.division.proofs.WindowLaws.{columns-run, rows_run}

-- what 9 and 10 judge: the rows met times the columns met
pub count-is : (s : ℕ) (w : Edges) → length (sheets_in s w) ≡ length (rows_in s w) * length (columns_in s w)
count-is s w = length-block s (rows_in s w) (columns_in s w)

-- ---- a window in the area

module _ {s : ℕ} {w : Edges} (h : Seen s w) where
  in_rows : Spans (rows_in s w) (rows s) (spanned (rows_in s w))
  in_rows = rw (span-is (rows_run h)) (rows_run h)

  in-columns : Spans (columns_in s w) (columns s) (spanned (columns_in s w))
  in-columns = rw (span-is (columns-run h)) (columns-run h)

  listed : sheets_in s w ≡ block_of s (spanned (rows_in s w)) (spanned (columns_in s w))
  listed = rw (← in_rows.listed, ← in-columns.listed)

  pub few : length (rows_in s w) * length (columns_in s w) ≤ 6_000_000
  few =
      let a : length (rows_in s w) ≤ 3_000 = omega (arith, in_rows.inside, (rules h.scale).few-rows) in
      let b : length (columns_in s w) ≤ 2_000 = omega (arith, in-columns.inside, (rules h.scale).few-columns) in
      mul-le-mul a b

  pub many : 4_096 < length (rows_in s w) * length (columns_in s w) → block_in s w ≡ refused 9 0
  unfolding coverable block_in
  many l =
      rw (is-scale h.scale, h.window, h.inside, count-is s w, lt-leb (length (rows_in s w) * length (columns_in s w)) 4_096 l)

  pub not-many : length (rows_in s w) * length (columns_in s w) ≤ 4_096 → block_in s w ≡ answer (record { down = spanned (rows_in s w); across = spanned (columns_in s w) })
  unfolding coverable block_in
  not-many l =
      rw (is-scale h.scale, h.window, h.inside, count-is s w, le-leb (length (rows_in s w) * length (columns_in s w)) 4_096 l)

-- ---- a window that is not refused

-- what coverable has passed
pub record Coverable (s : ℕ) (w : Edges) : Type 0 where
  pub seen : Seen s w
  pub few : length (sheets_in s w) ≤ 4_096

pub is-coverable : {s : ℕ} {w : Edges} {u : Unit} → coverable s w ≡ answer u → Coverable s w
unfolding coverable
is-coverable {s} {w} e =
    let a = passed 2 (is_scale s) _ e in
    let b = passed 7 (is_window w) _ a.1 in
    let c = passed 8 (within area w) _ b.1 in
    record {
      seen = record { scale = scale s a.0; window = b.0; inside = c.0 };
      few = leb-true (length (sheets_in s w)) 4_096 (passed-test 9 (length (sheets_in s w) ≤? 4_096) c.1);
    }

-- what is refused of the rows and columns is refused of the cover
pub refused-cover : (s : ℕ) (w : Edges) (room : ℕ) (why : Refusal) → block_in s w ≡ on_paper why → cover s w room ≡ on_paper why
unfolding block_in cover
refused-cover s w room why e = refuses-so (coverable s w) (record { down = spanned (rows_in s w); across = spanned (columns_in s w) }) (laid (sheets_in s w) room) why e

-- the block of its rows and columns has its sheets
module _ (s : ℕ) (w : Edges) (b : Block) (e : block_in s w ≡ answer b) where
  told : (coverable s w ≡ answer tt) × (answer (record { down = spanned (rows_in s w); across = spanned (columns_in s w) }) ≡ answer b)
  unfolding block_in
  told = passed-judge (coverable s w) (answer (record { down = spanned (rows_in s w); across = spanned (columns_in s w) })) e

  is : b ≡ record { down = spanned (rows_in s w); across = spanned (columns_in s w) }
  is = sym (same_answer told.1)

  pub passes : coverable s w ≡ answer tt
  passes = told.0

  of : Coverable s w
  of = is-coverable passes

  pub block-is : block_of s b.down b.across ≡ sheets_in s w
  block-is = rw is (sym (listed of.seen))

  size : b.down.count * b.across.count ≡ length (sheets_in s w)
  size = rw is (sym (count-is s w))

  pub small : b.down.count * b.across.count ≤ 4_096
  small = omega (arith, size, of.few)

  laid_so : (room : ℕ) → cover s w room ≡ laid (sheets_in s w) room
  unfolding cover
  laid_so room = rw passes

  pub short : (room : ℕ) → room < b.down.count * b.across.count → cover s w room ≡ refused 10 (b.down.count * b.across.count)
  short room l = laid_so room ∙ rw (← size, lt-leb (b.down.count * b.across.count) room l)

  pub fills : (room : ℕ) → b.down.count * b.across.count ≤ room → BlockRoom s b.down b.across room
  fills room l = record {
    scale = of.seen.scale;
    in_rows = rw is (in_rows of.seen).inside;
    in-columns = rw is (in-columns of.seen).inside;
    few = small;
    fits = l;
  }

  module _ (old : List ℕ) (l : b.down.count * b.across.count ≤ length old) where
    good : cover s w (length old) ≡ answer (sheets_in s w)
    good = laid_so (length old) ∙ laid-fits (sheets_in s w) (omega (arith, size))

    pub counts : answer (b.down.count * b.across.count) ≡ counted (cover s w (length old))
    counts = rw (good, size)

    pub written : (new : List ℕ) → new ≡ sets old 0 (block_of s b.down b.across) → new ≡ room_after (cover s w (length old)) old
    written new f =
        f ∙ rw (good, block-is) (sets-eq (sheets_in s w) old 0 (omega (arith, size)) ∙ rw zero-add)
