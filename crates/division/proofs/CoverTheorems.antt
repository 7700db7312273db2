-- The cover of a window has exactly the sheets that share a point with it, each once, in the order named. Assumes nothing.
use mathlib.Core.Path.{◌≡◌, ap, ap₂, ◌∙◌, subst}
use mathlib.Core.Bool.{true}
use mathlib.Core.Logic.{◌↔◌, ∥∥₁_elim}
use mathlib.Core.List.Memᴰ
use mathlib.Core.List.Pairwise
use mathlib.Core.List.{List, map, flat_map, Memᴰ, Pairwise, Pairwise-append, Nodup}
use Prim.Native.Nat.{ℕ, zero, suc, ◌+◌, ◌-◌, ◌*◌, ◌≤◌, ◌<◌}
use native.Mathlib.Bridge.{le_prop}
use native.Mathlib.Nat.{add-mul, one-mul, mul-le-mul_right}
use native.Mathlib.Omega.{arith}
use borrow.Author.Tests.{lt-ltb}
use Rattle.division.specs.declared.Edges.{Edges}
use Rattle.division.specs.declared.Place.{Place}
use Rattle.division.specs.declared.cover.Span.{Span}
use Rattle.division.specs.Words.{◌<ᶻ◌, from}
use Rattle.division.specs.Table.{width, height, rows, columns}
use Rattle.division.specs.Grid.{millimetres, owns, west_of, north_of, edges_of}
use Rattle.division.specs.Sheet.{area_index, sheet_of, place_of, reading_order}
use Rattle.division.specs.Cover.{columns_in, rows_in, block, sheets_in}
use Rattle.division.specs.Given.{IsScale, OnGrid, Seen}
use Rattle.division.specs.Theorems.{Shares}
use Rattle.division.proofs.TestLaws.{both}
use Rattle.division.proofs.NumberLaws.{on-grid, sheet-place, scale-sheet, place-sheet, is-sheet}
use Rattle.division.proofs.GridLaws.{some-width, some-height, high-in, north-is}
use Rattle.division.proofs.PointLaws.{owned}
use Rattle.division.proofs.MeetLaws.{first-common, last-common, first-meets, last_meets}
use Rattle.division.proofs.MemberLaws.{from-has, has-from, keep-has, has-keep, Cell, block-has, has_block}
use Rattle.division.proofs.BlockLaws.{sheet_in}
use Rattle.division.proofs.SpanLaws.{Spans}
use Rattle.division.proofs.WindowLaws.{column_meets, row_meets, columns-run, rows_run}

-- no column and no row is empty
cell-wide : {s : ℕ} → IsScale s → (c : ℕ) → (west_of s c <ᶻ west_of s (c + 1)) ≡ true
cell-wide {s} h c =
    let g = millimetres (width s) in
    lt-ltb (200_000_000 + c * g) (200_000_000 + (c + 1) * g) (omega (arith, add-mul c 1 g, one-mul g, some-width h))

cell-high : {s : ℕ} → IsScale s → (r : ℕ) → r < rows s → (north_of s (r + 1) <ᶻ north_of s r) ≡ true
cell-high {s} h r l =
    let g = millimetres (height s) in
    let e : (r + 1) * g ≡ r * g + g = add-mul r 1 g ∙ omega (arith, one-mul g) in
    let m : (r + 1) * g ≤ 600_000_000 = high-in h (r + 1) (omega arith) in
    rw (north-is s (r + 1) m, north-is s r (omega arith)) (lt-ltb (5_170_000_000 - (r + 1) * g) (5_170_000_000 - r * g) (omega (arith, some-height h)))

-- ---- "every sheet sharing a point with it"

module _ {s : ℕ} {w : Edges} (h : Seen s w) where
  -- a sheet of the cover shares a point
  has-point : {k : ℕ} → Memᴰ k (sheets_in s w) → Shares s w k
  unfolding rows_in columns_in edges_of
  has-point {k} m =
      let t = block-has s (rows_in s w) (columns_in s w) m in
      let c = t.column in
      let r = t.row in
      let x = keep-has (column_meets s w) (from 0 (columns s)) t.in-columns in
      let y = keep-has (row_meets s w) (from 0 (rows s)) t.in_rows in
      let i : c < columns s = omega (arith, from-has 0 (columns s) x.0) in
      let j : r < rows s = omega (arith, from-has 0 (rows s) y.0) in
      let o : OnGrid s (record { row = r; column = c }) = record { scale = h.scale; in_rows = j; in-columns = i } in
      let v = both (w.west <ᶻ w.east) (w.south <ᶻ w.north) h.window in
      let e = first-common w.west w.east (west_of s c) (west_of s (c + 1)) v.0 (cell-wide h.scale c) x.1 in
      let n = last-common w.south w.north (north_of s (r + 1)) (north_of s r) v.1 (cell-high h.scale r j) y.1 in
      subst (Shares s w) t.is (record {
        east = e.0;
        north = n.0;
        window = rw (e.1, n.1);
        sheet = record { sheet = is-sheet o; scale = scale-sheet o; ground = rw (place-sheet o, scale-sheet o) (rw (e.2, n.2)) };
      })

  -- and a sheet that shares one is in it
  has-sheet : {k : ℕ} → Shares s w k → Memᴰ k (sheets_in s w)
  unfolding rows_in columns_in edges_of
  has-sheet {k} t =
      let p = place_of k in
      let e = t.east in
      let n = t.north in
      let o = subst (λ (s : ℕ). OnGrid s p) t.sheet.scale (on-grid k t.sheet.sheet) in
      let g = subst (λ (s : ℕ). owns (edges_of s p) e n ≡ true) t.sheet.scale t.sheet.ground in
      let i = subst (λ (s : ℕ). sheet_of s p ≡ k) t.sheet.scale (sheet-place k t.sheet.sheet) in
      let a = owned w.west w.east w.south w.north e n t.window in
      let b = owned (west_of s p.column) (west_of s (p.column + 1)) (north_of s (p.row + 1)) (north_of s p.row) e n g in
      let x = first-meets w.west w.east (west_of s p.column) (west_of s (p.column + 1)) e a.west a.east b.west b.east in
      let y = last_meets w.south w.north (north_of s (p.row + 1)) (north_of s p.row) n a.south a.north b.south b.north in
      subst (λ (k : ℕ). Memᴰ k (sheets_in s w)) i
      (has_block s (columns_in s w)
      (has-keep (row_meets s w) y (has-from 0 (rows s) p.row (omega arith) (omega (arith, o.in_rows))))
      (has-keep (column_meets s w) x (has-from 0 (columns s) p.column (omega arith) (omega (arith, o.in-columns)))))

  pub exactly : (k : ℕ) → Memᴰ k (sheets_in s w) ↔ Shares s w k
  exactly k = (has-point, has-sheet)

-- ---- "each once, rows from the north, each row from the west"

abbrev Later : ℕ → ℕ → Type 0
Later a b = reading_order a < reading_order b

later-prop : (a b : ℕ) → IsProp (Later a b)
later-prop a b = le_prop

module _ {s : ℕ} (h : IsScale s) where
  order_is : (r c : ℕ) → r < rows s → c < columns s → reading_order (sheet_in s r c) ≡ r * columns s + c
  order_is r c l g =
      let o : OnGrid s (record { row = r; column = c }) = record { scale = h; in_rows = l; in-columns = g } in
      ap₂ (λ (t : ℕ) (p : Place). area_index (columns t) p) (scale-sheet o) (place-sheet o)

  row-order : (r left n : ℕ) → r < rows s → left + n ≤ columns s → Pairwise Later (map (sheet_in s r) (from left n))
  unfolding from
  row-order r left zero l g = Pairwise.nil
  row-order r left (suc n) l g =
      Pairwise.cons (λ k m. ∥∥₁_elim m (later-prop (sheet_in s r left) k) (λ d. by k (Memᴰ.of_map (sheet_in s r) (from (left + 1) n) d))) (row-order r (left + 1) n l (omega arith))
    where
      by : (k : ℕ) → (c : ℕ) × Memᴰ c (from (left + 1) n) × (sheet_in s r c ≡ k) → Later (sheet_in s r left) k
      by k t =
          let f = from-has (left + 1) n t.1 in
          rw (← t.2, order_is r left l (omega arith), order_is r t.0 l (omega arith)) (omega arith)

  block-order : (top m left n : ℕ) → top + m ≤ rows s → left + n ≤ columns s → Pairwise Later (block s (from top m) (from left n))
  unfolding block flat_map from
  block-order top zero left n l g = Pairwise.nil
  block-order top (suc m) left n l g =
      (Pairwise-append later-prop).1 (row-order top left n (omega arith) g, block-order (top + 1) m left n (omega arith) g, λ a x b y. ∥∥₁_elim x (later-prop a b) (λ d. ∥∥₁_elim y (later-prop a b) (λ e. by a b (Memᴰ.of_map (sheet_in s top) (from left n) d) (block-has s (from (top + 1) m) (from left n) e))))
    where
      by : (a b : ℕ) → (c : ℕ) × Memᴰ c (from left n) × (sheet_in s top c ≡ a) → Cell s (from (top + 1) m) (from left n) b → Later a b
      by a b t u =
          let f = from-has left n t.1 in
          let i = from-has left n u.in-columns in
          let j = from-has (top + 1) m u.in_rows in
          let z : (top + 1) * columns s ≤ u.row * columns s = mul-le-mul_right (columns s) (omega arith) in
          rw (← t.2, ← u.is, order_is top t.0 (omega arith) (omega arith), order_is u.row u.column (omega arith) (omega arith)) (omega (arith, add-mul top 1 (columns s), one-mul (columns s)))

  runs-order : {rs cs : List ℕ} {down across : Span} → Spans rs (rows s) down → Spans cs (columns s) across → Pairwise Later (block s rs cs)
  runs-order {down = down} {across = across} d a =
      rw (d.listed, a.listed) (block-order down.first down.count across.first across.count d.inside a.inside)

module _ {s : ℕ} {w : Edges} (h : Seen s w) where
  pub in_order : Pairwise (λ a b. reading_order a < reading_order b) (sheets_in s w)
  in_order = runs-order h.scale (rows_run h) (columns-run h)

  pub once : Nodup (sheets_in s w)
  once = Pairwise.imp (λ a b l e. omega (arith, ap reading_order e)) in_order
