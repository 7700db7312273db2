-- A window in the area: its edges are plain numbers, and the columns and rows that it meets are spans of the grid. Assumes nothing.
use mathlib.Core.Path.{◌≡◌, ◌∙◌}
use mathlib.Core.Bool.{Bool, ◌&&◌, and_comm}
use Prim.Native.Nat.{ℕ, suc, ◌+◌, ◌-◌, ◌*◌, ◌≤◌, ◌<◌}
use native.Mathlib.Nat.{add-mul, one-mul}
use native.Mathlib.Omega.{arith}
use borrow.Author.Tests.{leb-true}
use lib.Dec.{ltb}
use lib.IntN.{pos, nat_abs, ◌-ℤ◌}
use Rattle.division.specs.declared.Edges.{Edges}
use Rattle.division.specs.Words.{◌≤ᶻ◌, ◌<ᶻ◌, ◌<?◌}
use Rattle.division.specs.Table.{width, height, rows, columns}
use Rattle.division.specs.Grid.{millimetres, area, west_of, north_of}
use Rattle.division.specs.Cover.{columns_in, rows_in}
use Rattle.division.specs.Given.{Seen, span_of}
use Rattle.division.proofs.TestLaws.{both, from-pos, after-pos, pos-minus, same-leb}
use Rattle.division.proofs.GridLaws.{some-width, some-height, all-columns, all-rows, high-in, north-is}
use Rattle.division.proofs.SpanLaws.{Spans, meets, Stretch, span_run}

-- the edges of a window in the area, as plain numbers
record Bounds (w : Edges) : Type 0 where
  west : ℕ
  east : ℕ
  south : ℕ
  north : ℕ
  is : w ≡ record { west = pos west; east = pos east; south = pos south; north = pos north }
  west-in : 200_000_000 ≤ west
  wide : west < east
  east-in : east ≤ 800_000_000
  south-in : 4_570_000_000 ≤ south
  high : south < north
  north-in : north ≤ 5_170_000_000

bounds : {s : ℕ} {w : Edges} → Seen s w → Bounds w
bounds {s} {w} h =
    let o = both (w.west <ᶻ w.east) (w.south <ᶻ w.north) h.window in
    let i = both (area.west ≤ᶻ w.west && w.east ≤ᶻ area.east) (area.south ≤ᶻ w.south && w.north ≤ᶻ area.north) h.inside in
    let x = both (area.west ≤ᶻ w.west) (w.east ≤ᶻ area.east) i.0 in
    let y = both (area.south ≤ᶻ w.south) (w.north ≤ᶻ area.north) i.1 in
    let a = from-pos w.west x.0 in
    let b = after-pos w.east (rw a.0.is at o.0) in
    let c = from-pos w.south y.0 in
    let d = after-pos w.north (rw c.0.is at o.1) in
    record {
      west = a.0.n;
      east = b.0.n;
      south = c.0.n;
      north = d.0.n;
      is = λ i. record { west = a.0.is i; east = b.0.is i; south = c.0.is i; north = d.0.is i };
      west-in = a.1;
      wide = b.1;
      east-in = leb-true b.0.n 800_000_000 (rw b.0.is at x.1);
      south-in = c.1;
      high = d.1;
      north-in = leb-true d.0.n 5_170_000_000 (rw d.0.is at y.1);
    }

-- the tests of a column and of a row
abbrev pub column_meets : ℕ → Edges → ℕ → Bool
column_meets s w c = west_of s c <ᶻ w.east && w.west <ᶻ west_of s (c + 1)

abbrev pub row_meets : ℕ → Edges → ℕ → Bool
row_meets s w r = north_of s (r + 1) <ᶻ w.north && w.south <ᶻ north_of s r

-- two tests whose facts follow from each other are the same
same : (a b c d : ℕ) → (a < b → c < d) → (c < d → a < b) → ltb a b ≡ ltb c d
same a b c d f g = same-leb (suc a) b (suc c) d f g

module _ {s : ℕ} {w : Edges} (h : Seen s w) where
  -- ---- its edges lie beyond the area's west edge, and before the area's north edge

  -- ---- the stretches between them, and the columns and rows that these meet

  pub across : Stretch (nat_abs (w.west -ℤ area.west)) (nat_abs (w.east -ℤ area.west)) (millimetres (width s))
  across =
      let b = bounds h in
      rw (b.is, pos-minus b.west 200_000_000 b.west-in, pos-minus b.east 200_000_000 (omega (arith, b.west-in, b.wide)))
      (some-width h.scale, (omega (arith, b.west-in, b.wide), omega (arith, b.east-in)))

  pub down : Stretch (nat_abs (area.north -ℤ w.north)) (nat_abs (area.north -ℤ w.south)) (millimetres (height s))
  down =
      let b = bounds h in
      rw (b.is, pos-minus 5_170_000_000 b.north b.north-in, pos-minus 5_170_000_000 b.south (omega (arith, b.north-in, b.high)))
      (some-height h.scale, (omega (arith, b.north-in, b.high), omega (arith, b.south-in)))

  pub columns-run : Spans (columns_in s w) (columns s) (span_of (nat_abs (w.west -ℤ area.west)) (nat_abs (w.east -ℤ area.west)) (millimetres (width s)))
  unfolding columns_in
  columns-run = span_run across (columns s) (all-columns h.scale) (column_meets s w) tests
    where
      tests : (c : ℕ) → c < columns s → column_meets s w c ≡ meets (nat_abs (w.west -ℤ area.west)) (nat_abs (w.east -ℤ area.west)) (millimetres (width s)) c
      tests c l =
          let b = bounds h in
          let g = millimetres (width s) in
          let x = same (200_000_000 + c * g) b.east (c * g) (b.east - 200_000_000) (λ k. omega arith) (λ k. omega arith) in
          let y = same b.west (200_000_000 + (c + 1) * g) (b.west - 200_000_000) ((c + 1) * g) (λ k. omega arith) (λ k. omega arith) in
          rw (b.is, pos-minus b.west 200_000_000 b.west-in, pos-minus b.east 200_000_000 (omega (arith, b.west-in, b.wide)), x, y)

  pub rows_run : Spans (rows_in s w) (rows s) (span_of (nat_abs (area.north -ℤ w.north)) (nat_abs (area.north -ℤ w.south)) (millimetres (height s)))
  unfolding rows_in
  rows_run = span_run down (rows s) (all-rows h.scale) (row_meets s w) tests
    where
      tests : (r : ℕ) → r < rows s → row_meets s w r ≡ meets (nat_abs (area.north -ℤ w.north)) (nat_abs (area.north -ℤ w.south)) (millimetres (height s)) r
      tests r l =
          let b = bounds h in
          let g = millimetres (height s) in
          let m : (r + 1) * g ≤ 600_000_000 = high-in h.scale (r + 1) (omega arith) in
          let d : (r + 1) * g ≡ r * g + g = add-mul r 1 g ∙ omega (arith, one-mul g) in
          let x = same (5_170_000_000 - (r + 1) * g) b.north (5_170_000_000 - b.north) ((r + 1) * g) (λ k. omega arith) (λ k. omega arith) in
          let y = same b.south (5_170_000_000 - r * g) (r * g) (5_170_000_000 - b.south) (λ k. omega arith) (λ k. omega arith) in
          rw (b.is, pos-minus 5_170_000_000 b.north b.north-in, pos-minus 5_170_000_000 b.south (omega (arith, b.north-in, b.high)), north-is s (r + 1) m, north-is s r (omega arith), x, y)
          (and_comm (5_170_000_000 - b.north <? (r + 1) * g) (r * g <? 5_170_000_000 - b.south))
