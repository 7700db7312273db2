-- Lengths on the grid, once over the scale: a scale's columns and rows fill the area, and its edges are plain numbers. Assumes nothing.
use mathlib.Core.Path.{◌≡◌}
use mathlib.Core.Bool.{true}
use Prim.Native.Nat.{ℕ, zero, suc, ◌-◌, ◌*◌, ◌/◌, ◌≤◌, ◌<◌}
use native.Mathlib.Nat.{mul-le-mul_right, mul_comm, mul_assoc, zero-mul}
use native.Mathlib.Omega.{arith}
use borrow.Author.Tests.{leb-true, ltb-true}
use lib.IntN.{ℤ, pos}
use Rattle.division.specs.Words.{◌≤ᶻ◌, ◌<ᶻ◌}
use Rattle.division.specs.Table.{width, height, rows, columns}
use Rattle.division.specs.Grid.{millimetres, area, column_at, row_at, north_of}
use Rattle.division.specs.Given.{IsScale}
use Rattle.division.proofs.TestLaws.{from-pos, after-pos, pos-minus}
use Rattle.division.proofs.MadeLaws.{quot}
use Rattle.division.proofs.TableLaws.{rules}

-- a size that so many times is the area's, in millimetres
some_size : (a b : ℕ) → a * b ≡ 600_000 → 0 < millimetres a
some_size zero b e = absurd (omega (arith, zero-mul b, e))
some_size (suc a) b e = omega arith

all-size : (a b : ℕ) → a * b ≡ 600_000 → b * millimetres a ≡ 600_000_000
all-size a b e = omega (arith, mul_comm b a, mul_assoc b a 1_000)

-- where a cell of such a line begins
cell_in : (at count size : ℕ) → at ≤ count → count * size ≡ 600_000_000 → at * size ≤ 600_000_000
cell_in at count size l e = let m : at * size ≤ count * size = mul-le-mul_right size l in omega arith

module _ {s : ℕ} (h : IsScale s) where
  pub some-width : 0 < millimetres (width s)
  some-width = some_size (width s) (columns s) (rules h).wide

  pub some-height : 0 < millimetres (height s)
  some-height = some_size (height s) (rows s) (rules h).high

  pub all-columns : columns s * millimetres (width s) ≡ 600_000_000
  all-columns = all-size (width s) (columns s) (rules h).wide

  pub all-rows : rows s * millimetres (height s) ≡ 600_000_000
  all-rows = all-size (height s) (rows s) (rules h).high

  pub wide-in : (c : ℕ) → c ≤ columns s → c * millimetres (width s) ≤ 600_000_000
  wide-in c l = cell_in c (columns s) (millimetres (width s)) l all-columns

  pub high-in : (r : ℕ) → r ≤ rows s → r * millimetres (height s) ≤ 600_000_000
  high-in r l = cell_in r (rows s) (millimetres (height s)) l all-rows

-- the edge of a row as a plain number
pub north-is : (s r : ℕ) → r * millimetres (height s) ≤ 600_000_000 → north_of s r ≡ pos (5_170_000_000 - r * millimetres (height s))
north-is s r h = pos-minus 5_170_000_000 (r * millimetres (height s)) (omega arith)

-- the column and the row of a point of the area as plain numbers
pub column-is : (s x : ℕ) → 200_000_000 ≤ x → column_at s (pos x) ≡ (x - 200_000_000) / millimetres (width s)
column-is s x h = rw (pos-minus x 200_000_000 h)

pub row_is : (s y : ℕ) → y ≤ 5_170_000_000 → row_at s (pos y) ≡ (5_170_000_000 - y) / millimetres (height s)
row_is s y h = rw (pos-minus 5_170_000_000 y h)

-- an east value and a north value of the area, as plain numbers
pub record East (e : ℤ) : Type 0 where
  pub n : ℕ
  pub is : e ≡ pos n
  pub from : 200_000_000 ≤ n
  pub to : n < 800_000_000

pub record North (y : ℤ) : Type 0 where
  pub n : ℕ
  pub is : y ≡ pos n
  pub from : 4_570_000_000 < n
  pub to : n ≤ 5_170_000_000

pub east : (e : ℤ) → (area.west ≤ᶻ e) ≡ true → (e <ᶻ area.east) ≡ true → East e
east e a b =
    let p = from-pos e a in
    record { n = p.0.n; is = p.0.is; from = p.1; to = ltb-true p.0.n 800_000_000 (rw p.0.is at b) }

pub north : (y : ℤ) → (area.south <ᶻ y) ≡ true → (y ≤ᶻ area.north) ≡ true → North y
north y a b =
    let p = after-pos y a in
    record { n = p.0.n; is = p.0.is; from = p.1; to = leb-true p.0.n 5_170_000_000 (rw p.0.is at b) }

-- their column and their row are on the grid
module _ {s : ℕ} (h : IsScale s) where
  pub column-in : {e : ℤ} → East e → column_at s e < columns s
  column-in x = rw (x.is, column-is s x.n x.from) (quot (some-width h) (omega (arith, all-columns h, x.from, x.to)))

  pub row_in : {y : ℤ} → North y → row_at s y < rows s
  row_in x = rw (x.is, row_is s x.n x.to) (quot (some-height h) (omega (arith, all-rows h, x.from, x.to)))
