-- Each point of the area lies in exactly one sheet of each scale, and a sheet's ground determines the sheet: dividing a distance by a
-- width names the one multiple of the width at or below it. Assumes nothing.
use mathlib.Core.Path.{◌≡◌, sym, ap, ◌∙◌, subst}
use mathlib.Core.Bool.{true, false}
use Prim.Native.Nat.{ℕ, ◌+◌, ◌-◌, ◌*◌, ◌/◌, ◌≤◌, ◌<◌}
use native.Mathlib.Nat.{div-add-mod', mod-lt, div-eq_of_lt-le}
use native.Mathlib.Omega.{arith}
use borrow.Author.Tests.{le-leb, lt-ltb, leb-true, ltb-true}
use lib.IntN.{ℤ, pos}
use Rattle.refusal.specs.Paper.{answer}
use Rattle.refusal.proofs.PaperLaws.{passed, same_answer}
use Rattle.division.specs.declared.Place.{Place}
use Rattle.division.specs.Table.{is_scale, width, height}
use Rattle.division.specs.Grid.{millimetres, area, owns, column_at, row_at, west_of, north_of, edges_of}
use Rattle.division.specs.Sheet.{is_sheet, sheet_of, scale_of, place_of, ground_of, sheet_at}
use Rattle.division.specs.Given.{IsScale, OnGrid, Inside}
use Rattle.division.specs.Theorems.{Holds}
use Rattle.division.proofs.TestLaws.{from-pos, after-pos}
use Rattle.division.proofs.TableLaws.{scale, is-scale}
use Rattle.division.proofs.NumberLaws.{on-grid, sheet-place, scale-sheet, place-sheet, is-sheet}
use Rattle.division.proofs.GridLaws.{some-width, some-height, wide-in, high-in, north-is, column-is, row_is}
use Rattle.division.proofs.PointLaws.{owned, inside, x, y, point-on}
use Rattle.division.proofs.MadeLaws.{place}

-- ---- the ground of a place as plain numbers

abbrev pub westℕ : ℕ → Place → ℕ
westℕ s p = 200_000_000 + p.column * millimetres (width s)

abbrev pub northℕ : ℕ → Place → ℕ
northℕ s p = 5_170_000_000 - p.row * millimetres (height s)

pub record Lies (s : ℕ) (p : Place) (e n : ℕ) : Type 0 where
  pub west : westℕ s p ≤ e
  pub east : e < westℕ s p + millimetres (width s)
  pub south : northℕ s p < n + millimetres (height s)
  pub north : n ≤ northℕ s p

module _ {s : ℕ} (p : Place) (o : OnGrid s p) where
  wide : (p.column + 1) * millimetres (width s) ≤ 600_000_000
  wide = wide-in o.scale (p.column + 1) (omega (arith, o.in-columns))

  high : (p.row + 1) * millimetres (height s) ≤ 600_000_000
  high = high-in o.scale (p.row + 1) (omega (arith, o.in_rows))

  -- the point, as plain numbers, lies in the ground exactly if the ground owns it
  pub lies-owns : (e n : ℕ) → Lies s p e n → owns (edges_of s p) (pos e) (pos n) ≡ true
  unfolding edges_of
  lies-owns e n l =
      let w : 200_000_000 + p.column * millimetres (width s) ≤ e = l.west in
      let x : e < 200_000_000 + (p.column + 1) * millimetres (width s) = omega (arith, l.east) in
      let b : 5_170_000_000 - (p.row + 1) * millimetres (height s) < n = omega (arith, l.south, high) in
      rw (north-is s (p.row + 1) high, north-is s p.row (omega (arith, high)), le-leb (200_000_000 + p.column * millimetres (width s)) e w, lt-ltb e (200_000_000 + (p.column + 1) * millimetres (width s)) x, lt-ltb (5_170_000_000 - (p.row + 1) * millimetres (height s)) n b)
      (le-leb n (northℕ s p) l.north)

  pub record Lying (e n : ℤ) : Type 0 where
    pub e0 : ℕ
    pub n0 : ℕ
    pub east-is : e ≡ pos e0
    pub north-is0 : n ≡ pos n0
    pub lies : Lies s p e0 n0

  pub owns-lies : (e n : ℤ) → owns (edges_of s p) e n ≡ true → Lying e n
  unfolding edges_of
  owns-lies e n h =
      let t = owned (west_of s p.column) (west_of s (p.column + 1)) (north_of s (p.row + 1)) (north_of s p.row) e n h in
      let x = from-pos e t.west in
      let y = after-pos n (rw (north-is s (p.row + 1) high) at t.south) in
      let a = ltb-true x.0.n (200_000_000 + (p.column + 1) * millimetres (width s)) (rw x.0.is at t.east) in
      let b = leb-true y.0.n (northℕ s p) (rw (north-is s p.row (omega (arith, high)), y.0.is) at t.north) in
      record {
        e0 = x.0.n;
        n0 = y.0.n;
        east-is = x.0.is;
        north-is0 = y.0.is;
        lies = record { west = x.1; east = omega (arith, a); south = omega (arith, y.1, high); north = b };
      }

-- ---- dividing by a size

-- a number lies between its quotient's multiples, and between no other's
quotient : (x w : ℕ) → 0 < w → (x / w * w ≤ x) × (x < x / w * w + w)
quotient x w h = (omega (arith, div-add-mod' x w), omega (arith, div-add-mod' x w, mod-lt x h))

quotient-only : (x w q : ℕ) → q * w ≤ x → x < q * w + w → x / w ≡ q
quotient-only x w q a b = div-eq_of_lt-le w a (omega arith)

-- ---- the sheet of a point

-- a point of the area lies at its row and column
point-lies : {s : ℕ} (e n : ℕ) → IsScale s → 200_000_000 ≤ e → n ≤ 5_170_000_000 → Lies s (record { row = (5_170_000_000 - n) / millimetres (height s); column = (e - 200_000_000) / millimetres (width s) }) e n
point-lies {s} e n h a b =
    let c = quotient (e - 200_000_000) (millimetres (width s)) (some-width h) in
    let r = quotient (5_170_000_000 - n) (millimetres (height s)) (some-height h) in
    record { west = omega (arith, c.0); east = omega (arith, c.1); south = omega (arith, r.0, r.1); north = omega (arith, r.0) }

pub point-owned : {s : ℕ} (e n : ℤ) (i : Inside s e n) → owns (edges_of s (record { row = row_at s n; column = column_at s e })) e n ≡ true
point-owned {s} e n i =
    let a = x i in
    let b = y i in
    let c : column_at s e ≡ (a.n - 200_000_000) / millimetres (width s) = ap (column_at s) a.is ∙ column-is s a.n a.from in
    let r : row_at s n ≡ (5_170_000_000 - b.n) / millimetres (height s) = ap (row_at s) b.is ∙ row_is s b.n b.to in
    let p : Place = record { row = (5_170_000_000 - b.n) / millimetres (height s); column = (a.n - 200_000_000) / millimetres (width s) } in
    let o : OnGrid s p = rw (r, c) at (point-on i) in
    let h : owns (edges_of s p) (pos a.n) (pos b.n) ≡ true = lies-owns p o a.n b.n (point-lies a.n b.n i.scale a.from b.to) in
    subst (λ (q : Place). owns (edges_of s q) e n ≡ true) (sym (place r c)) (subst (λ (v : ℤ). owns (edges_of s p) v n ≡ true) (sym a.is) (subst (λ (v : ℤ). owns (edges_of s p) (pos a.n) v ≡ true) (sym b.is) h))

in_area : {e n : ℤ} {x y : ℕ} → e ≡ pos x → n ≡ pos y → 200_000_000 ≤ x → x < 800_000_000 → 4_570_000_000 < y → y ≤ 5_170_000_000 → owns area e n ≡ true
in_area {x = x} {y = y} f g a b c d =
    rw (f, g, le-leb 200_000_000 x a, lt-ltb x 800_000_000 b, lt-ltb 4_570_000_000 y c) (le-leb y 5_170_000_000 d)

-- a place that owns a point is the point's place, and the point is in the area
pub record Owner (s : ℕ) (p : Place) (e n : ℤ) : Type 0 where
  pub in_area : owns area e n ≡ true
  pub column : column_at s e ≡ p.column
  pub row : row_at s n ≡ p.row

pub owner : {s : ℕ} (p : Place) → OnGrid s p → (e n : ℤ) → owns (edges_of s p) e n ≡ true → Owner s p e n
owner {s} p o e n h =
    let l = owns-lies p o e n h in
    let t = l.lies in
    let a : 200_000_000 ≤ l.e0 = omega (arith, t.west) in
    let b : l.e0 < 800_000_000 = omega (arith, t.east, wide p o) in
    let c : 4_570_000_000 < l.n0 = omega (arith, t.south, high p o) in
    let d : l.n0 ≤ 5_170_000_000 = omega (arith, t.north) in
    record {
      in_area = in_area l.east-is l.north-is0 a b c d;
      column = ap (column_at s) l.east-is ∙ column-is s l.e0 a ∙ quotient-only (l.e0 - 200_000_000) (millimetres (width s)) p.column (omega (arith, t.west)) (omega (arith, t.west, t.east));
      row = ap (row_at s) l.north-is0 ∙ row_is s l.n0 d ∙ quotient-only (5_170_000_000 - l.n0) (millimetres (height s)) p.row (omega (arith, t.north, high p o)) (omega (arith, t.south, t.north, high p o));
    }

-- ---- the theorems

-- a point of the area gets a sheet of the scale
pub answered : {s : ℕ} (e n : ℤ) → IsScale s → owns area e n ≡ true → sheet_at s e n ≡ answer (sheet_of s (record { row = row_at s n; column = column_at s e }))
unfolding sheet_at
answered e n h o = rw (is-scale h, o)

-- a sheet owns a point exactly if it is the answer for that point at its scale: the answer's corners are around the point
pub owns-answers : (k : ℕ) (e n : ℤ) → is_sheet k ≡ true → owns (ground_of k) e n ≡ true → sheet_at (scale_of k) e n ≡ answer k
owns-answers k e n h g =
    let o = on-grid k h in
    let w = owner (place_of k) o e n g in
    answered e n o.scale w.in_area ∙ ap (λ (p : Place). answer (sheet_of (scale_of k) p)) (place w.row w.column) ∙ ap answer (sheet-place k h)

tests : (s : ℕ) {k : ℕ} (e n : ℤ) → sheet_at s e n ≡ answer k → (is_scale s ≡ true) × (owns area e n ≡ true) × (sheet_of s (record { row = row_at s n; column = column_at s e }) ≡ k)
unfolding sheet_at
tests s e n a =
    let t = passed 2 (is_scale s) _ a in
    let u = passed 1 (owns area e n) _ t.1 in
    (t.0, u.0, same_answer u.1)

pub answers-holds : {s : ℕ} {k : ℕ} (e n : ℤ) → sheet_at s e n ≡ answer k → Holds s e n k
answers-holds {s} {k} e n a =
    let t = tests s e n a in
    let i = inside (scale s t.0) e n t.1 in
    let o = point-on i in
    subst (Holds s e n) t.2 (record {
      sheet = is-sheet o;
      scale = scale-sheet o;
      ground = subst (λ (q : ℕ). owns (edges_of q (place_of (sheet_of s (record { row = row_at s n; column = column_at s e })))) e n ≡ true) (sym (scale-sheet o)) (subst (λ (q : Place). owns (edges_of s q) e n ≡ true) (sym (place-sheet o)) (point-owned e n i));
    })

-- a sheet that holds a point of its scale is the one that is answered, at the point's row and column; so no other holds it
module _ {s k : ℕ} {e n : ℤ} (h : Holds s e n k) where
  pub holder : Owner s (place_of k) e n
  holder = subst (λ (t : ℕ). Owner t (place_of k) e n) h.scale (owner (place_of k) (on-grid k h.sheet) e n h.ground)

  pub holds-answers : sheet_at s e n ≡ answer k
  holds-answers = subst (λ (t : ℕ). sheet_at t e n ≡ answer k) h.scale (owns-answers k e n h.sheet h.ground)

pub one-sheet : {s j k : ℕ} {e n : ℤ} → Holds s e n j → Holds s e n k → j ≡ k
one-sheet h l = same_answer (sym (holds-answers h) ∙ holds-answers l)

-- "Each point of the area lies in exactly one sheet of each scale": the one that is answered
pub each-point-in-one-sheet : (s : ℕ) (e n : ℤ) → is_scale s ≡ true → owns area e n ≡ true → (k : ℕ) × (sheet_at s e n ≡ answer k) × Holds s e n k × ((j : ℕ) → Holds s e n j → j ≡ k)
each-point-in-one-sheet s e n h o =
    let a = answered e n (scale s h) o in
    let k = sheet_of s (record { row = row_at s n; column = column_at s e }) in
    (k, a, answers-holds e n a, λ j g. one-sheet g (answers-holds e n a))

-- a point outside the area lies in no sheet
pub outside-in-none : (s : ℕ) (e n : ℤ) (k : ℕ) → owns area e n ≡ false → Holds s e n k → ⊥
outside-in-none s e n k o g =
    let t = (holder g).in_area in
    let z : ◌≡◌ {A = ℕ} 0 1 = cc in
    omega arith
