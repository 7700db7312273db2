-- A scale and its parent's: a place lies in its parent's place, an index in its parent's index. Assumes nothing.
use mathlib.Core.Path.{◌≡◌, refl, sym, ap, ◌∙◌, subst}
use Rattle.std.specs.Prelude.{Option, None, Some, unwrap_or}
use Prim.Native.Nat.{ℕ, zero, suc, ◌+◌, ◌-◌, ◌*◌, ◌/◌, ◌%◌, ◌≤◌, ◌<◌}
use native.Mathlib.Nat.{mod-lt, mul-pos, mul-add, mul_comm, mul_assoc, mul-le-mul, mul-le-mul_right, le-mul_of_pos_right, le_trans}
use native.Mathlib.Omega.{arith}
use Rattle.division.specs.declared.Place.{Place}
use Rattle.division.specs.declared.table.Row.{Row}
use Rattle.division.specs.Table.{Made, of_area, of_scale, parent_of, parent_in, table, table_row, rows_of, columns_of, made, rows, columns, parent_scale, side, parts, sheets, first, code_row}
use Rattle.division.specs.Sheet.{number_in, parent_place, child_place, area_index, area_place, part_index, index_at, place_at, sheet_of}
use Rattle.division.specs.Given.{IsScale, OnGrid, Indexed, Parted, PartPlace}
use Rattle.division.proofs.MadeLaws.{Sound, On, quot, number-few, sheets-parts, on-parent, on-place, left_one, left-few}
use Rattle.division.proofs.TableLaws.{grown, rules}
use Rattle.division.proofs.NumberLaws.{index-few}

grown-deep : (s p : ℕ) → (p ≡ 0 → ⊥) → grown s p ≡ of_scale p (made p) (side s)
grown-deep s zero e = absurd (e refl)
grown-deep s (suc p) e = refl

-- ---- a scale that is made from the area

module _ {s : ℕ} (h : IsScale s) (e : parent_scale s ≡ 0) where
  pub top : made s ≡ of_area (rows s) (columns s)
  top = (rules h).grows ∙ ap (grown s) e

  pub some-columns : 0 < columns s
  some-columns = subst Sound top (rules h).sound

  pub top-index : (p : Place) → index_at (made s) p ≡ area_index (columns s) p
  unfolding index_at
  top-index p = ap (λ (m : Made). index_at m p) top

  pub top-place : (i : ℕ) → place_at (made s) i ≡ area_place (columns s) i
  unfolding place_at
  top-place i = ap (λ (m : Made). place_at m i) top

  pub top-few : (p : Place) → OnGrid s p → area_index (columns s) p ≤ 6_000_000
  top-few p o = omega (arith, top-index p, index-few o, (rules h).few)

-- ---- a scale that is made from its parent's

-- the parent by itself, as the code has it
pub at_area : (m : Made) → ((p : ℕ) → parent_in m ≡ Some p → ⊥) → parent_of m ≡ 0
at_area (of_area r c) e = refl
at_area (of_scale s m k) e = absurd (e s refl)

is_none : (m : Made) → parent_in m ≡ None → parent_of m ≡ 0
is_none (of_area r c) e = refl
is_none (of_scale s m k) e = let z : ◌≡◌ {A = ℕ} 0 1 = cc in absurd (omega arith)

at_parent : (m : Made) {p : ℕ} → parent_in m ≡ Some p → p ≡ parent_of m
at_parent (of_area r c) e = let z : ◌≡◌ {A = ℕ} 0 1 = cc in absurd (omega arith)
at_parent (of_scale s m k) e = cc

pub at_most : (m : Made) → unwrap_or (parent_in m) 0 ≡ parent_of m
at_most (of_area r c) = refl
at_most (of_scale s m k) = refl

pub no_parent : (s : ℕ) → parent_in (made s) ≡ None → parent_scale s ≡ 0
no_parent s e = is_none (made s) e

pub the_parent : (s : ℕ) {p : ℕ} → parent_in (made s) ≡ Some p → p ≡ parent_scale s
the_parent s e = at_parent (made s) e

pub some-parent : {s p : ℕ} → IsScale s → parent_in (made s) ≡ Some p → parent_scale s ≡ 0 → ⊥
some-parent {s} {p} h e z =
    let t : ◌≡◌ {A = Option ℕ} None (Some p) = sym (ap parent_in (top h z)) ∙ e in
    let f : ◌≡◌ {A = ℕ} 0 1 = cc in
    omega arith

module _ {s : ℕ} (h : IsScale s) (e : parent_scale s ≡ 0 → ⊥) where
  pub deep : made s ≡ of_scale (parent_scale s) (made (parent_scale s)) (side s)
  deep = (rules h).grows ∙ grown-deep s (parent_scale s) e

  pub above : IsScale (parent_scale s)
  above = record { one = omega arith; nine = omega (arith, h.nine, (rules h).above) }

  pub parted : Parted (side s)
  parted = record { some = (subst Sound deep (rules h).sound).0; few = (rules h).few-parts }

  pub sheets-family : sheets s ≡ sheets (parent_scale s) * parts s
  sheets-family = ap (λ (m : Made). rows_of m * columns_of m) deep ∙ sheets-parts (parent_scale s) (made (parent_scale s)) (side s)

  -- sheets, so many for each of the scale's, by the parent's; and so many for each part of a parent are no more
  pub sheets-by : (n each : ℕ) → n ≡ each * sheets s → n ≡ each * parts s * sheets (parent_scale s)
  sheets-by n each a = a ∙ ap (λ (m : ℕ). each * m) (sheets-family ∙ mul_comm (sheets (parent_scale s)) (parts s)) ∙ sym (mul_assoc each (parts s) (sheets (parent_scale s)))

  pub each-few : (n each : ℕ) → n ≡ each * sheets s → each * parts s ≤ n
  each-few n each a = rw (sheets-by n each a) (le-mul_of_pos_right (each * parts s) (rules above).some)

  rows-family : rows s ≡ rows (parent_scale s) * side s
  unfolding rows_of
  rows-family = ap rows_of deep

  columns-family : columns s ≡ columns (parent_scale s) * side s
  unfolding columns_of
  columns-family = ap columns_of deep

  module _ (p : Place) (o : OnGrid s p) where
    pub parent-on : OnGrid (parent_scale s) (parent_place (side s) p)
    parent-on =
        let u = on-parent (parent_scale s) (made (parent_scale s)) (side s) p parted.some (subst (λ (m : Made). On m p) deep (record { in_rows = o.in_rows; in-columns = o.in-columns })) in
        record { scale = above; in_rows = u.in_rows; in-columns = u.in-columns }

    pub deep-index : index_at (made s) p ≡ part_index (parts s) (index_at (made (parent_scale s)) (parent_place (side s) p)) (number_in (side s) p)
    unfolding index_at
    deep-index = ap (λ (m : Made). index_at m p) deep

  -- a place of the parent's scale has room for its parts
  pub part-place : (up : Place) (number : ℕ) → OnGrid (parent_scale s) up → 1 ≤ number → number ≤ parts s → PartPlace (side s) up number
  part-place up number o one last =
      let r : (up.row + 1) * side s ≤ rows (parent_scale s) * side s = mul-le-mul_right (side s) (omega (arith, o.in_rows)) in
      let q : (up.column + 1) * side s ≤ columns (parent_scale s) * side s = mul-le-mul_right (side s) (omega (arith, o.in-columns)) in
      record {
        parted = parted;
        one = one;
        last = last;
        rows = omega (arith, rows-family, (rules h).few-rows);
        columns = omega (arith, columns-family, (rules h).few-columns);
      }

  module _ (i : ℕ) (x : Indexed s i) where
    pub parent-indexed : Indexed (parent_scale s) (i / parts s)
    parent-indexed = record { scale = above; in-sheets = quot (mul-pos parted.some parted.some) (rw sheets-family at x.in-sheets) }

    pub deep-place : place_at (made s) i ≡ child_place (side s) (place_at (made (parent_scale s)) (i / parts s)) (i % parts s + 1)
    unfolding place_at
    deep-place = ap (λ (m : Made). place_at m i) deep

    pub parent-place-on : OnGrid (parent_scale s) (place_at (made (parent_scale s)) (i / parts s))
    parent-place-on =
        let o = on-place (made (parent_scale s)) (i / parts s) (rules above).sound parent-indexed.in-sheets in
        record { scale = above; in_rows = o.in_rows; in-columns = o.in-columns }

    pub deep_room : PartPlace (side s) (place_at (made (parent_scale s)) (i / parts s)) (i % parts s + 1)
    deep_room = part-place (place_at (made (parent_scale s)) (i / parts s)) (i % parts s + 1) parent-place-on (left_one (side s) i parted.some) (left-few (side s) i parted.some)

-- ---- the index of a place, parent by parent: `index` is what the parts so far make, and `each` how many sheets one at `up` has

pub record Climb (s : ℕ) (p : Place) (t : Row) (at : Place) (index each : ℕ) : Type 0 where
  pub up : ℕ
  pub row : t ≡ code_row up
  pub from : OnGrid s p
  pub on : OnGrid up at
  pub all : sheets s ≡ each * sheets up
  pub whole : index_at (made s) p ≡ index + each * index_at (made up) at

module _ {s : ℕ} {p : Place} {t : Row} {at : Place} {index each : ℕ} (c : Climb s p t at index each) where
  climb-few : index + each * index_at (made c.up) at < 6_000_000
  climb-few = omega (arith, c.whole, index-few c.from, (rules c.from.scale).few)

  -- at the area
  module _ (e : (p : ℕ) → t.parent ≡ Some p → ⊥) where
    top-parent : parent_scale c.up ≡ 0
    top-parent = at_area (made c.up) (rw c.row at e)

    pub climb-area : area_index t.columns at ≤ 6_000_000
    climb-area = rw c.row (top-few c.on.scale top-parent at c.on)

    module _ (top : ℕ) (f : top ≡ area_index t.columns at) where
      at_top : top ≡ index_at (made c.up) at
      at_top = rw c.row at f ∙ sym (top-index c.on.scale top-parent at)

      pub climb-small : index + each * top < 6_000_000
      climb-small = rw at_top climb-few

      pub climb-done : index + each * top ≡ index_at (made s) p
      climb-done = rw at_top (sym c.whole)

  -- below a parent
  module _ {parent : ℕ} (e : t.parent ≡ Some parent) where
    up_is : parent ≡ parent_scale c.up
    up_is = the_parent c.up (rw c.row at e)

    deep-parent : parent_scale c.up ≡ 0 → ⊥
    deep-parent = some-parent c.on.scale (rw c.row at e)

    pub climb-parted : Parted t.side
    climb-parted = rw c.row (parted c.on.scale deep-parent)

    pub climb-up : unwrap_or (parent_in (made parent)) 0 < unwrap_or t.parent 0
    climb-up = rw (e, at_most (made parent), up_is) (rules (above c.on.scale deep-parent)).above

    -- by the parent's index and the number there
    parts_whole : index_at (made s) p ≡ index + each * (number_in (side c.up) at - 1) + each * parts c.up * index_at (made (parent_scale c.up)) (parent_place (side c.up) at)
    parts_whole =
        let k = parts c.up in
        let j = number_in (side c.up) at - 1 in
        let h = index_at (made (parent_scale c.up)) (parent_place (side c.up) at) in
        let d : index_at (made c.up) at ≡ h * k + j = deep-index c.on.scale deep-parent at c.on in
        let w : index_at (made s) p ≡ index + each * (h * k + j) = rw d at c.whole in
        omega (arith, w, mul-add each (h * k) j, mul_comm h k, mul_assoc each k h)

    pub climb-each : each * t.parts ≤ 6_000_000
    climb-each = rw c.row (le_trans (each-few c.on.scale deep-parent (sheets s) each c.all) (rules c.from.scale).few)

    module _ (number : ℕ) (f : number ≡ number_in t.side at) where
      number_is : number ≡ number_in (side c.up) at
      number_is = rw c.row at f

      pub climb-sum : index + each * (number - 1) < 6_000_000
      climb-sum = rw number_is (omega (arith, parts_whole, index-few c.from, (rules c.from.scale).few))

      pub climb-next : (r : Row) (q : Place) → r ≡ code_row parent → q ≡ parent_place t.side at → Climb s p r q (index + each * (number - 1)) (each * t.parts)
      climb-next r q g b = record {
        up = parent_scale c.up;
        row = rw up_is at g;
        from = c.from;
        on = rw (b, c.row) (parent-on c.on.scale deep-parent at c.on);
        all = rw c.row (sheets-by c.on.scale deep-parent (sheets s) each c.all);
        whole = rw (b, number_is, c.row) parts_whole;
      }

-- ---- the ninth scale, which is made from the eighth in 2 × 2

pub ninth-deep : parent_scale 9 ≡ 0 → ⊥
unfolding table table_row
ninth-deep e = omega arith

module _ {p : Place} (o : OnGrid 9 p) where
  pub ninth-up : OnGrid 8 (parent_place 2 p)
  unfolding table table_row
  ninth-up = parent-on o.scale ninth-deep p o

  ninth-index : index_at (made 9) p ≡ index_at (made 8) (parent_place 2 p) * 4 + (number_in 2 p - 1)
  unfolding table table_row
  ninth-index = deep-index o.scale ninth-deep p o

  pub ninth-sheet : {number f index : ℕ} {up : Place} → number ≡ number_in 2 p → up ≡ parent_place 2 p → f ≡ first 9 → index ≡ index_at (made 8) up
      → f + index * 4 + (number - 1) ≡ sheet_of 9 p
  ninth-sheet a b c d = rw (a, c, d, b) (omega (arith, ninth-index))

  pub ninth-few : sheet_of 9 p < 7_953_174
  ninth-few = omega (arith, index-few o, (rules o.scale).low)

-- ---- sums of a part stay small

pub square-few : {k : ℕ} → Parted k → k * k ≤ 625
square-few p = mul-le-mul p.few p.few

pub number_small : {k : ℕ} (p : Place) → Parted k → number_in k p ≤ 625
number_small {k} p h = le_trans (number-few k h.some p) (square-few h)

module _ {k number : ℕ} {up : Place} (h : PartPlace k up number) where
  pub row_small : up.row * k + (number - 1) / k ≤ 3_000
  row_small = omega (arith, quot {k = k} {x = number - 1} {y = k} h.parted.some (omega (arith, h.last, h.one)), h.rows)

  pub column-small : up.column * k + (number - 1) % k ≤ 2_000
  column-small = omega (arith, mod-lt (number - 1) h.parted.some, h.columns)
