-- The fields of a place and the place of fields undo each other, once over how a scale is made. Assumes nothing.
use mathlib.Core.Path.{◌≡◌, refl, sym, ap, ap₂, ◌∙◌}
use mathlib.Core.Bool.{true, ◌&&◌}
use mathlib.Core.List.{List, [], ◌∷◌}
use Prim.Native.Nat.{ℕ, ◌+◌, ◌-◌, ◌*◌, ◌/◌, ◌%◌, ◌≤◌}
use native.Mathlib.Nat.{mod-lt}
use native.Mathlib.Omega.{arith}
use lib.Arith.{digits_lt}
use lib.ListN.{length, get_or, drop}
use Rattle.division.specs.declared.Place.{Place}
use Rattle.division.specs.Words.{between}
use Rattle.division.specs.Table.{Made, of_area, of_scale, rows_of, columns_of}
use Rattle.division.specs.Sheet.{parent_place, part_index, index_at, place_at}
use Rattle.division.proofs.TestLaws.{both, between_in}
use Rattle.division.proofs.MadeLaws.{Sound, On, place, quot, child-parent, parent-child, number-child, left_one, left-few}
use Rattle.label.specs.Text.{every}
use Rattle.label.specs.Label.{fields_of, ranges, in_range, place_from, count_of}

-- ---- from a place to its fields

pub count-fields : (m : Made) (p : Place) → length (fields_of m p) ≡ count_of m
unfolding fields_of count_of
count-fields (of_area r c) p = refl
count-fields (of_scale s m k) p = rw (count-fields m (parent_place k p)) (omega arith)

pub place-fields : (m : Made) (p : Place) → Sound m → place_from m (fields_of m p) ≡ p
unfolding place_from fields_of
place-fields (of_area r c) p s = place (omega arith) (omega arith)
place-fields (of_scale z m k) p s = rw (place-fields m (parent_place k p) s.1) (child-parent k s.0 p)

-- ---- from fields to their place

-- as many are judged as there are to be
pub count-ranges : (m : Made) (fs : List ℕ) → length (ranges m fs) ≡ count_of m
unfolding ranges count_of
count-ranges (of_area r c) fs = refl
count-ranges (of_scale s m k) fs = rw (count-ranges m (drop 1 fs)) (omega arith)

-- what it is to be in range
pub record AreaRange (r c : ℕ) (fs : List ℕ) : Type 0 where
  pub row_low : 101 ≤ get_or fs 0 0
  pub row-high : get_or fs 0 0 ≤ 100 + r
  pub column-low : 1 ≤ get_or fs 1 0
  pub column-high : get_or fs 1 0 ≤ c

pub record PartRange (m : Made) (k : ℕ) (fs : List ℕ) : Type 0 where
  pub one : 1 ≤ get_or fs 0 0
  pub last : get_or fs 0 0 ≤ k * k
  pub above : in_range m (drop 1 fs) ≡ true

pub area-range : (r c : ℕ) (fs : List ℕ) → in_range (of_area r c) fs ≡ true → AreaRange r c fs
unfolding in_range ranges every
area-range r c fs e =
    let b = both (between 101 (100 + r) (get_or fs 0 0)) (between 1 c (get_or fs 1 0) && true) e in
    let x = between_in 101 (100 + r) (get_or fs 0 0) b.0 in
    let y = between_in 1 c (get_or fs 1 0) (both (between 1 c (get_or fs 1 0)) true b.1).0 in
    record { row_low = x.0; row-high = x.1; column-low = y.0; column-high = y.1 }

pub part-range : (s : ℕ) (m : Made) (k : ℕ) (fs : List ℕ) → in_range (of_scale s m k) fs ≡ true → PartRange m k fs
unfolding in_range ranges every
part-range s m k fs e =
    let b = both (between 1 (k * k) (get_or fs 0 0)) (in_range m (drop 1 fs)) e in
    let x = between_in 1 (k * k) (get_or fs 0 0) b.0 in
    record { one = x.0; last = x.1; above = b.1 }

pub on-from : (m : Made) (fs : List ℕ) → Sound m → in_range m fs ≡ true → On m (place_from m fs)
unfolding place_from rows_of columns_of
on-from (of_area r c) fs s e =
    let t = area-range r c fs e in
    record { in_rows = omega (arith, t.row_low, t.row-high); in-columns = omega (arith, t.column-low, t.column-high) }
on-from (of_scale z m k) fs s e =
    let t = part-range z m k fs e in
    let u = on-from m (drop 1 fs) s.1 t.above in
    record { in_rows = digits_lt u.in_rows (quot s.0 (omega (arith, t.one, t.last))); in-columns = digits_lt u.in-columns (mod-lt (get_or fs 0 0 - 1) s.0) }

-- fields in range, as many as there are to be, are the fields of their place
two : (fs : List ℕ) → length fs ≡ 2 → fs ≡ get_or fs 0 0 ∷ get_or fs 1 0 ∷ []
two [] e = absurd (omega arith)
two (a ∷ []) e = absurd (omega arith)
two (a ∷ b ∷ []) e = refl
two (a ∷ b ∷ c ∷ fs) e = absurd (omega arith)

pub fields-place : (m : Made) (fs : List ℕ) → Sound m → in_range m fs ≡ true → length fs ≡ count_of m → fields_of m (place_from m fs) ≡ fs
unfolding place_from fields_of count_of
fields-place (of_area r c) fs s e l =
    let t = area-range r c fs e in
    pair (omega (arith, t.row_low)) (omega (arith, t.column-low)) ∙ sym (two fs l)
  where
    pair : {a b c d : ℕ} → a ≡ c → b ≡ d → a ∷ b ∷ [] ≡ c ∷ d ∷ []
    pair e f = ap₂ (λ (x y : ℕ). x ∷ y ∷ []) e f
fields-place (of_scale z m k) [] s e l = absurd (omega arith)
fields-place (of_scale z m k) (f ∷ fs) s e l =
    let t = part-range z m k (f ∷ fs) e in
    rw (number-child k s.0 (place_from m fs) f t.one t.last, parent-child k s.0 (place_from m fs) f t.one t.last)
    (ap (λ (l : List ℕ). f ∷ l) (fields-place m fs s.1 t.above (omega arith)))

-- ---- fields and indexes, as the code counts

-- the index of the place that fields name: no division is needed
pub index-part : (s : ℕ) (m : Made) (k : ℕ) (fs : List ℕ) → Sound (of_scale s m k) → in_range (of_scale s m k) fs ≡ true → index_at (of_scale s m k) (place_from (of_scale s m k) fs) ≡ part_index (k * k) (index_at m (place_from m (drop 1 fs))) (get_or fs 0 0)
unfolding index_at place_from
index-part s m k fs h e =
    let t = part-range s m k fs e in
    rw (number-child k h.0 (place_from m (drop 1 fs)) (get_or fs 0 0) t.one t.last, parent-child k h.0 (place_from m (drop 1 fs)) (get_or fs 0 0) t.one t.last)

-- the fields of the place of an index
pub fields-area : (r c i : ℕ) → fields_of (of_area r c) (place_at (of_area r c) i) ≡ (101 + i / c) ∷ (1 + i % c) ∷ []
unfolding fields_of place_at
fields-area r c i = refl

pub fields-part : (s : ℕ) (m : Made) (k i : ℕ) → Sound (of_scale s m k) → fields_of (of_scale s m k) (place_at (of_scale s m k) i) ≡ (i % (k * k) + 1) ∷ fields_of m (place_at m (i / (k * k)))
unfolding fields_of place_at
fields-part s m k i h =
    rw (number-child k h.0 (place_at m (i / (k * k))) (i % (k * k) + 1) (left_one k i h.0) (left-few k i h.0), parent-child k h.0 (place_at m (i / (k * k))) (i % (k * k) + 1) (left_one k i h.0) (left-few k i h.0))
