-- Place and index undo each other, once over how a scale is made: a place is its parent's place and its number there. Assumes nothing.
use mathlib.Core.Path.{◌≡◌}
use Prim.Native.Nat.{ℕ, ◌+◌, ◌-◌, ◌*◌, ◌/◌, ◌%◌, ◌≤◌, ◌<◌}
use native.Mathlib.Nat.{mod-lt, mul-pos, div-add-mod', div-lt_iff_lt-mul, mul-mul-mul_comm}
use native.Mathlib.Omega.{arith}
use lib.Arith.{digits_lt, digits_div, digits_mod}
use Rattle.division.specs.declared.Place.{Place}
use Rattle.division.specs.Table.{Made, of_area, of_scale, rows_of, columns_of}
use Rattle.division.specs.Sheet.{number_in, parent_place, child_place, index_at, place_at}

pub place : {a b c d : ℕ} → a ≡ c → b ≡ d → ◌≡◌ {A = Place} (record { row = a; column = b }) (record { row = c; column = d })
place e f = λ i. record { row = e i; column = f i }

pub quot : {k x y : ℕ} → 0 < k → x < y * k → x / k < y
quot p h = (div-lt_iff_lt-mul p).1 h

less_one : (x : ℕ) → x + 1 - 1 ≡ x
less_one x = omega arith

-- ---- a part of a parent in k × k

module _ (k : ℕ) (h : 0 < k) where
  pub number-few : (p : Place) → number_in k p ≤ k * k
  number-few p = let l : p.row % k * k + p.column % k < k * k = digits_lt (mod-lt p.row h) (mod-lt p.column h) in omega arith

  pub child-parent : (p : Place) → child_place k (parent_place k p) (number_in k p) ≡ p
  child-parent p =
      place (rw (less_one (p.row % k * k + p.column % k), digits_div (p.row % k) (mod-lt p.column h)) (div-add-mod' p.row k))
      (rw (less_one (p.row % k * k + p.column % k), digits_mod (p.row % k) (mod-lt p.column h)) (div-add-mod' p.column k))

  module _ (up : Place) (number : ℕ) (one : 1 ≤ number) (few : number ≤ k * k) where
    down : (number - 1) / k < k
    down = quot h (omega arith)

    across : (number - 1) % k < k
    across = mod-lt (number - 1) h

    pub parent-child : parent_place k (child_place k up number) ≡ up
    parent-child = place (digits_div up.row down) (digits_div up.column across)

    pub number-child : number_in k (child_place k up number) ≡ number
    number-child = rw (digits_mod up.row down, digits_mod up.column across, div-add-mod' (number - 1) k) (omega arith)

-- ---- a place of a scale

-- no part is empty
abbrev pub Sound : Made → Type 0
Sound (of_area r c) = 0 < c
Sound (of_scale s m k) = (0 < k) × Sound m

pub record On (m : Made) (p : Place) : Type 0 where
  pub in_rows : p.row < rows_of m
  pub in-columns : p.column < columns_of m

abbrev pub sheets_of : Made → ℕ
sheets_of m = rows_of m * columns_of m

pub sheets-parts : (s : ℕ) (m : Made) (k : ℕ) → sheets_of (of_scale s m k) ≡ sheets_of m * (k * k)
unfolding rows_of columns_of
sheets-parts s m k = mul-mul-mul_comm (rows_of m) k (columns_of m) k

pub on-parent : (s : ℕ) (m : Made) (k : ℕ) (p : Place) → 0 < k → On (of_scale s m k) p → On m (parent_place k p)
unfolding rows_of columns_of
on-parent s m k p h o = record { in_rows = quot h o.in_rows; in-columns = quot h o.in-columns }

pub index< : (m : Made) (p : Place) → Sound m → On m p → index_at m p < sheets_of m
unfolding index_at rows_of columns_of
index< (of_area r c) p s o = digits_lt o.in_rows o.in-columns
index< (of_scale z m k) p s o =
    let l : number_in k p - 1 < k * k = omega (arith, number-few k s.0 p) in
    rw (sheets-parts z m k) (digits_lt (index< m (parent_place k p) s.1 (on-parent z m k p s.0 o)) l)

pub place-index : (m : Made) (p : Place) → Sound m → On m p → place_at m (index_at m p) ≡ p
unfolding place_at index_at rows_of columns_of
place-index (of_area r c) p s o = place (digits_div p.row o.in-columns) (digits_mod p.row o.in-columns)
place-index (of_scale z m k) p s o =
    let j = number_in k p - 1 in
    let l : j < k * k = omega (arith, number-few k s.0 p) in
    let n : j + 1 ≡ number_in k p = omega arith in
    rw (digits_div (index_at m (parent_place k p)) l, digits_mod (index_at m (parent_place k p)) l, place-index m (parent_place k p) s.1 (on-parent z m k p s.0 o), n)
    (child-parent k s.0 p)

-- the number that an index leaves in its parent
module _ (k i : ℕ) (h : 0 < k) where
  pub left_one : 1 ≤ i % (k * k) + 1
  left_one = omega arith

  pub left-few : i % (k * k) + 1 ≤ k * k
  left-few = omega (arith, mod-lt i (mul-pos h h))

pub on-place : (m : Made) (i : ℕ) → Sound m → i < sheets_of m → On m (place_at m i)
unfolding place_at rows_of columns_of
on-place (of_area r c) i s l = record { in_rows = quot s l; in-columns = mod-lt i s }
on-place (of_scale z m k) i s l =
    let u : On m (place_at m (i / (k * k))) = on-place m (i / (k * k)) s.1 (quot (mul-pos s.0 s.0) (rw (sheets-parts z m k) at l)) in
    let j : i % (k * k) + 1 - 1 < k * k = omega (arith, left-few k i s.0) in
    record { in_rows = digits_lt u.in_rows (quot s.0 j); in-columns = digits_lt u.in-columns (mod-lt (i % (k * k) + 1 - 1) s.0) }

pub index-place : (m : Made) (i : ℕ) → Sound m → index_at m (place_at m i) ≡ i
unfolding place_at index_at
index-place (of_area r c) i s = div-add-mod' i c
index-place (of_scale z m k) i s =
    rw (parent-child k s.0 (place_at m (i / (k * k))) (i % (k * k) + 1) (left_one k i s.0) (left-few k i s.0), number-child k s.0 (place_at m (i / (k * k))) (i % (k * k) + 1) (left_one k i s.0) (left-few k i s.0), index-place m (i / (k * k)) s.1, less_one (i % (k * k)))
    (div-add-mod' i (k * k))
