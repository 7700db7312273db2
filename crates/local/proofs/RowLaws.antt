-- A municipality's sheets by rows are the same sheets, and rise by their place on the whole grid: so a sheet's number is 1 and how many of
-- them stand before it. Assumes nothing.
use mathlib.Core.Path.{◌≡◌, refl, sym, ap, ◌∙◌, subst}
use mathlib.Core.Bool.{Bool, true}
use mathlib.Core.Logic.{◌↔◌, ◌⊎◌, inl, inr, ⊎_elim}
use mathlib.Core.List.{List, [], ◌∷◌, map, Memᴰ, Pairwise}
use Prim.Native.Nat.{ℕ, ◌+◌, ◌-◌, ◌*◌, ◌/◌, ◌%◌, ◌≤◌, ◌<◌}
use native.Mathlib.Nat.{le_refl, mod-lt}
use native.Mathlib.Omega.{arith}
use native.Mathlib.Numerals.{add-one}
use borrow.Author.Tests.{lt-ltb}
use lib.ListN.{length, get_or, take, set, length-map, length-set}
use lib.Seq.{take-suc, take-set-le, get_or-set_same}
use lib.Arith.{digits_lt, digits_div, digits_mod}
use Rattle.refusal.specs.Paper.{answer}
use Rattle.refusal.specs.Numbers.{is_in}
use Rattle.division.specs.Words.{◌<?◌, from}
use Rattle.division.specs.Table.{table, table_row, made, rows_of, columns_of, rows, columns, first}
use Rattle.division.specs.Grid.{area}
use Rattle.division.specs.Sheet.{place_of, place_at, sheet_of, area_index, area_place, reading_order, sheet_on}
use Rattle.division.specs.Cover.{block, sheets_in, columns_in, rows_in}
use Rattle.division.specs.Given.{OnGrid, Seen}
use Rattle.division.proofs.TestLaws.{le-or-less}
use Rattle.division.proofs.MadeLaws.{place, quot}
use Rattle.division.proofs.TableLaws.{rules}
use Rattle.division.proofs.NumberLaws.{Ranged, ranged, on-grid, sheet-place}
use Rattle.division.proofs.WindowLaws.{columns-run, rows_run}
use Rattle.division.proofs.MemberLaws.{in_mem, mem-in, mem-at, keep-has, has-keep, has-from, has_block}
use Rattle.division.proofs.CoverTheorems.{in_order}
use Rattle.local.specs.Rows.{by_rows, place_in}
use Rattle.municipality.specs.Given.{OfScale}
use Rattle.local.specs.Given.{Municipal, count_below, Reaches, IsNth}
use Rattle.local.proofs.CountLaws.{map_at, count, count-all, count_map, pick_all}
use Rattle.local.proofs.OrderLaws.{RisesBy, rises-apart, keep-rises, smaller, rank, nth-key}
use Rattle.municipality.proofs.JudgeLaws.{seven}
use Rattle.local.proofs.MunicipalityLaws.{few, member-scale, distinct}

-- ---- the whole grid

seen : Seen 7 area
seen = record { scale = seven; window = refl; inside = refl }

pub few-places : rows 7 * columns 7 ≤ 6_000_000
few-places = (rules seven).few

pub some-columns : 0 < columns 7
unfolding table table_row columns_of
some-columns = omega arith

-- its columns and rows are all of them
all-columns : columns_in 7 area ≡ from 0 (columns 7)
unfolding table table_row columns_of
all-columns = (columns-run seen).listed

all-rows : rows_in 7 area ≡ from 0 (rows 7)
unfolding table table_row rows_of
all-rows = (rows_run seen).listed

-- what stands in the order of a grid's rows rises
rises : {l : List ℕ} → Pairwise (λ a b. reading_order a < reading_order b) l → RisesBy reading_order l
rises {l = []} Pairwise.nil = tt
rises {l = x ∷ l} (Pairwise.cons h p) = (λ y m. h y ∣ m ∣₁, rises p)

grid-rises : RisesBy reading_order (sheets_in 7 area)
grid-rises = rises (in_order seen)

module _ {k : ℕ} (d : OfScale 7 k) where
  pub placed-7 : OnGrid 7 (place_of k)
  placed-7 = subst (λ (s : ℕ). OnGrid s (place_of k)) d.scale (on-grid k d.sheet)

  numbered-7 : sheet_of 7 (place_of k) ≡ k
  numbered-7 = subst (λ (s : ℕ). sheet_of s (place_of k) ≡ k) d.scale (sheet-place k d.sheet)

  grid-has : Memᴰ k (sheets_in 7 area)
  grid-has =
      let o = placed-7 in
      let r = has-from 0 (rows 7) (place_of k).row (omega arith) (omega (arith, o.in_rows)) in
      let c = has-from 0 (columns 7) (place_of k).column (omega arith) (omega (arith, o.in-columns)) in
      rw (all-rows, all-columns) (subst (λ (j : ℕ). Memᴰ j (block 7 (from 0 (rows 7)) (from 0 (columns 7)))) numbered-7 (has_block 7 (from 0 (columns 7)) r c))

  -- its order is its row and its column on the grid
  pub order_is : reading_order k ≡ (place_of k).row * columns 7 + (place_of k).column
  order_is = ap (λ (s : ℕ). (place_of k).row * columns s + (place_of k).column) d.scale

  order-in : reading_order k < rows 7 * columns 7
  order-in = rw order_is (digits_lt placed-7.in_rows placed-7.in-columns)

  -- so the order, cut into rows, tells its place
  order-place : (v : ℕ) → reading_order k ≡ v → sheet_of 7 (area_place (columns 7) v) ≡ k
  order-place v e =
      let o = placed-7 in
      let f : v ≡ (place_of k).row * columns 7 + (place_of k).column = sym e ∙ order_is in
      let p : area_place (columns 7) v ≡ place_of k = place (ap (λ (n : ℕ). n / columns 7) f ∙ digits_div (place_of k).row o.in-columns) (ap (λ (n : ℕ). n % columns 7) f ∙ digits_mod (place_of k).row o.in-columns) in
      ap (sheet_of 7) p ∙ numbered-7

  -- ---- worked out from its index: its 1:50 000 sheet, and its place in that

  pub index_in : Ranged 7 k
  index_in = subst (λ (s : ℕ). Ranged s k) d.scale (ranged k d.sheet)

  pub order-parts : (let i = k - first 7 in reading_order k ≡ (i / 625 / 20 * 25 + i % 625 / 25) * 500 + (i / 625 % 20 * 25 + i % 625 % 25))
  unfolding table table_row columns_of place_at
  order-parts =
      let i = k - first 7 in
      let one : i % 625 + 1 - 1 ≡ i % 625 = omega arith in
      ap (λ (s : ℕ). area_index (columns s) (place_at (made s) (k - first s))) d.scale ∙ rw one

pub columns-are : columns 7 ≡ 500
unfolding table table_row columns_of
columns-are = refl

-- of two places in rows of 500 the one with the smaller order is in an earlier row, or in the same row in an earlier column
pub row_first : (a b c d : ℕ) → b < 500 → d < 500 → (a * 500 + b < c * 500 + d) ↔ ((a < c) ⊎ ((a ≡ c) × (b < d)))
row_first a b c d h l =
    (λ e. ⊎_elim (λ g. inr (omega arith, omega arith)) inl (le-or-less c a), λ e. ⊎_elim (λ g. omega arith) (λ g. omega (arith, g.0, g.1)) e)

-- ---- the orders of a list, put one by one

module _ (s all : List ℕ) (i : ℕ) where
  pub put_order : (x : ℕ) → i < length s → i < length all → x ≡ reading_order (get_or s i 0) → take i all ≡ take i (map reading_order s) → take (i + 1) (set all i x) ≡ take (i + 1) (map reading_order s)
  put_order x inside room e same =
      let n : i < length (map reading_order s) = omega (arith, length-map s reading_order) in
      let g : get_or (map reading_order s) i 0 ≡ x = map_at reading_order s i inside ∙ sym e in
      rw (add-one i)
      (take-suc (set all i x) i 0 (omega (arith, length-set all i x)) ∙ rw (take-set-le i all i x (le_refl i), get_or-set_same all i x 0 room, same) (sym (take-suc (map reading_order s) i 0 n ∙ rw g)))

-- ---- a municipality by rows

pub rows-rise : (s : List ℕ) → RisesBy reading_order (by_rows s)
unfolding by_rows
rows-rise s = keep-rises reading_order (is_in s) (sheets_in 7 area) grid-rises

pub from-rows : (s : List ℕ) {k : ℕ} → Memᴰ k (by_rows s) → Memᴰ k s
unfolding by_rows
from-rows s {k} h = in_mem k s (keep-has (is_in s) (sheets_in 7 area) h).1

module _ {s : List ℕ} (m : Municipal s) where
  pub into-rows : {k : ℕ} → Memᴰ k s → Memᴰ k (by_rows s)
  unfolding by_rows
  into-rows {k} h = has-keep (is_in s) (mem-in k h) (grid-has (member-scale m h))

  count-rows : (p : ℕ → Bool) → count p (by_rows s) ≡ count p s
  unfolding by_rows
  count-rows p = pick_all p s (distinct m) (rises-apart reading_order (sheets_in 7 area) grid-rises) (λ y h. grid-has (member-scale m h))

  -- "from 1 to n"
  pub length-rows : length (by_rows s) ≡ length s
  length-rows = sym (count-all (λ k. true) (by_rows s) (λ y h. refl)) ∙ count-rows (λ k. true) ∙ count-all (λ k. true) s (λ y h. refl)

  -- so a sheet's place is how many of the list stand before it
  pub place_is : {k : ℕ} → Memᴰ k s → count (λ x. reading_order x <? reading_order k) s ≡ place_in k (by_rows s)
  place_is {k} h = sym (count-rows (λ x. reading_order x <? reading_order k)) ∙ sym (rank reading_order k (rows-rise s) (into-rows h))

  -- and of the orders, as many are below a bound as sheets stand before it
  below-is : (bound : ℕ) → count_below bound (map reading_order s) ≡ smaller reading_order bound (by_rows s)
  below-is bound = count_map (λ x. x <? bound) reading_order s ∙ sym (count-rows (λ k. reading_order k <? bound))

  nth-is : (n bound v : ℕ) → 1 ≤ n → n ≤ length s → IsNth (map reading_order s) n bound v → sheet_of 7 (area_place (columns 7) v) ≡ get_or (by_rows s) (n - 1) 0
  nth-is n bound v one last t =
      let e : reading_order (get_or (by_rows s) (n - 1) 0) ≡ v = nth-key reading_order (by_rows s) (rows-rise s) n v (omega (arith, below-is v, t.few)) (omega (arith, below-is (v + 1), t.enough)) in
      order-place (member-scale m (from-rows s (mem-at (by_rows s) (n - 1) (omega (arith, length-rows))))) v e

-- a sheet's place by the orders
pub counted-place : (k : ℕ) {s : List ℕ} → Municipal s → is_in s k ≡ true → {at : ℕ} → at ≡ reading_order k → count (λ x. reading_order x <? at) s ≡ place_in k (by_rows s)
counted-place k {s} m one e = rw e (place_is m (in_mem k s one))

-- and the sheet at a place
module _ {n : ℕ} {s : List ℕ} (m : Municipal s) (one : 1 ≤ n) (last : n ≤ length s) (all : List ℕ) (e : take (length s) all ≡ map reading_order s) where
  pub reaches : Reaches (take (length s) all) n (rows 7 * columns 7)
  reaches =
      let low : (k : ℕ) → Memᴰ k s → (reading_order k <? rows 7 * columns 7) ≡ true = λ k h. lt-ltb (reading_order k) (rows 7 * columns 7) (order-in (member-scale m h)) in
      let c : count_below (rows 7 * columns 7) (map reading_order s) ≡ length s = count_map (λ x. x <? rows 7 * columns 7) reading_order s ∙ count-all (λ k. reading_order k <? rows 7 * columns 7) s low in
      record { few = rw e (omega (arith, length-map s reading_order, few m)); one = one; enough = rw e (omega (arith, c, last)) }

  pub sheet-at : {v : ℕ} → IsNth (take (length s) all) n (rows 7 * columns 7) v → sheet_on 7 (area_place (columns 7) v) ≡ answer (get_or (by_rows s) (n - 1) 0)
  unfolding sheet_on
  sheet-at {v} i =
      let r : v / columns 7 < rows 7 = quot some-columns i.low in
      let c : v % columns 7 < columns 7 = mod-lt v some-columns in
      rw (lt-ltb (v / columns 7) (rows 7) r, lt-ltb (v % columns 7) (columns 7) c) (ap answer (nth-is m n (rows 7 * columns 7) v one last (rw e at i)))
