-- A sheet number is a place of a scale: the scales' ranges of numbers follow one another, and within one a place is an index. Assumes nothing.
use mathlib.Core.Path.{◌≡◌, refl, sym, ap, ◌∙◌, subst}
use mathlib.Core.Bool.{Bool, true, false, cond, and-false}
use mathlib.Core.List.{List, ◌∷◌}
use mathlib.Core.Logic.{⊎_elim}
use Prim.Native.Nat.{ℕ, zero, suc, ◌+◌, ◌-◌, ◌≤◌, ◌<◌}
use native.Mathlib.Nat.{zero-add, le_refl, eq-or-lt_of_le, le_of_suc-le-suc}
use native.Mathlib.Omega.{arith}
use borrow.Author.Tests.{le-leb, lt-leb, lt-ltb, leb-true, leb-false, ltb-true}
use lib.ListN.{length, get_or}
use mir.Val.{bool_byte}
use Rattle.refusal.specs.Paper.{answer}
use Rattle.refusal.proofs.PaperLaws.{passed, same_answer}
use Rattle.division.specs.declared.Place.{Place}
use Rattle.division.specs.declared.Spot.{Spot}
use Rattle.division.specs.Words.{◌≤?◌, ◌<?◌, between, from, keep}
use Rattle.division.specs.Table.{table, table_row, rows_of, columns_of, made, rows, columns, sheets, first, last}
use Rattle.division.specs.Sheet.{is_sheet, on_grid, index_at, sheet_of, scale_of, index_of, place_of, spot_of, locate, sheet_on}
use Rattle.division.specs.Given.{IsScale, OnGrid, Indexed}
use Rattle.division.proofs.TestLaws.{both, le-or-less, between_in, in_between}
use Rattle.division.proofs.RangeLaws.{length_from, keep-none, keep-range}
use Rattle.division.proofs.MadeLaws.{On, index<, place-index, on-place, index-place}
use Rattle.division.proofs.TableLaws.{before, rules, all-sheets, is-scale}

-- ---- the scale of a sheet

before-rises : (a b : ℕ) → a ≤ b → before a ≤ before b
before-rises a zero h = let e : a ≡ 0 = omega arith in rw e (le_refl 0)
before-rises a (suc b) h =
    ⊎_elim (λ e. rw e (le_refl (before (suc b)))) (λ k. omega (arith, before-rises a b (le_of_suc-le-suc k))) (eq-or-lt_of_le h)

-- a number in the range of a scale
pub record Ranged (s n : ℕ) : Type 0 where
  pub scale : IsScale s
  pub low : first s ≤ n
  pub high : n < first s + sheets s

module _ (s n : ℕ) (r : Ranged s n) where
  -- the scales up to that one begin at or before it, those behind it do not, and those in front of it end before it
  begun : (c : ℕ) → 1 ≤ c → c ≤ s → (first c ≤? n) ≡ true
  begun c h l =
      let i : IsScale c = record { one = h; nine = omega (arith, r.scale.nine) } in
      le-leb (first c) n (omega (arith, (rules i).begins, (rules r.scale).begins, before-rises c s l, r.low))

  later : (c : ℕ) → s < c → c ≤ 9 → (first c ≤? n) ≡ false
  later c h l =
      let i : IsScale c = record { one = omega arith; nine = l } in
      lt-leb (first c) n (omega (arith, (rules i).begins, (rules r.scale).ends, before-rises (suc s) c h, r.high))

  ended : (c : ℕ) → 1 ≤ c → c < s → (n ≤? last c) ≡ false
  ended c h l =
      let i : IsScale c = record { one = h; nine = omega (arith, r.scale.nine) } in
      lt-leb n (last c) (omega (arith, (rules i).ends, (rules i).some, (rules r.scale).begins, before-rises (suc c) s l, r.low))

  -- so it is a sheet of that scale
  pub scale-is : scale_of n ≡ s
  unfolding scale_of from
  scale-is =
      let e : s - 1 + (1 + (9 - s)) ≡ 9 = omega (arith, r.scale.one, r.scale.nine) in
      let t : 1 + (s - 1) ≡ s = omega (arith, r.scale.one) in
      let k : keep here (from 1 (s - 1 + (1 + (9 - s)))) ≡ from (1 + (s - 1)) 1 = keep-range here 1 (s - 1) 1 (9 - s) front own behind in
      ap (λ (l : List ℕ). get_or l 0 0) (rw (e, t) at k)
    where
      here : ℕ → Bool
      here c = between (first c) (last c) n

      front : (c : ℕ) → 1 ≤ c → c < 1 + (s - 1) → here c ≡ false
      front c h l = rw (ended c h (omega arith)) (and-false (first c ≤? n))

      own : (c : ℕ) → 1 + (s - 1) ≤ c → c < 1 + (s - 1) + 1 → here c ≡ true
      own c h l =
          let e : c ≡ s = omega (arith, r.scale.one) in
          rw (e, begun s r.scale.one (le_refl s), le-leb n (last s) (omega (arith, r.high)))

      behind : (c : ℕ) → 1 + (s - 1) + 1 ≤ c → c < 1 + (s - 1) + 1 + (9 - s) → here c ≡ false
      behind c h l = rw (later c (omega (arith, r.scale.one)) (omega (arith, r.scale.one, r.scale.nine)))

  -- and as many scales begin at or before it as the number of that scale says
  pub begun-are : length (keep (λ c. first c ≤? n) (from 1 9)) ≡ s
  begun-are =
      let e : 0 + (s + (9 - s)) ≡ 9 = omega (arith, r.scale.nine) in
      let k : keep (λ c. first c ≤? n) (from 1 (0 + (s + (9 - s)))) ≡ from (1 + 0) s = keep-range (λ c. first c ≤? n) 1 0 s (9 - s) (λ c h l. absurd (omega arith)) (λ c h l. begun c (omega arith) (omega arith)) (λ c h l. later c (omega arith) (omega (arith, r.scale.nine))) in
      ap length (rw e at k) ∙ length_from 1 s

-- a number behind the last sheet is of no scale
pub no-scale : (n : ℕ) → is_sheet n ≡ false → scale_of n ≡ 0
unfolding scale_of
no-scale n e = ap (λ (l : List ℕ). get_or l 0 0) (keep-none (λ s. between (first s) (last s) n) 1 9 past)
  where
    past : (s : ℕ) → 1 ≤ s → s < 1 + 9 → between (first s) (last s) n ≡ false
    past s h l =
        let i : IsScale s = record { one = h; nine = omega arith } in
        rw (lt-leb n (last s) (omega (arith, leb-false n 7_953_173 e, (rules i).low, (rules i).some))) (and-false (first s ≤? n))

-- the first scale begins at 0, and none is before it
before-one : before 1 ≡ 0
unfolding table table_row rows_of columns_of
before-one = refl

-- every number below the end of a scale is in the range of that scale or of one before it
find : (k n : ℕ) → k ≤ 9 → n < before (suc k) → (s : ℕ) × Ranged s n
find zero n g h = absurd (omega (arith, before-one))
find (suc k) n g h =
    let i : IsScale (suc k) = record { one = omega arith; nine = g } in
    ⊎_elim (λ l. (suc k, record { scale = i; low = l; high = omega (arith, (rules i).ends) }))
    (λ l. find k n (omega arith) (omega (arith, (rules i).begins)))
    (le-or-less (first (suc k)) n)

-- ---- the scales counted one by one

-- how many of the scales from s on begin at or before a number
abbrev pub begun_from : ℕ → ℕ → ℕ
begun_from n s = length (keep (λ c. first c ≤? n) (from s (10 - s)))

pub at_most_one : (b : Bool) → bool_byte b ≤ 1
at_most_one true = omega arith
at_most_one false = omega arith

pub one-asked : (n s : ℕ) → s ≤ 9 → bool_byte (first s ≤? n) + begun_from n (s + 1) ≡ begun_from n s
unfolding from keep
one-asked n s h =
    let e : 10 - s ≡ suc (10 - (s + 1)) = omega arith in
    rw e (by (first s ≤? n))
  where
    rest : List ℕ
    rest = keep (λ c. first c ≤? n) (from (s + 1) (10 - (s + 1)))

    by : (b : Bool) → bool_byte b + length rest ≡ length (cond b (s ∷ rest) rest)
    by true = omega arith
    by false = zero-add (length rest)

pub all_asked : (n s : ℕ) → 9 < s → begun_from n s ≡ 0
unfolding from keep
all_asked n s h = let e : 10 - s ≡ 0 = omega arith in rw e

-- ---- sheet and place undo each other

module _ (n : ℕ) (h : is_sheet n ≡ true) where
  pub ranged : Ranged (scale_of n) n
  ranged =
      let f = find 9 n (le_refl 9) (omega (arith, leb-true n 7_953_173 h, all-sheets)) in
      subst (λ (s : ℕ). Ranged s n) (sym (scale-is f.0 n f.1)) f.1

  pub begun-scales : begun_from n 1 ≡ scale_of n
  begun-scales = begun-are (scale_of n) n ranged

  pub indexed : Indexed (scale_of n) (index_of n)
  indexed = record { scale = ranged.scale; in-sheets = omega (arith, ranged.low, ranged.high) }

  pub on-grid : OnGrid (scale_of n) (place_of n)
  on-grid =
      let o = on-place (made (scale_of n)) (index_of n) (rules ranged.scale).sound indexed.in-sheets in
      record { scale = ranged.scale; in_rows = o.in_rows; in-columns = o.in-columns }

  pub sheet-place : sheet_of (scale_of n) (place_of n) ≡ n
  sheet-place = omega (arith, index-place (made (scale_of n)) (index_of n) (rules ranged.scale).sound, ranged.low)

-- a sheet is of a scale exactly if its number is between the scale's first and last
module _ (s n : ℕ) (i : IsScale s) where
  pub in-range : between (first s) (last s) n ≡ true → scale_of n ≡ s
  in-range e =
      let b = between_in (first s) (last s) n e in
      scale-is s n (record { scale = i; low = b.0; high = omega (arith, b.1, (rules i).some) })

  pub of-scale : is_sheet n ≡ true → scale_of n ≡ s → between (first s) (last s) n ≡ true
  of-scale h f =
      let r : Ranged s n = rw f at (ranged n h) in
      in_between (first s) (last s) n r.low (omega (arith, r.high))

-- the test of a place
pub placed : {s : ℕ} → IsScale s → (p : Place) → on_grid s p ≡ true → OnGrid s p
placed {s} h p e =
    let b = both (p.row <? rows s) (p.column <? columns s) e in
    record { scale = h; in_rows = ltb-true p.row (rows s) b.0; in-columns = ltb-true p.column (columns s) b.1 }

module _ {s : ℕ} {p : Place} (o : OnGrid s p) where
  on : On (made s) p
  on = record { in_rows = o.in_rows; in-columns = o.in-columns }

  pub index-few : index_at (made s) p < sheets s
  index-few = index< (made s) p (rules o.scale).sound on

  sheet-ranged : Ranged s (sheet_of s p)
  sheet-ranged = record { scale = o.scale; low = omega arith; high = omega (arith, index-few) }

  pub scale-sheet : scale_of (sheet_of s p) ≡ s
  scale-sheet = scale-is s (sheet_of s p) sheet-ranged

  pub place-sheet : place_of (sheet_of s p) ≡ p
  place-sheet =
      let e : sheet_of s p - first s ≡ index_at (made s) p = omega arith in
      rw (scale-sheet, e) (place-index (made s) p (rules o.scale).sound on)

  pub is-sheet : is_sheet (sheet_of s p) ≡ true
  is-sheet = le-leb (sheet_of s p) 7_953_173 (omega (arith, index-few, (rules o.scale).low))

-- ---- what is answered of them

-- what is located is a sheet, and where it stands
pub located : (n : ℕ) {at : Spot} → locate n ≡ answer at → (is_sheet n ≡ true) × (at ≡ spot_of n)
unfolding locate
located n e = let p = passed 3 (is_sheet n) _ e in (p.0, sym (same_answer p.1))

-- a place on the grid has its sheet
pub sheet-there : {s : ℕ} (p : Place) → OnGrid s p → sheet_on s p ≡ answer (sheet_of s p)
unfolding sheet_on
sheet-there {s} p o = rw (is-scale o.scale, lt-ltb p.row (rows s) o.in_rows, lt-ltb p.column (columns s) o.in-columns)
