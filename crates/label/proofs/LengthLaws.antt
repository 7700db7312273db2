-- How long a label is: each field lies between two numbers, and so does its count of digits, once over how a scale is made. Assumes nothing.
use mathlib.Core.Path.{◌≡◌, refl, ap, ◌∙◌}
use mathlib.Core.Bool.{true}
use mathlib.Core.List.{List, [], ◌∷◌, ◌++◌, flat_map}
use Prim.Native.Nat.{ℕ, ◌+◌, ◌*◌, ◌≤◌, ◌<◌}
use native.Mathlib.Omega.{arith}
use lib.ListN.{length, length-append}
use Rattle.division.specs.declared.Place.{Place}
use Rattle.division.specs.Table.{Made, of_area, of_scale, table, table_row, rows_of, columns_of, made}
use Rattle.division.specs.Sheet.{number_in, parent_place, is_sheet, scale_of, index_of, place_of}
use Rattle.division.specs.Given.{IsScale}
use Rattle.division.proofs.MadeLaws.{Sound, On, number-few, on-parent}
use Rattle.division.proofs.TableLaws.{Each, each, rules}
use Rattle.division.proofs.NumberLaws.{ranged, on-grid}
use Rattle.label.specs.Text.{join, digits, without_zeros, decimal}
use Rattle.label.specs.Label.{mark_of, fields_of, label_of}
use Rattle.label.specs.Given.{behind, index_fields}
use Rattle.label.proofs.SizeLaws.{size-rises}

-- ---- fields, each behind a hyphen

pub behind_more : (f : ℕ) (fs : List ℕ) → behind (f ∷ fs) ≡ (45 ∷ decimal f) ++ behind fs
unfolding flat_map
behind_more f fs = refl

pub more-long : (f : ℕ) (fs : List ℕ) → length (behind (f ∷ fs)) ≡ 1 + length (decimal f) + length (behind fs)
more-long f fs = omega (arith, ap length (behind_more f fs), length-append (45 ∷ decimal f) (behind fs))

pub two-long : (a b : ℕ) → length (behind (a ∷ b ∷ [])) ≡ (1 + length (decimal a)) + (1 + length (decimal b))
unfolding flat_map
two-long a b = omega (arith, more-long a (b ∷ []), more-long b [])

-- ---- the fields of a place

-- no field has more than three digits
abbrev pub Short : Made → Type 0
Short (of_area r c) = (100 + r < 1_000) × (c < 1_000)
Short (of_scale s m k) = (k * k < 1_000) × Short m

-- how long the shortest fields are, and the longest
abbrev least : Made → ℕ
least (of_area r c) = (1 + length (decimal 101)) + (1 + length (decimal 1))
least (of_scale s m k) = (1 + length (decimal 1)) + least m

abbrev greatest : Made → ℕ
greatest (of_area r c) = (1 + length (decimal (100 + r))) + (1 + length (decimal c))
greatest (of_scale s m k) = (1 + length (decimal (k * k))) + greatest m

record Lengths (m : Made) (fs : List ℕ) : Type 0 where
  low : least m ≤ length (behind fs)
  high : length (behind fs) ≤ greatest m

lengths : (m : Made) (p : Place) → Sound m → Short m → On m p → Lengths m (fields_of m p)
unfolding fields_of rows_of columns_of
lengths (of_area r c) p s h o =
    let row = 101 + p.row in
    let column = 1 + p.column in
    let x = two-long row column in
    let a : row ≤ 100 + r = omega (arith, o.in_rows) in
    let b : column ≤ c = omega (arith, o.in-columns) in
    record {
      low = omega (arith, size-rises 101 row (omega arith) (omega (arith, h.0)), size-rises 1 column (omega arith) (omega (arith, h.1)));
      high = omega (arith, size-rises row (100 + r) a h.0, size-rises column c b h.1);
    }
lengths (of_scale z m k) p s h o =
    let x = more-long (number_in k p) (fields_of m (parent_place k p)) in
    let u = lengths m (parent_place k p) s.1 h.1 (on-parent z m k p s.0 o) in
    let a : number_in k p ≤ k * k = number-few k s.0 p in
    record {
      low = omega (arith, u.low, size-rises 1 (number_in k p) (omega arith) (omega (arith, h.0)));
      high = omega (arith, u.high, size-rises (number_in k p) (k * k) a h.0);
    }

-- ---- the nine scales

pub record Sizes (s : ℕ) : Type 0 where
  pub mark-few : mark_of s < 1_000
  pub short : Short (made s)
  pub shortest : 8 ≤ length (decimal (mark_of s)) + least (made s)
  pub longest : length (decimal (mark_of s)) + greatest (made s) ≤ 16

nine : Each Sizes 9
unfolding table table_row rows_of columns_of mark_of decimal digits without_zeros
nine = search (refl, tt, arith)

pub sizes : {s : ℕ} → IsScale s → Sizes s
sizes {s} h = each Sizes 9 nine s h.one h.nine

-- ---- the label of a sheet: the first number, and the fields behind it

pub label_is : (n : ℕ) → label_of n ≡ decimal (mark_of (scale_of n)) ++ behind (index_fields (scale_of n) (index_of n))
unfolding label_of join
label_is n = refl

module _ (n : ℕ) (h : is_sheet n ≡ true) where
  own : Sizes (scale_of n)
  own = sizes (ranged n h).scale

  between-these : Lengths (made (scale_of n)) (index_fields (scale_of n) (index_of n))
  between-these =
      let o = on-grid n h in
      lengths (made (scale_of n)) (place_of n) (rules o.scale).sound own.short (record { in_rows = o.in_rows; in-columns = o.in-columns })

  pub label-long : length (label_of n) ≡ length (decimal (mark_of (scale_of n))) + length (behind (index_fields (scale_of n) (index_of n)))
  label-long = ap length (label_is n) ∙ length-append (decimal (mark_of (scale_of n))) (behind (index_fields (scale_of n) (index_of n)))

  pub label-low : 8 ≤ length (label_of n)
  label-low = omega (arith, label-long, between-these.low, own.shortest)

  pub label-high : length (label_of n) ≤ 16
  label-high = omega (arith, label-long, between-these.high, own.longest)
