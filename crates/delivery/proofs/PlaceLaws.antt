-- Where a sheet stands in a cover: its row and column on the grid, less those at which the cover begins. Assumes nothing.
use mathlib.Core.Path.{◌≡◌, refl, sym, ap, ap₂, ◌∙◌, subst}
use mathlib.Core.Bool.{Bool, true, false, cond}
use Prim.Native.Nat.{ℕ, ◌+◌, ◌-◌, ◌/◌, ◌%◌, ◌≤◌, ◌<◌}
use native.Mathlib.Nat.{div-add-mod', mod-lt}
use native.Mathlib.Omega.{arith}
use borrow.Author.Tests.{leb-true, ltb-true, le-leb, lt-ltb}
use lib.ListN.{length, get_or}
use lib.Arith.{digits_lt, digits_div, digits_mod}
use Rattle.std.specs.Prelude.{Option, Some, None, Result, Ok, Err}
use Rattle.std.specs.Result.{result_unwrap_or}
use Rattle.refusal.specs.declared.Refusal.{Refusal}
use Rattle.refusal.specs.Paper.{answer}
use Rattle.refusal.specs.Numbers.{paper}
use Rattle.refusal.proofs.PaperLaws.{same_answer, differs, on-paper}
use Rattle.division.specs.declared.Place.{Place}
use Rattle.division.specs.declared.cover.Block.{Block}
use Rattle.division.specs.Words.{between}
use Rattle.division.specs.Table.{made, first, last}
use Rattle.division.specs.Sheet.{is_sheet, scale_of, place_at, place_of, sheet_of, sheet_on}
use Rattle.division.specs.Given.{Indexed}
use Rattle.division.proofs.TestLaws.{both, between_in}
use Rattle.division.proofs.MadeLaws.{quot}
use Rattle.division.proofs.TableLaws.{rules}
use Rattle.division.proofs.NumberLaws.{Ranged, in-range, of-scale, sheet-place, scale-sheet, place-sheet, is-sheet, sheet-there}
use Rattle.division.proofs.BlockLaws.{sheet_in, length-spans, some, placed, at-index}
use Rattle.delivery.specs.Given.{InGrid, sheets_of, count_of, has_place, block_place, place_in, Stands, IsPlaceIn, IsPlaceOf}

-- what the test of a place says
pub record InBlock (b : Block) (p : Place) : Type 0 where
  pub top : b.down.first ≤ p.row
  pub bottom : p.row < b.down.first + b.down.count
  pub left : b.across.first ≤ p.column
  pub right : p.column < b.across.first + b.across.count

pub in_block : (b : Block) (p : Place) → has_place b p ≡ true → InBlock b p
in_block b p e =
    let q = both _ _ e in
    let r = both _ _ q.0 in
    let c = both _ _ q.1 in
    record {
      top = leb-true b.down.first p.row r.0;
      bottom = ltb-true p.row (b.down.first + b.down.count) r.1;
      left = leb-true b.across.first p.column c.0;
      right = ltb-true p.column (b.across.first + b.across.count) c.1;
    }

has-place : (b : Block) (p : Place) → InBlock b p → has_place b p ≡ true
has-place b p i =
    rw (le-leb b.down.first p.row i.top, lt-ltb p.row (b.down.first + b.down.count) i.bottom, le-leb b.across.first p.column i.left, lt-ltb p.column (b.across.first + b.across.count) i.right)

-- as far down and across as the block goes, and so before its end
across-in : {b : Block} {p : Place} → InBlock b p → p.column - b.across.first < b.across.count
across-in i = omega (arith, i.left, i.right)

pub in-cover : {b : Block} {p : Place} → InBlock b p → block_place b p < count_of b
in-cover i = digits_lt (omega (arith, i.top, i.bottom)) (across-in i)

pub clash : {t : Bool} → t ≡ true → t ≡ false → ⊥
clash e f = let z : ◌≡◌ {A = ℕ} 0 1 = cc in omega arith

module _ {s : ℕ} {b : Block} (f : InGrid s b) where
  pub length-is : length (sheets_of s b) ≡ count_of b
  length-is = length-spans s b.down b.across

  -- the sheet that a place's row and column have
  pub sheet-there-is : (i : ℕ) → i < count_of b → sheet_on s (record { row = b.down.first + i / b.across.count; column = b.across.first + i % b.across.count }) ≡ answer (get_or (sheets_of s b) i 0)
  sheet-there-is i l = sheet-there _ (placed f i l) ∙ ap answer (sym (at-index f i l))

  pub sheet-there-told : (i : ℕ) → i < count_of b → (r : Result ℕ Refusal) → paper r ≡ sheet_on s (record { row = b.down.first + i / b.across.count; column = b.across.first + i % b.across.count }) → result_unwrap_or r 0 ≡ get_or (sheets_of s b) i 0
  sheet-there-told i l (Ok k) e = same_answer (e ∙ sheet-there-is i l)
  sheet-there-told i l (Err why) e = absurd (differs (sym (sheet-there-is i l) ∙ sym e ∙ (on-paper why).is ℕ))

  -- the sheet at a place of the cover is of the scale, and in the row and the column that the place tells
  record At (sheet i : ℕ) : Type 0 where
    sheet-is : is_sheet sheet ≡ true
    scale-is : scale_of sheet ≡ s
    row_is : (place_of sheet).row ≡ b.down.first + i / b.across.count
    column-is : (place_of sheet).column ≡ b.across.first + i % b.across.count

  at_place : (sheet i : ℕ) → i < length (sheets_of s b) → get_or (sheets_of s b) i 0 ≡ sheet → At sheet i
  at_place sheet i h e =
      let l : i < count_of b = omega (arith, length-is) in
      let o = placed f i l in
      subst At' (sym (at-index f i l) ∙ e) (record { sheet-is = is-sheet o; scale-is = scale-sheet o; row_is = ap (λ (p : Place). p.row) (place-sheet o); column-is = ap (λ (p : Place). p.column) (place-sheet o) })
    where
      At' : ℕ → Type 0
      At' k = At k i

  -- so the test finds it there, and it has no other place
  found-there : (sheet i : ℕ) → i < length (sheets_of s b) → At sheet i → InBlock b (place_of sheet)
  found-there sheet i h a =
      let l : i < count_of b = omega (arith, length-is) in
      record {
        top = omega (arith, a.row_is);
        bottom = omega (arith, a.row_is, quot (some f i l) l);
        left = omega (arith, a.column-is);
        right = omega (arith, a.column-is, mod-lt i (some f i l));
      }

  only-place : (sheet i : ℕ) → At sheet i → i ≡ block_place b (place_of sheet)
  only-place sheet i a =
      let r : (place_of sheet).row - b.down.first ≡ i / b.across.count = omega (arith, a.row_is) in
      let c : (place_of sheet).column - b.across.first ≡ i % b.across.count = omega (arith, a.column-is) in
      rw (r, c) (sym (div-add-mod' i b.across.count))

  -- ---- where a sheet stands

  module _ (sheet : ℕ) where
    stands-nowhere : ((i : ℕ) → i < length (sheets_of s b) → At sheet i → ⊥) → Stands (sheets_of s b) sheet (count_of b)
    stands-nowhere none = record {
      few = omega (arith, length-is);
      is = λ h. absurd (omega (arith, length-is));
      only = λ i h g. absurd (none i h (at_place sheet i h g));
    }

    pub stands-outside : between (first s) (last s) sheet ≡ false → Stands (sheets_of s b) sheet (count_of b)
    stands-outside e = stands-nowhere (λ i h a. clash (of-scale s sheet f.scale a.sheet-is a.scale-is) e)

    -- a number of the scale is a sheet, with its index and its place
    module _ (e : between (first s) (last s) sheet ≡ true) where
      r : Ranged s sheet
      r = let b = between_in (first s) (last s) sheet e in record { scale = f.scale; low = b.0; high = omega (arith, b.1, (rules f.scale).some) }

      pub from_first : first s ≤ sheet
      from_first = r.low

      pub indexed-so : Indexed s (sheet - first s)
      indexed-so = record { scale = f.scale; in-sheets = omega (arith, r.low, r.high) }

      of-s : scale_of sheet ≡ s
      of-s = in-range s sheet f.scale e

      is-sheet-so : is_sheet sheet ≡ true
      is-sheet-so = le-leb sheet 7_953_173 (omega (arith, r.high, (rules f.scale).low))

      place-so : place_at (made s) (sheet - first s) ≡ place_of sheet
      place-so = ap (λ (t : ℕ). place_at (made t) (sheet - first t)) (sym of-s)

      module _ (i : InBlock b (place_of sheet)) where
        here : get_or (sheets_of s b) (block_place b (place_of sheet)) 0 ≡ sheet
        here =
            let row : b.down.first + block_place b (place_of sheet) / b.across.count ≡ (place_of sheet).row = ap (λ (n : ℕ). b.down.first + n) (digits_div ((place_of sheet).row - b.down.first) (across-in i)) ∙ omega (arith, i.top) in
            let column : b.across.first + block_place b (place_of sheet) % b.across.count ≡ (place_of sheet).column = ap (λ (n : ℕ). b.across.first + n) (digits_mod ((place_of sheet).row - b.down.first) (across-in i)) ∙ omega (arith, i.left) in
            at-index f (block_place b (place_of sheet)) (in-cover i) ∙ ap₂ (sheet_in s) row column ∙ subst (λ (t : ℕ). sheet_of t (place_of sheet) ≡ sheet) of-s (sheet-place sheet is-sheet-so)

        stands-inside : Stands (sheets_of s b) sheet (block_place b (place_of sheet))
        stands-inside = record {
          few = omega (arith, in-cover i, length-is);
          is = λ h. here;
          only = λ i h g. only-place sheet i (at_place sheet i h g);
        }

      pub stands-so : (p : Place) → p ≡ place_at (made s) (sheet - first s) → Stands (sheets_of s b) sheet (place_in b p)
      stands-so p g = rw (g, place-so) (by (has_place b (place_of sheet)) refl)
        where
          by : (t : Bool) → has_place b (place_of sheet) ≡ t → Stands (sheets_of s b) sheet (cond t (block_place b (place_of sheet)) (count_of b))
          by true g = stands-inside (in_block b (place_of sheet) g)
          by false g = stands-nowhere (λ i h a. clash (has-place b (place_of sheet) (found-there sheet i h a)) g)

      -- and where a sheet that stands nowhere has no place
      pub stands-told : (p : Place) {r : Option ℕ} → p ≡ place_at (made s) (sheet - first s) → IsPlaceIn b p r → IsPlaceOf (sheets_of s b) sheet r
      stands-told p g q = subst (IsPlaceOf (sheets_of s b) sheet) (sym q) (by (has_place b p) refl (stands-so p g))
        where
          by : (t : Bool) → has_place b p ≡ t → Stands (sheets_of s b) sheet (cond t (block_place b p) (count_of b)) → IsPlaceOf (sheets_of s b) sheet (cond t (Some (block_place b p)) None)
          by true h t = (rw length-is (in-cover (in_block b p h)), t)
          by false h t = rw length-is t
