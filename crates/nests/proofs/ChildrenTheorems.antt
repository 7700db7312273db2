-- The children of a sheet fill it: a point's place at their scale lies in its place at the sheet's, so the sheet that holds the point at their
-- scale is one of them, and no other sheet of that scale holds it. They are as many as they go into its width times into its height, so the
-- areas add up. Assumes nothing.
use mathlib.Core.Path.{◌≡◌, sym, ap, ap₂, ◌∙◌, subst}
use mathlib.Core.Bool.{true}
use mathlib.Core.List.{Memᴰ}
use mathlib.Core.Logic.{◌↔◌}
use Prim.Native.Nat.{ℕ, ◌+◌, ◌-◌, ◌*◌, ◌≤◌, ◌<◌}
use native.Mathlib.Nat.{mul_comm, mul-mul-mul_comm}
use native.Mathlib.Omega.{arith}
use lib.IntN.{ℤ}
use lib.ListN.{length}
use Rattle.refusal.specs.Paper.{answer}
use Rattle.division.specs.declared.Place.{Place}
use Rattle.division.specs.Table.{is_scale, width, height, made, parent_scale, side, parts, first}
use Rattle.division.specs.Grid.{millimetres, row_at, column_at}
use Rattle.division.specs.Sheet.{is_sheet, scale_of, index_of, place_of, sheet_of, index_at, part_index, number_in, parent_place}
use Rattle.division.specs.Given.{IsScale, OnGrid}
use Rattle.division.specs.Theorems.{Holds}
use Rattle.division.proofs.MadeLaws.{number-few, parent-child}
use Rattle.division.proofs.TableLaws.{scale, rules}
use Rattle.division.proofs.RangeLaws.{length_from}
use Rattle.division.proofs.MemberLaws.{from-has, has-from}
use Rattle.division.proofs.NumberLaws.{on-grid, sheet-place, place-sheet}
use Rattle.division.proofs.FamilyLaws.{parted, deep-index}
use Rattle.division.proofs.PointLaws.{inside, point-on}
use Rattle.division.proofs.PointTheorems.{answered, answers-holds, holder, one-sheet}
use Rattle.relations.specs.Relations.{child}
use Rattle.relations.proofs.RelationTheorems.{child-answered, child-sheet, child-scale, child-is-at, child-tells}
use Rattle.nests.specs.Nesting.{SheetOf, Has, Share, LiesIn}
use Rattle.nests.specs.Children.{children, area_of, areas, EachSheetIsFilled}
use Rattle.nests.proofs.HoldLaws.{has-holds, holds_has}
use Rattle.nests.proofs.NestLaws.{Fits, holds-around}
use Rattle.nests.proofs.ChildrenLaws.{numbered, children-run, area-is, areas-run}

module _ (n s : ℕ) (h : is_sheet n ≡ true) (i : is_scale s ≡ true) (m : parent_scale s ≡ scale_of n) where
  deep : parent_scale s ≡ 0 → ⊥
  deep e = omega (arith, m, (on-grid n h).scale.one)

  of-nine : IsScale s
  of-nine = scale s i

  some : 0 < side s
  some = (parted of-nine deep).some

  -- the sheet is so many times as wide and as high as its children
  family : Fits (scale_of n) s (side s) (side s)
  family = record {
    larger = (on-grid n h).scale;
    wide = omega (arith, (rules of-nine).wide-parts, ap width m);
    high = omega (arith, (rules of-nine).high_parts, ap height m);
  }

  of-scale : (number : ℕ) {k : ℕ} → child n s number ≡ answer k → SheetOf s k
  of-scale number e = let a = child-answered n s number e in record { sheet = child-sheet a; scale = child-scale a }

  -- ---- points

  apart : (x y a b : ℕ) → child n s x ≡ answer a → child n s y ≡ answer b → Share a b → x ≡ y
  apart x y a b e f c =
      let q : a ≡ b = one-sheet (has-holds (of-scale x e) c.in_one) (has-holds (of-scale y f) c.in-other) in
      child-tells n s x y e (f ∙ ap answer (sym q))

  lies : (number k : ℕ) → child n s number ≡ answer k → LiesIn k n
  lies number k e x y p =
      let a = child-answered n s number e in
      let q : sheet_of (scale_of n) (parent_place (side s) (place_of k)) ≡ n =
      ap (λ (at : Place). sheet_of (scale_of n) (parent_place (side s) at)) (child-is-at n s number e)
      ∙ ap (sheet_of (scale_of n)) (parent-child (side s) some (place_of n) number a.part.one a.part.last) ∙ sheet-place n h in
      subst (Holds (scale_of n) x y) q (holds-around family (has-holds (of-scale number e) p))

  -- the sheet at a point's place is the child of that number
  fill : (e y : ℤ) → Has n e y → (number : ℕ) × (k : ℕ) × (child n s number ≡ answer k) × Has k e y
  fill e y p =
      let in_area = (holder p).in_area in
      let at : Place = record { row = row_at s y; column = column_at s e } in
      let on : OnGrid s at = point-on (inside of-nine e y in_area) in
      let w : Holds s e y (sheet_of s at) = answers-holds e y (answered e y of-nine in_area) in
      let up : sheet_of (scale_of n) (parent_place (side s) at) ≡ n = one-sheet (subst (λ (q : Place). Holds (scale_of n) e y (sheet_of (scale_of n) (parent_place (side s) q))) (place-sheet on) (holds-around family w)) p in
      let index : index_at (made (parent_scale s)) (parent_place (side s) at) ≡ index_of n = ap (λ (t : ℕ). index_at (made t) (parent_place (side s) at)) m ∙ omega (arith, up) in
      let is : index_at (made s) at ≡ part_index (parts s) (index_of n) (number_in (side s) at) = deep-index of-nine deep at on ∙ ap (λ (j : ℕ). part_index (parts s) j (number_in (side s) at)) index in (
        number_in (side s) at,
        sheet_of s at,
        numbered n s h i m (number_in (side s) at) (omega arith) (number-few (side s) some at) ∙ ap (λ (j : ℕ). answer (first s + j)) (sym is),
        holds_has w,
      )

  -- ---- the list of them

  abbrev start : ℕ
  start = first s + index_of n * parts s

  child-at : (k : ℕ) → start ≤ k → k < start + parts s → child n s (k - start + 1) ≡ answer k
  child-at k b c = numbered n s h i m (k - start + 1) (omega arith) (omega arith) ∙ ap answer (omega arith)

  each : (k : ℕ) → Memᴰ k (children n s) ↔ ((number : ℕ) × (child n s number ≡ answer k))
  each k = (
    λ c. let r = from-has start (parts s) (subst (Memᴰ k) (children-run n s h i m) c) in (k - start + 1, child-at k r.0 r.1),
    λ c.
        let a = child-answered n s c.0 c.1 in
        subst (Memᴰ k) (sym (children-run n s h i m)) (has-from start (parts s) k (omega (arith, a.is)) (omega (arith, a.is, a.part.one, a.part.last))),
  )

  add-up : areas (children n s) ≡ area_of n
  add-up =
      let one : (k : ℕ) → start ≤ k → k < start + parts s → area_of k ≡ millimetres (width s) * millimetres (height s) = λ k b c.
      let z = of-scale (k - start + 1) (child-at k b c) in
      area-is k z.sheet ∙ ap (λ (t : ℕ). millimetres (width t) * millimetres (height t)) z.scale in
      ap areas (children-run n s h i m) ∙ areas-run start (parts s) (millimetres (width s) * millimetres (height s)) one
      ∙ mul_comm (parts s) (millimetres (width s) * millimetres (height s))
      ∙ mul-mul-mul_comm (millimetres (width s)) (millimetres (height s)) (side s) (side s)
      ∙ sym (area-is n h ∙ ap₂ ◌*◌ family.wide family.high)

pub each-sheet-is-filled : EachSheetIsFilled
each-sheet-is-filled n s h i m = record {
  each = each n s h i m;
  count = ap length (children-run n s h i m) ∙ length_from (first s + index_of n * parts s) (parts s);
  apart = apart n s h i m;
  inside = lies n s h i m;
  fill = fill n s h i m;
  add-up = add-up n s h i m;
}
