-- The questions line by line: the list is judged, then what is asked; and a part has one parent and one number there. Assumes nothing.
use mathlib.Core.Path.{◌≡◌, refl, sym, ap, ◌∙◌, subst}
use mathlib.Core.Bool.{true, false}
use mathlib.Core.List.{List}
use Prim.Native.Nat.{ℕ, ◌+◌, ◌%◌, ◌≤◌, ◌<◌}
use native.Mathlib.Omega.{arith}
use borrow.Author.Tests.{le-leb, lt-leb, leb-true}
use Rattle.refusal.specs.Paper.{answer, refused, is_answer}
use Rattle.refusal.specs.Numbers.{is_in}
use Rattle.division.specs.Table.{table, table_row, parent_scale, side, parts, first}
use Rattle.division.specs.Sheet.{is_sheet, scale_of, index_of, place_of, number_in}
use Rattle.division.proofs.MadeLaws.{number-child, left-few}
use Rattle.division.proofs.TableLaws.{rules}
use Rattle.division.proofs.NumberLaws.{ranged, indexed}
use Rattle.division.proofs.FamilyLaws.{deep-place, parted}
use Rattle.relations.specs.Relations.{parent, child}
use Rattle.relations.proofs.RelationLaws.{Child, child-deep}
use Rattle.relations.proofs.RelationTheorems.{child-answered, child-scale, child-is-at, parent-has-child}
use Rattle.local.specs.declared.Local.{Local}
use Rattle.municipality.specs.Municipality.{municipality}
use Rattle.local.specs.Rows.{by_rows, place_in}
use Rattle.local.specs.Numbers.{local_to_sheet, part_number, number_of, one_number, two_numbers, three_numbers, numbers_of, sheet_to_local}
use Rattle.municipality.specs.Given.{OfScale}
use Rattle.local.specs.Given.{Part}

-- ---- the list first

-- what is wrong with the list is told before anything of what is asked
pub list-first : (s : List ℕ) (number value : ℕ) → municipality s ≡ refused number value → (l : Local) (k : ℕ) → (local_to_sheet s l ≡ refused number value) × (sheet_to_local s k ≡ refused number value)
unfolding local_to_sheet sheet_to_local
list-first s number value e l k = (rw e refl, rw e refl)

-- ---- a part of a sheet

module _ {k : ℕ} (p : Part k) where
  is-parted : parent_scale (scale_of k) ≡ 0 → ⊥
  is-parted e =
      let h = (rules (ranged k p.sheet).scale).has-parent in
      let t : 1 ≤ parent_scale (scale_of k) = leb-true 1 (parent_scale (scale_of k)) (h ∙ le-leb 4 (scale_of k) (omega (arith, p.scale))) in
      omega arith

  pub has-parent : is_answer (parent k) ≡ true
  unfolding parent
  has-parent = rw (p.sheet, (rules (ranged k p.sheet).scale).has-parent, le-leb 4 (scale_of k) (omega (arith, p.scale)))

  pub index-low : first (scale_of k) ≤ k
  index-low = (ranged k p.sheet).low

  left : index_of k % parts (scale_of k) + 1 ≤ parts (scale_of k)
  left = left-few (side (scale_of k)) (index_of k) (parted (ranged k p.sheet).scale is-parted).some

  pub some-parts : 0 < parts (scale_of k)
  some-parts = omega (arith, left)

  -- its number in its parent is what is left of its index
  pub number-left : part_number k ≡ index_of k % parts (scale_of k) + 1
  number-left =
      let s = scale_of k in
      let i = index_of k in
      let r = (ranged k p.sheet).scale in
      ap (number_in (side s)) (deep-place r is-parted i (indexed k p.sheet)) ∙ number-child (side s) (parted r is-parted).some _ (i % parts s + 1) (omega arith) left

-- the number of a child is the one by which it is asked
pub child-number : (up t a : ℕ) {k : ℕ} → child up t a ≡ answer k → part_number k ≡ a
child-number up t a {k} e =
    let c = child-answered up t a e in
    ap (λ (s : ℕ). number_in (side s) (place_of k)) (child-scale c) ∙ ap (number_in (side t)) (child-is-at up t a e)
    ∙ number-child (side t) (parted c.part.scale (child-deep c.part)).some (place_of up) a c.part.one c.part.last

-- and a sheet that has a parent is the parent's child by its number
pub parent-child : (k t : ℕ) {up : ℕ} → scale_of k ≡ t → parent k ≡ answer up → child up t (part_number k) ≡ answer k
parent-child k t {up} f e =
    let c = parent-has-child k e in
    let g : child up t c.0 ≡ answer k = subst (λ (s : ℕ). child up s c.0 ≡ answer k) f c.1 in
    subst (λ (a : ℕ). child up t a ≡ answer k) (sym (child-number up t c.0 g)) g

-- a sheet of scale 8 or 9 is one, and the parent of a 1:500 sheet is a 1:1 000 sheet
pub is-part : (s : ℕ) {k : ℕ} → 8 ≤ s → OfScale s k → Part k
is-part s h o = record { sheet = o.sheet; scale = rw o.scale h }

module _ (k : ℕ) {up : ℕ} (e : parent k ≡ answer up) (nine : scale_of k ≡ 9) where
  above : Child (scale_of k) up (parent-has-child k e).0
  above = (child-answered up (scale_of k) (parent-has-child k e).0 (parent-has-child k e).1).part

  pub parent-scale : scale_of up ≡ 8
  unfolding table table_row
  parent-scale = sym above.from ∙ ap parent_scale nine

  pub parent-part : Part up
  parent-part = is-part 8 (omega arith) (record { sheet = above.sheet; scale = parent-scale })

-- ---- the local numbers of a sheet

module _ (s : List ℕ) (k : ℕ) where
  pub numbered : is_in s k ≡ true → number_of s k ≡ answer (1 + place_in k (by_rows s))
  unfolding number_of
  numbered e = rw e

  outside : is_in s k ≡ false → number_of s k ≡ refused 6 0
  unfolding number_of
  outside e = rw e

module _ (s : List ℕ) (k : ℕ) where
  pub one_outside : is_in s k ≡ false → one_number s k ≡ refused 6 0
  unfolding one_number
  one_outside e = rw (outside s k e)

  module _ {up : ℕ} (p : parent k ≡ answer up) where
    pub two-outside : is_in s up ≡ false → two_numbers s k ≡ refused 6 0
    unfolding two_numbers
    two-outside e = rw (p, outside s up e)

    module _ {top : ℕ} (q : parent up ≡ answer top) where
      pub three-outside : is_in s top ≡ false → three_numbers s k ≡ refused 6 0
      unfolding three_numbers
      three-outside e = rw (p, q, outside s top e)

-- ---- the scale of the sheet asked

module _ (s : List ℕ) (k : ℕ) where
  pub numbers-no-sheet : is_sheet k ≡ false → numbers_of s k ≡ refused 3 0
  unfolding numbers_of
  numbers-no-sheet e = rw e

  module _ (e : is_sheet k ≡ true) where
    pub numbers-at-7 : scale_of k ≡ 7 → numbers_of s k ≡ one_number s k
    unfolding numbers_of
    numbers-at-7 f = rw (e, f)

    pub numbers-at-8 : scale_of k ≡ 8 → numbers_of s k ≡ two_numbers s k
    unfolding numbers_of
    numbers-at-8 f = rw (e, f)

    pub numbers-at-9 : scale_of k ≡ 9 → numbers_of s k ≡ three_numbers s k
    unfolding numbers_of
    numbers-at-9 f = rw (e, f)

    pub numbers-below-7 : scale_of k < 7 → numbers_of s k ≡ refused 6 0
    unfolding numbers_of
    numbers-below-7 f = rw (e, lt-leb 7 (scale_of k) f)

    pub numbers-at-none : (scale_of k ≡ 7 → ⊥) → (scale_of k ≡ 8 → ⊥) → (scale_of k ≡ 9 → ⊥) → numbers_of s k ≡ refused 6 0
    numbers-at-none a b c = numbers-below-7 (less (scale_of k) a b c (ranged k e).scale.nine)
      where
        less : (s : ℕ) → (s ≡ 7 → ⊥) → (s ≡ 8 → ⊥) → (s ≡ 9 → ⊥) → s ≤ 9 → s < 7
        less s a b c h = omega (arith, a, b, c)
