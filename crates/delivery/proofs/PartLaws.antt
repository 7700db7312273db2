-- The place of an index, at a scale that is made from the area and at one that is made from another: by the laws of families. Assumes nothing.
use mathlib.Core.Path.{◌≡◌, refl, sym, ap, ◌∙◌, subst}
use mathlib.Core.Bool.{false}
use mathlib.Core.Logic.{⊎_elim}
use Prim.Native.Nat.{ℕ, suc, ◌+◌, ◌-◌, ◌*◌, ◌/◌, ◌%◌, ◌≤◌, ◌<◌}
use native.Mathlib.Nat.{mul-pos, eq-or-lt_of_le}
use native.Mathlib.Omega.{arith}
use borrow.Author.Tests.{le-leb, lt-leb, leb-false}
use Rattle.division.specs.declared.Place.{Place}
use Rattle.division.specs.Words.{◌≤?◌}
use Rattle.division.specs.Table.{table, table_row, made, columns, parent_scale, side, parts}
use Rattle.division.specs.Sheet.{child_place, place_at}
use Rattle.division.specs.Given.{IsScale, Indexed, PartPlace}
use Rattle.division.proofs.TableLaws.{rules}
use Rattle.division.proofs.FamilyLaws.{top-place, some-columns, parted, parent-indexed, deep-place, deep_room, row_small, column-small}
use Rattle.delivery.specs.Given.{OfArea, OfParent}
use Rattle.delivery.proofs.PlaceLaws.{clash}

module _ {s : ℕ} (a : OfArea s) where
  pub some-columns-there : 0 < columns s
  some-columns-there = some-columns a.scale a.area

  pub area-place : (i : ℕ) → record { row = i / columns s; column = i % columns s } ≡ place_at (made s) i
  area-place i = sym (top-place a.scale a.area i)

module _ {s i : ℕ} (o : OfParent s i) where
  pub some-side : 0 < side s
  some-side = (parted o.indexed.scale o.parent).some

  pub some-parts : 0 < parts s
  some-parts = mul-pos some-side some-side

  -- the sheet above it
  pub above-indexed : {up : ℕ} → parent_scale s ≡ up → Indexed up (i / parts s)
  above-indexed e = subst (λ (t : ℕ). Indexed t (i / parts s)) e (parent-indexed o.indexed.scale o.parent i o.indexed)

  module _ (up : Place) (e : up ≡ place_at (made (parent_scale s)) (i / parts s)) where
    less_one : i % parts s + 1 - 1 ≡ i % parts s
    less_one = omega arith

    room : PartPlace (side s) up (i % parts s + 1)
    room = rw e (deep_room o.indexed.scale o.parent i o.indexed)

    pub row_fits : up.row * side s + i % parts s / side s ≤ 3_000
    row_fits = rw less_one at (row_small room)

    pub column_fits : up.column * side s + i % parts s % side s ≤ 2_000
    column_fits = rw less_one at (column-small room)

    pub part-place : record { row = up.row * side s + i % parts s / side s; column = up.column * side s + i % parts s % side s } ≡ place_at (made s) i
    part-place =
        let c : child_place (side s) up (i % parts s + 1) ≡ place_at (made s) i = ap (λ (p : Place). child_place (side s) p (i % parts s + 1)) e ∙ sym (deep-place o.indexed.scale o.parent i o.indexed) in
        rw less_one at c

-- ---- from scale to scale

-- scale 3 is made from the area
pub three : OfArea 3
unfolding table table_row
three = record { scale = record { one = omega arith; nine = omega arith }; area = refl }

-- a scale that has a parent
has-parent : (s : ℕ) → parent_scale s ≡ 3 → s ≡ 0 → ⊥
unfolding table table_row
has-parent s e z = let f : ◌≡◌ {A = ℕ} 0 3 = rw z at e in omega arith

-- the index above, at a scale that is made from scale 3, or from one of those
pub from-three : {s i up : ℕ} (o : OfParent s i) → parent_scale s ≡ up → parent_scale up ≡ 3 → {j : ℕ} → j ≡ i / parts s → OfParent up j
from-three {up = up} o e three f = record { indexed = subst (λ (j : ℕ). Indexed up j) (sym f) (above-indexed o e); parent = λ z. omega (arith, three, z) }

pub from-those : {s i up : ℕ} (o : OfParent s i) → parent_scale s ≡ up → {top : ℕ} → parent_scale up ≡ top → parent_scale top ≡ 3 → {j : ℕ} → j ≡ i / parts s → OfParent up j
from-those {up = up} o e {top} g three f = record { indexed = subst (λ (j : ℕ). Indexed up j) (sym f) (above-indexed o e); parent = λ z. has-parent top three (sym g ∙ z) }

-- what stands at the place above
pub placed-above : (s i : ℕ) {up j : ℕ} {p : Place} → parent_scale s ≡ up → j ≡ i / parts s → p ≡ place_at (made up) j → p ≡ place_at (made (parent_scale s)) (i / parts s)
placed-above s i e f g = g ∙ rw (e, f)

-- the scales from 4 on are made from another, and those before from the area
pub arm : {s i : ℕ} → Indexed s i → (n : ℕ) → s ≡ n → 4 ≤ n → OfParent n i
arm {i = i} x n e h = record { indexed = subst (λ (t : ℕ). Indexed t i) e x; parent = λ z. clash (le-leb 4 n h) (sym (rules (subst IsScale e x.scale)).has-parent ∙ rw z) }

below : {s n : ℕ} → s ≤ suc n → (s ≡ suc n → ⊥) → s ≤ n
below h e = ⊎_elim (λ z. absurd (e z)) (λ l. omega arith) (eq-or-lt_of_le h)

pub rest : {s i : ℕ} → Indexed s i → (s ≡ 9 → ⊥) → (s ≡ 8 → ⊥) → (s ≡ 7 → ⊥) → (s ≡ 6 → ⊥) → (s ≡ 5 → ⊥) → (s ≡ 4 → ⊥) → OfArea s
rest {s} x nine eight seven six five four =
    let l : s ≤ 3 = below (below (below (below (below (below x.scale.nine nine) eight) seven) six) five) four in
    let none : (1 ≤? parent_scale s) ≡ false = (rules x.scale).has-parent ∙ lt-leb 4 s (omega arith) in
    record { scale = x.scale; area = omega (arith, leb-false 1 (parent_scale s) none) }
