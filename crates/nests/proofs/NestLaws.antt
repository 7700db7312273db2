-- Where a size is so many times another, dividing by the one is dividing by the other and then by how many times: so a point's row and column
-- among the larger sheets follow from those among the smaller ones, and a smaller sheet lies in the larger sheet that they lead to. Assumes
-- nothing.
use mathlib.Core.Path.{◌≡◌, refl, sym, ap, ◌∙◌, subst}
use mathlib.Core.Bool.{Bool, true, false}
use mathlib.Core.Logic.{◌⊎◌, inl, inr}
use Prim.Native.Nat.{ℕ, ◌*◌, ◌/◌}
use native.Mathlib.Nat.{div-div-eq-div-mul}
use borrow.Author.Tests.{eqb-true, eqb-false}
use lib.IntN.{ℤ, nat_abs, ◌-ℤ◌}
use Rattle.division.specs.declared.Place.{Place}
use Rattle.division.specs.Words.{◌=?◌}
use Rattle.division.specs.Table.{width, height}
use Rattle.division.specs.Grid.{millimetres, area, column_at, row_at}
use Rattle.division.specs.Sheet.{place_of, sheet_of}
use Rattle.division.specs.Given.{IsScale}
use Rattle.division.specs.Theorems.{Holds}
use Rattle.division.proofs.MadeLaws.{place}
use Rattle.division.proofs.PointTheorems.{answered, answers-holds, holder, one-sheet}
use Rattle.nests.specs.Nesting.{Share, LiesIn, Nests}
use Rattle.nests.proofs.HoldLaws.{has-holds, holds_has}

-- the sheets of scale s are so many times as wide, and so many times as high, as those of scale t
pub record Fits (s t across down : ℕ) : Type 0 where
  pub larger : IsScale s
  pub wide : millimetres (width s) ≡ millimetres (width t) * across
  pub high : millimetres (height s) ≡ millimetres (height t) * down

-- the place among the larger sheets in which a place among the smaller ones lies
abbrev pub around : ℕ → ℕ → Place → Place
around across down p = record { row = p.row / down; column = p.column / across }

module _ {s t across down : ℕ} (f : Fits s t across down) where
  column-of : (e : ℤ) → column_at s e ≡ column_at t e / across
  column-of e =
      ap (λ (w : ℕ). nat_abs (e -ℤ area.west) / w) f.wide ∙ sym (div-div-eq-div-mul (nat_abs (e -ℤ area.west)) (millimetres (width t)) across)

  row_of : (n : ℤ) → row_at s n ≡ row_at t n / down
  row_of n =
      ap (λ (h : ℕ). nat_abs (area.north -ℤ n) / h) f.high ∙ sym (div-div-eq-div-mul (nat_abs (area.north -ℤ n)) (millimetres (height t)) down)

  pub holds-around : {k : ℕ} {e n : ℤ} → Holds t e n k → Holds s e n (sheet_of s (around across down (place_of k)))
  holds-around {k} {e} {n} h =
      let o = holder h in
      let r : row_at s n ≡ (place_of k).row / down = row_of n ∙ ap (λ (x : ℕ). x / down) o.row in
      let c : column_at s e ≡ (place_of k).column / across = column-of e ∙ ap (λ (x : ℕ). x / across) o.column in
      subst (λ (p : Place). Holds s e n (sheet_of s p)) (place r c) (answers-holds e n (answered e n f.larger o.in_area))

  pub nests : Nests s t
  nests j k h l = by (j =? sheet_of s (around across down (place_of k))) refl
    where
      by : (b : Bool) → (j =? sheet_of s (around across down (place_of k))) ≡ b → (Share j k → ⊥) ⊎ LiesIn k j
      by true q = inr (λ e n p. holds_has (subst (Holds s e n) (sym (eqb-true j (sheet_of s (around across down (place_of k))) q)) (holds-around (has-holds l p))))
      by false q = inl (λ x. eqb-false j (sheet_of s (around across down (place_of k))) q (one-sheet (has-holds h x.in_one) (holds-around (has-holds l x.in-other))))
