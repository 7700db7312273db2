-- The rules of the table: each computes at each of the nine scales, and holds at any scale. Assumes nothing.
use mathlib.Core.Path.{◌≡◌, refl, sym, ap, ◌∙◌, subst}
use mathlib.Core.Logic.{⊎_elim}
use mathlib.Core.Bool.{Bool, true, false}
use Prim.Native.Nat.{ℕ, zero, suc, ◌+◌, ◌*◌, ◌≤◌, ◌<◌}
use native.Mathlib.Nat.{eq-or-lt_of_le, le_of_suc-le-suc, mul-le-mul}
use native.Mathlib.Omega.{arith}
use borrow.Author.Tests.{leb-true, leb-false, le-leb}
use lib.ListN.{get_or-eq_default}
use Rattle.division.specs.Words.{◌≤?◌, ◌=?◌, from, keep}
use Rattle.division.specs.Table.{is_scale, Made, TableRow, side_of, of_area, of_scale, table, table_row, rows_of, columns_of, width, height, made, rows, columns, parent_scale, side, parts, sheets, first, the_scale}
use Rattle.division.specs.Given.{IsScale}
use Rattle.division.proofs.TestLaws.{both}
use Rattle.division.proofs.MadeLaws.{Sound}

-- what holds at each of 1 to n holds at any of them
abbrev pub Each : (ℕ → Type 0) → ℕ → Type 0
Each P zero = Unit {0}
Each P (suc n) = P (suc n) × Each P n

pub each : (P : ℕ → Type 0) (n : ℕ) → Each P n → (s : ℕ) → 1 ≤ s → s ≤ n → P s
each P zero t s h l = absurd (omega arith)
each P (suc n) t s h l =
    ⊎_elim (λ e. subst P (sym e) t.0) (λ k. each P n t.1 s h (le_of_suc-le-suc k)) (eq-or-lt_of_le l)

-- how many sheets the scales before s have
abbrev pub before : ℕ → ℕ
before zero = 0
before (suc s) = before s + sheets s

-- how a scale is made, by its parent
abbrev pub grown : ℕ → ℕ → Made
grown s zero = of_area (rows s) (columns s)
grown s (suc p) = of_scale (suc p) (made (suc p)) (side s)

pub record Rules (s : ℕ) : Type 0 where
  -- the widths and heights divide the area, and the parent into its parts
  pub wide : width s * columns s ≡ 600_000
  pub high : height s * rows s ≡ 600_000
  pub wide-parts : width s * side s ≡ width (parent_scale s)
  pub high_parts : height s * side s ≡ height (parent_scale s)
  -- the sums: a scale begins where the scales before it end
  pub begins : first s ≡ before s
  pub ends : first s + sheets s ≡ before (suc s)
  -- the ranges
  pub few-width : width s ≤ 150_000
  pub few-height : height s ≤ 100_000
  pub few-rows : rows s ≤ 3_000
  pub few-columns : columns s ≤ 2_000
  pub some : 0 < sheets s
  pub few : sheets s ≤ 6_000_000
  pub low : first s + sheets s ≤ 7_953_174
  pub few-parts : side s ≤ 25
  -- the parent comes before, and there is one from scale 4 on
  pub above : parent_scale s < s
  pub has-parent : (1 ≤? parent_scale s) ≡ (4 ≤? s)
  pub grows : made s ≡ grown s (parent_scale s)
  pub sound : Sound (made s)
  -- the width tells the scale
  pub told : the_scale (λ t. width t =? width s) ≡ s

nine : Each Rules 9
unfolding table table_row rows_of columns_of from keep
nine = search (refl, tt, arith)

-- the test of a scale, both ways
pub scale : (s : ℕ) → is_scale s ≡ true → IsScale s
scale s e = let b = both (1 ≤? s) (s ≤? 9) e in record { one = leb-true 1 s b.0; nine = leb-true s 9 b.1 }

pub is-scale : {s : ℕ} → IsScale s → is_scale s ≡ true
is-scale {s} h = rw (le-leb 1 s h.one, le-leb s 9 h.nine)

-- and a scale that is none of the first eight is the ninth
pub none-of-eight : {s : ℕ} → IsScale s → Each (λ k. s ≡ k → ⊥) 8 → s ≡ 9
none-of-eight {s} i h =
    ⊎_elim (λ e. e) (λ l. absurd (each (λ k. s ≡ k → ⊥) 8 h s i.one (le_of_suc-le-suc l) refl)) (eq-or-lt_of_le i.nine)

-- of no scale the row is zeros
pub no_row : (s : ℕ) → is_scale s ≡ false → table_row s ≡ table_row 0
unfolding table_row table
no_row zero e = refl
no_row (suc s) e =
    let l : 9 ≤ s = omega (arith, leb-false (suc s) 9 (rw (le-leb 1 (suc s) (omega arith)) at e)) in
    get_or-eq_default table (table_row 0) l

-- of any number the parts are few
pub few-parts : (s : ℕ) → parts s ≤ 625
unfolding table table_row
few-parts s = by (is_scale s) refl
  where
    by : (b : Bool) → is_scale s ≡ b → parts s ≤ 625
    by true e = let k = (each Rules 9 nine s (scale s e).one (scale s e).nine).few-parts in mul-le-mul k k
    by false e = let z : parts s ≡ 0 = ap (λ (r : TableRow). side_of r.made * side_of r.made) (no_row s e) in omega arith

pub rules : {s : ℕ} → IsScale s → Rules s
rules {s} h = each Rules 9 nine s h.one h.nine

-- the last sheet
pub all-sheets : before 10 ≡ 7_953_174
unfolding table table_row rows_of columns_of
all-sheets = refl

pub width-tells : {s t : ℕ} → IsScale s → IsScale t → width s ≡ width t → s ≡ t
width-tells h l e = sym (rules h).told ∙ ap (λ (w : ℕ). the_scale λ u. width u =? w) e ∙ (rules l).told
