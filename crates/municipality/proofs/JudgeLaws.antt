-- A list is judged place by place. Assumes nothing.
use mathlib.Core.Path.{◌≡◌, refl, ap, ◌∙◌}
use mathlib.Core.Bool.{Bool, true, false}
use mathlib.Core.List.{List}
use Prim.Native.Nat.{ℕ, ◌+◌, ◌≤◌, ◌<◌}
use native.Mathlib.Omega.{arith}
use borrow.Author.Tests.{eq-eqb, eqb-true}
use lib.ListN.{length, get_or, drop}
use Rattle.refusal.specs.Paper.{answer, refused}
use Rattle.refusal.specs.declared.Refusal.{Refusal}
use Rattle.refusal.specs.declared.Refusal.TheVariants.{NoSheet, NoMunicipality}
use Rattle.refusal.specs.Numbers.{on_paper}
use Rattle.refusal.proofs.PaperLaws.{passed, passed-test}
use Rattle.rising.specs.Rising.{rising_from}
use Rattle.rising.proofs.RisingLaws.{rising-more, rising-judged, rising-falls, from-here}
use Rattle.division.specs.Words.{◌=?◌, between}
use Rattle.division.specs.Table.{first, last}
use Rattle.division.specs.Sheet.{is_sheet, scale_of}
use Rattle.division.specs.Given.{IsScale}
use Rattle.division.proofs.NumberLaws.{of-scale}
use Rattle.municipality.specs.Municipality.{of2000}
use Rattle.municipality.specs.Given.{OfScale}

pub seven : IsScale 7
seven = record { one = omega arith; nine = omega arith }

-- ---- one number of the list

module _ (k : ℕ) where
  pub no-sheet : is_sheet k ≡ false → of2000 k ≡ on_paper NoSheet
  no-sheet e = rw e

  fine : OfScale 7 k → of2000 k ≡ answer tt
  fine d = rw (d.sheet, eq-eqb (scale_of k) 7 d.scale)

  pub is-fine : of2000 k ≡ answer tt → OfScale 7 k
  is-fine e =
      let p = passed 3 (is_sheet k) _ e in
      record { sheet = p.0; scale = eqb-true (scale_of k) 7 (passed-test 23 (scale_of k =? 7) p.1) }

  pub other-scale : is_sheet k ≡ true → between (first 7) (last 7) k ≡ false → of2000 k ≡ on_paper NoMunicipality
  other-scale e f = by (scale_of k =? 7) refl
    where
      by : (b : Bool) → (scale_of k =? 7) ≡ b → of2000 k ≡ on_paper NoMunicipality
      by true g = let t = of-scale 7 k seven e (eqb-true (scale_of k) 7 g) in let z : ◌≡◌ {A = ℕ} 0 1 = cc in absurd (omega arith)
      by false g = rw (e, g)

-- ---- one place after the other

module _ (s : List ℕ) (i least : ℕ) (inside : i < length s) where
  pub judged-here : (why : Refusal) → of2000 (get_or s i 0) ≡ on_paper why → rising_from of2000 least (drop i s) ≡ on_paper why
  judged-here why e = ap (rising_from of2000 least) (from-here s i inside) ∙ rising-judged of2000 least (get_or s i 0) (drop (i + 1) s) why e

  pub falls : OfScale 7 (get_or s i 0) → get_or s i 0 < least → rising_from of2000 least (drop i s) ≡ refused 15 0
  falls d l = ap (rising_from of2000 least) (from-here s i inside) ∙ rising-falls of2000 least (get_or s i 0) (drop (i + 1) s) (fine (get_or s i 0) d) l

  pub goes_on : OfScale 7 (get_or s i 0) → least ≤ get_or s i 0 → rising_from of2000 least (drop i s) ≡ rising_from of2000 (get_or s i 0 + 1) (drop (i + 1) s)
  goes_on d l = ap (rising_from of2000 least) (from-here s i inside) ∙ rising-more of2000 least (get_or s i 0) (drop (i + 1) s) (fine (get_or s i 0) d) l

-- the places before i are judged
pub record Judging (s : List ℕ) (least i : ℕ) : Type 0 where
  pub upto : i ≤ length s
  pub rest : rising_from of2000 0 s ≡ rising_from of2000 least (drop i s)
