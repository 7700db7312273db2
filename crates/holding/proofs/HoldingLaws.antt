-- Which products a scale has, by the numbers of its sheets, and the lines of the judge. Assumes nothing.
use mathlib.Core.Path.{◌≡◌, refl, sym, ◌∙◌}
use mathlib.Core.Bool.{Bool, true, false, ◌&&◌, ◌||◌, or-true, or-false, false≢true}
use mathlib.Core.Logic.{⊎_elim}
use Prim.Native.Nat.{ℕ, ◌+◌, ◌*◌, ◌≤◌, ◌<◌}
use native.Mathlib.Omega.{arith}
use borrow.Author.Tests.{le-leb, lt-leb, lt-ltb, ne_eqb, leb-true, eqb-true}
use Rattle.refusal.specs.Paper.{answer}
use Rattle.refusal.proofs.PaperLaws.{passed, passed-test}
use Rattle.division.specs.Words.{◌≤?◌, ◌<?◌, ◌=?◌, between}
use Rattle.division.specs.Table.{first, last}
use Rattle.division.specs.Sheet.{is_sheet, scale_of}
use Rattle.division.specs.Given.{IsScale}
use Rattle.division.proofs.TestLaws.{both, le-or-less, between_in, in_between, same-leb}
use Rattle.division.proofs.TableLaws.{rules}
use Rattle.division.proofs.NumberLaws.{in-range, of-scale}
use Rattle.holding.specs.Holding.{has_product, holding_of, sheet_in, product_in, judge, holding, parts_of}

-- ---- scales 6 and 7

six : IsScale 6
six = record { one = omega arith; nine = omega arith }

seven : IsScale 7
seven = record { one = omega arith; nine = omega arith }

-- the sheets of scale 7 come directly behind those of scale 6
adjoin : (first 7 ≡ last 6 + 1) × (first 7 ≤ last 7 + 1)
adjoin = (omega (arith, (rules seven).begins, (rules six).ends, (rules six).some), omega arith)

module _ (sheet : ℕ) (h : is_sheet sheet ≡ true) where
  within : between 6 7 (scale_of sheet) ≡ true → between (first 6) (last 7) sheet ≡ true
  within e =
      let b = between_in 6 7 (scale_of sheet) e in
      ⊎_elim
      (λ (l : scale_of sheet ≤ 6). let r = between_in (first 6) (last 6) sheet (of-scale 6 sheet six h (omega arith)) in in_between (first 6) (last 7) sheet r.0 (omega (arith, r.1, adjoin.0, adjoin.1)))
      (λ (l : 6 < scale_of sheet). let r = between_in (first 7) (last 7) sheet (of-scale 7 sheet seven h (omega arith)) in in_between (first 6) (last 7) sheet (omega (arith, r.0, adjoin.0)) r.1)
      (le-or-less (scale_of sheet) 6)

  of-these : between (first 6) (last 7) sheet ≡ true → between 6 7 (scale_of sheet) ≡ true
  of-these e =
      let b = between_in (first 6) (last 7) sheet e in
      ⊎_elim
      (λ (l : sheet ≤ last 6). rw (in-range 6 sheet six (in_between (first 6) (last 6) sheet b.0 l)) refl)
      (λ (l : last 6 < sheet). rw (in-range 7 sheet seven (in_between (first 7) (last 7) sheet (omega (arith, adjoin.0)) b.1)) refl)
      (le-or-less sheet (last 6))

  six-or-seven : between (first 6) (last 7) sheet ≡ between 6 7 (scale_of sheet)
  six-or-seven = by (between (first 6) (last 7) sheet) refl (between 6 7 (scale_of sheet)) refl
    where
      by : (a : Bool) → between (first 6) (last 7) sheet ≡ a → (b : Bool) → between 6 7 (scale_of sheet) ≡ b → a ≡ b
      by true e true f = refl
      by false e false f = refl
      by true e false f = absurd (false≢true (sym f ∙ of-these e))
      by false e true f = absurd (false≢true (sym e ∙ within f))

-- a scale's first and last number are small, whichever scale it is
module _ {n s : ℕ} (i : IsScale s) where
  pub first_small : n ≡ first s → n ≤ 7_953_173
  first_small e = omega (arith, (rules i).low, (rules i).some)

  pub last-small : n ≡ last s → n ≤ 7_953_173
  last-small e = omega (arith, (rules i).low)

-- so it can be asked of the number whether it has a product that its scale has
pub by_number : (number : ℕ) → is_sheet (sheet_in number) ≡ true
    → ((3 * first 6 ≤? number && number ≤? 3 * last 7 + 2) || product_in number <? 2) ≡ has_product (scale_of (sheet_in number)) (product_in number)
by_number number h =
    ⊎_elim (λ (l : 2 ≤ product_in number).
    let two : product_in number ≡ 2 = omega arith in
    let low : (3 * first 6 ≤? number) ≡ (first 6 ≤? sheet_in number) = same-leb (3 * first 6) number (first 6) (sheet_in number) (λ l. omega arith) (λ l. omega arith) in
    let high : (number ≤? 3 * last 7 + 2) ≡ (sheet_in number ≤? last 7) = same-leb number (3 * last 7 + 2) (sheet_in number) (last 7) (λ l. omega arith) (λ l. omega arith) in
    rw (two, low, high, or-false (between (first 6) (last 7) (sheet_in number))) (six-or-seven (sheet_in number) h))
    (λ (l : product_in number < 2). rw (lt-ltb (product_in number) 2 l, le-leb (product_in number) 1 (omega arith), or-true (3 * first 6 ≤? number && number ≤? 3 * last 7 + 2)))
    (le-or-less 2 (product_in number))

-- no scale has a third product
pub few-products : (scale product : ℕ) → has_product scale product ≡ true → product ≤ 2
few-products scale product e = by (product ≤? 1) refl e
  where
    by : (t : Bool) → (product ≤? 1) ≡ t → (t || (product =? 2 && between 6 7 scale)) ≡ true → product ≤ 2
    by true f e = omega (arith, leb-true product 1 f)
    by false f e = omega (arith, eqb-true product 2 (both (product =? 2) (between 6 7 scale) e).0)

pub no_third : (scale product : ℕ) → 2 < product → has_product scale product ≡ false
no_third scale product l = rw (lt-leb product 1 (omega arith), ne_eqb product 2 (λ e. omega arith))

-- a number falls into what it was made of
pub apart : (sheet product : ℕ) → product ≤ 2 → (sheet_in (holding_of sheet product) ≡ sheet) × (product_in (holding_of sheet product) ≡ product)
apart sheet product l = (omega arith, omega arith)

-- ---- the judge of numbers

-- a number that is a holding's
pub record Fine (number : ℕ) : Type 0 where
  pub upto : number ≤ 23_859_521
  pub product : has_product (scale_of (sheet_in number)) (product_in number) ≡ true

module _ (before number : ℕ) where
  pub fine : judge before number ≡ answer tt → Fine number
  unfolding judge
  fine e =
      let p = passed before (number ≤? 23_859_521) _ e in
      record { upto = leb-true number 23_859_521 p.0; product = passed-test 24 (has_product (scale_of (sheet_in number)) (product_in number)) p.1 }

  pub is-fine : Fine number → judge before number ≡ answer tt
  unfolding judge
  is-fine f = rw (le-leb number 23_859_521 f.upto, f.product)

-- its sheet is one
pub sheet-is : (number : ℕ) → number ≤ 23_859_521 → is_sheet (sheet_in number) ≡ true
sheet-is number l = le-leb (sheet_in number) 7_953_173 (omega arith)

-- ---- the code's answers

module _ (sheet product : ℕ) where
  pub held : is_sheet sheet ≡ true → has_product (scale_of sheet) product ≡ true → holding sheet product ≡ answer (holding_of sheet product)
  unfolding holding
  held e f = rw (f, e)

module _ (number : ℕ) where
  pub parted : judge 3 number ≡ answer tt → parts_of number ≡ answer (record { sheet = sheet_in number; product = product_in number })
  unfolding parts_of
  parted e = rw e
