-- A sheet with a product goes by one number and back: the number is thrice the sheet, and a product is below 3. Assumes nothing.
use mathlib.Core.Path.{◌≡◌, refl, sym, ap, ap₂, ◌∙◌, subst}
use mathlib.Core.Bool.{true}
use Prim.Native.Nat.{ℕ}
use native.Mathlib.Omega.{arith}
use borrow.Author.Tests.{leb-true}
use Rattle.refusal.specs.Paper.{answer}
use Rattle.refusal.proofs.PaperLaws.{passed, passed-judge, same_answer}
use Rattle.division.specs.Sheet.{is_sheet, scale_of}
use Rattle.holding.specs.declared.Parts.{Parts}
use Rattle.holding.specs.Holding.{has_product, holding_of, sheet_in, product_in, judge, holding, parts_of}
use Rattle.holding.proofs.HoldingLaws.{few-products, apart, Fine, fine, is-fine, sheet-is, held, parted}

-- what a sheet and a product make
pub record Made (sheet product number : ℕ) : Type 0 where
  pub is : number ≡ holding_of sheet product
  pub sheet-in : sheet_in number ≡ sheet
  pub product-in : product_in number ≡ product
  pub fine : Fine number

pub made_of : (sheet product number : ℕ) → holding sheet product ≡ answer number → Made sheet product number
unfolding holding
made_of sheet product number e =
    let p = passed 3 (is_sheet sheet) _ e in
    let q = passed 24 (has_product (scale_of sheet) product) _ p.1 in
    let is : number ≡ holding_of sheet product = sym (same_answer q.1) in
    let few = few-products (scale_of sheet) product q.0 in
    let a = apart sheet product few in
    let s : sheet_in number ≡ sheet = ap sheet_in is ∙ a.0 in
    let t : product_in number ≡ product = ap product_in is ∙ a.1 in
    record { is = is; sheet-in = s; product-in = t; fine = record { upto = omega (arith, leb-true sheet 7_953_173 p.0); product = rw (s, t) q.0 } }

-- the judge lets exactly these numbers pass
pub holding-passes : (sheet product number before : ℕ) → holding sheet product ≡ answer number → judge before number ≡ answer tt
holding-passes sheet product number before e = is-fine before number (made_of sheet product number e).fine

pub passes-holding : (number before : ℕ) → judge before number ≡ answer tt → holding (sheet_in number) (product_in number) ≡ answer number
passes-holding number before e =
    let f = fine before number e in
    held (sheet_in number) (product_in number) (sheet-is number f.upto) f.product ∙ ap answer (omega arith)

-- a holding falls into the sheet and the product that it was made of, and these make it again
pub parts-back : (sheet product number : ℕ) → holding sheet product ≡ answer number → parts_of number ≡ answer (record { sheet = sheet; product = product })
parts-back sheet product number e =
    let m = made_of sheet product number e in
    parted number (is-fine 3 number m.fine) ∙ ap answer (ap₂ (λ a b. record { sheet = a; product = b }) m.sheet-in m.product-in)

pub number-back : (number : ℕ) (parts : Parts) → parts_of number ≡ answer parts → holding parts.sheet parts.product ≡ answer number
unfolding parts_of
number-back number parts e =
    let p = passed-judge (judge 3 number) _ e in
    subst (λ (q : Parts). holding q.sheet q.product ≡ answer number) (same_answer p.1) (passes-holding number 3 p.0)

-- so no two holdings have one number
pub one_number : (sheet product other another number : ℕ) → holding sheet product ≡ answer number → holding other another ≡ answer number → (sheet ≡ other) × (product ≡ another)
one_number sheet product other another number e f =
    let m = made_of sheet product number e in
    let n = made_of other another number f in
    (sym m.sheet-in ∙ n.sheet-in, sym m.product-in ∙ n.product-in)

-- an unstated product is one that every sheet has
pub unstated : (sheet : ℕ) → is_sheet sheet ≡ true → holding sheet 0 ≡ answer (holding_of sheet 0)
unstated sheet h = held sheet 0 h refl
