-- Product 0 and 1 every scale has, and product 2 the numbers between the first of scale 6 and the last of scale 7. Assumes nothing.
use native.Mathlib.Omega.{arith}
use Rattle.holding.proofs.HoldingLaws.{first_small, last-small, sheet-is, by_number}
use Rattle.holding.proofs.has_product.Goals as goal

pub overflow_mul-first : goal.overflow_mul-first
overflow_mul-first c = omega (arith, first_small (record { one = omega arith; nine = omega arith }) c.first-first.ensures)

pub overflow_mul-last : goal.overflow_mul-last
overflow_mul-last c = omega (arith, last-small (record { one = omega arith; nine = omega arith }) c.last.ensures)

pub overflow_add-last : goal.overflow_add-last
overflow_add-last c = omega (arith, last-small (record { one = omega arith; nine = omega arith }) c.last.ensures)

pub returns : goal.returns
returns c =
    rw (c.first-first.ensures, c.last.ensures) (by_number c.args.number (sheet-is c.args.number c.requires))
