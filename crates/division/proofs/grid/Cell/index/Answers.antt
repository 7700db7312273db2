-- Each turn takes the number in the parent and goes on at the parent's place, up to a scale that is made from the area. The measure is the parent. Assumes nothing.
use native.Mathlib.Omega.{arith}
use Rattle.division.proofs.FamilyLaws.{climb-area, climb-small, climb-done, climb-parted, climb-up, climb-sum, climb-each, climb-next}
use Rattle.division.proofs.grid.Cell.index.Goals as goal

pub number_in-j-requires : goal.number_in-j-requires
number_in-j-requires c = climb-parted c.loop-t.invariant c.in-Some.is

pub overflow_mul-index : goal.overflow_mul-index
overflow_mul-index c =
    omega (arith, climb-sum c.loop-t.invariant c.in-Some.is c.number_in-j.result c.number_in-j.ensures)

pub overflow_add-index : goal.overflow_add-index
overflow_add-index c =
    omega (arith, climb-sum c.loop-t.invariant c.in-Some.is c.number_in-j.result c.number_in-j.ensures)

pub overflow_mul-each : goal.overflow_mul-each
overflow_mul-each c = omega (arith, climb-each c.loop-t.invariant c.in-Some.is)

pub parent_place-at-requires : goal.parent_place-at-requires
parent_place-at-requires c = climb-parted c.loop-t.invariant c.in-Some.is

pub loop-t-smaller : goal.loop-t-smaller
loop-t-smaller c = rw c.row-t-in-Some.ensures (climb-up c.loop-t.invariant c.in-Some.is)

pub loop-t-preserved : goal.loop-t-preserved
loop-t-preserved c =
    climb-next c.loop-t.invariant c.in-Some.is c.number_in-j.result c.number_in-j.ensures c.row-t-in-Some.result c.parent_place-at.result c.row-t-in-Some.ensures c.parent_place-at.ensures

pub area_index-top-requires : goal.area_index-top-requires
area_index-top-requires c = climb-area c.loop-t.invariant c.in_default.not-Some

pub overflow_mul-result : goal.overflow_mul-result
overflow_mul-result c =
    omega (arith, climb-small c.loop-t.invariant c.in_default.not-Some c.area_index-top.result c.area_index-top.ensures)

pub overflow_add-result : goal.overflow_add-result
overflow_add-result c =
    omega (arith, climb-small c.loop-t.invariant c.in_default.not-Some c.area_index-top.result c.area_index-top.ensures)

pub returns : goal.returns
returns c = climb-done c.loop-t.invariant c.in_default.not-Some c.area_index-top.result c.area_index-top.ensures
