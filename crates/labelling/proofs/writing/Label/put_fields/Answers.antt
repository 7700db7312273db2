-- Each turn puts the number in the parent and goes on with the parent's fields, up to a scale that is made from the area. The measure is the parent. Assumes nothing.
use native.Mathlib.Omega.{arith}
use Rattle.labelling.proofs.WritingLaws.{area-room, going_done, some-parts, higher, number-room, going_next}
use Rattle.labelling.proofs.writing.Label.put_fields.Goals as goal

pub nonzero_rem-index : goal.nonzero_rem-index
nonzero_rem-index c = some-parts c.loop-t.invariant c.in-Some.is

pub overflow_add-index : goal.overflow_add-index
overflow_add-index c = omega (arith, (number-room c.loop-t.invariant c.in-Some.is).few)

pub put_field-requires : goal.put_field-requires
put_field-requires c = number-room c.loop-t.invariant c.in-Some.is

pub nonzero_div-index : goal.nonzero_div-index
nonzero_div-index c = some-parts c.loop-t.invariant c.in-Some.is

pub loop-t-smaller : goal.loop-t-smaller
loop-t-smaller c = rw c.row-t-in-Some.ensures (higher c.loop-t.invariant c.in-Some.is)

pub loop-t-preserved : goal.loop-t-preserved
loop-t-preserved c =
    going_next c.loop-t.invariant c.in-Some.is c.put_field.ensures c.row-t-in-Some.result c.row-t-in-Some.ensures

pub put_area-requires : goal.put_area-requires
put_area-requires c = area-room c.loop-t.invariant c.in_default.not-Some

pub returns : goal.returns
returns c = going_done c.loop-t.invariant c.in_default.not-Some c.put_area.ensures
