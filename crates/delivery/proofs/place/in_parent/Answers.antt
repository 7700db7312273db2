-- A part lies so far down and across in its parent, whose place has as many before it. Assumes nothing.
use native.Mathlib.Omega.{arith}
use Rattle.delivery.proofs.PartLaws.{some-side, some-parts, row_fits, column_fits, part-place}
use Rattle.delivery.proofs.place.in_parent.Goals as goal

pub nonzero_rem-part : goal.nonzero_rem-part
nonzero_rem-part c = rw c.row-t.ensures (some-parts c.requires.of_parent)

pub overflow_mul-row : goal.overflow_mul-row
overflow_mul-row c =
    rw c.row-t.ensures (record { fits = omega (arith, row_fits c.requires.of_parent c.args.up c.requires.up_value) })

pub nonzero_div-row : goal.nonzero_div-row
nonzero_div-row c = rw c.row-t.ensures (some-side c.requires.of_parent)

pub overflow_add-row : goal.overflow_add-row
overflow_add-row c =
    rw c.row-t.ensures (record { fits = omega (arith, row_fits c.requires.of_parent c.args.up c.requires.up_value) })

pub overflow_mul-column : goal.overflow_mul-column
overflow_mul-column c =
    rw c.row-t.ensures (record { fits = omega (arith, column_fits c.requires.of_parent c.args.up c.requires.up_value) })

pub nonzero_rem-column : goal.nonzero_rem-column
nonzero_rem-column c = rw c.row-t.ensures (some-side c.requires.of_parent)

pub overflow_add-column : goal.overflow_add-column
overflow_add-column c =
    rw c.row-t.ensures (record { fits = omega (arith, column_fits c.requires.of_parent c.args.up c.requires.up_value) })

pub returns : goal.returns
returns c = rw c.row-t.ensures (part-place c.requires.of_parent c.args.up c.requires.up_value)
