-- The area is cut into rows of so many columns. Assumes nothing.
use Rattle.delivery.proofs.PartLaws.{some-columns-there, area-place}
use Rattle.delivery.proofs.place.in_area.Goals as goal

pub nonzero_div-row : goal.nonzero_div-row
nonzero_div-row c = rw c.row-columns.ensures (some-columns-there c.requires)

pub nonzero_rem-column : goal.nonzero_rem-column
nonzero_rem-column c = rw c.row-columns.ensures (some-columns-there c.requires)

pub returns : goal.returns
returns c = rw c.row-columns.ensures (area-place c.requires c.args.i)
