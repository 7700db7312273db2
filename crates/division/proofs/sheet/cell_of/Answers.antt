-- A sheet lies in the range of its scale, and its index there has a place. Assumes nothing.
use Rattle.division.proofs.NumberLaws.{ranged, indexed, on-grid}
use Rattle.division.proofs.sheet.cell_of.Goals as goal

pub overflow_sub-n : goal.overflow_sub-n
overflow_sub-n c = rw (c.first.ensures, c.scale_of-scale.ensures) (ranged c.args.n c.requires).low

pub place_in-requires : goal.place_in-requires
place_in-requires c = rw (c.first.ensures, c.scale_of-scale.ensures) (indexed c.args.n c.requires)

pub invariant_of-result : goal.invariant_of-result
invariant_of-result c = record { on_grid = rw (c.place_in.ensures, c.first.ensures, c.scale_of-scale.ensures) (on-grid c.args.n c.requires) }
