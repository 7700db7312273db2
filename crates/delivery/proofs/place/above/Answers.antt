-- The parent's index is the index by the parts of a parent. Assumes nothing.
use Rattle.delivery.proofs.PartLaws.{some-parts}
use Rattle.delivery.proofs.place.above.Goals as goal

pub nonzero_div-result : goal.nonzero_div-result
nonzero_div-result c = rw c.row-parts.ensures (some-parts c.requires)
