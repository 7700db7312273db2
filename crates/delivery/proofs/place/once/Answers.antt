-- Its parent is of scale 3, which is made from the area. Assumes nothing.
use Rattle.delivery.proofs.PartLaws.{three}
use Rattle.delivery.proofs.place.once.Goals as goal

pub in_area-requires : goal.in_area-requires
in_area-requires c = three
