-- The corners of a sheet are hundreds of metres. Assumes nothing.
use Rattle.frame.proofs.HundredLaws.{corners-hundreds}
use Rattle.frame.proofs.metres.frame_of.Goals as goal

pub frame_on-requires : goal.frame_on-requires
frame_on-requires c = corners-hundreds c.args.sheet c.in_ok-ground.ensures
