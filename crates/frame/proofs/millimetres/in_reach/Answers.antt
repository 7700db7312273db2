-- The exponent is that of the bits. Assumes nothing.
use Rattle.frame.proofs.BitLaws.{some_number}
use Rattle.frame.proofs.millimetres.in_reach.Goals as goal

pub float_to_bits-x : goal.float_to_bits-x
float_to_bits-x c = some_number c.args.x c.requires
