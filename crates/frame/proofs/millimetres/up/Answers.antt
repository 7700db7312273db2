-- The opposite is rounded down, and turned round again. Assumes nothing.
use Rattle.frame.proofs.BitLaws.{some_number, up-turned}
use Rattle.frame.proofs.millimetres.up.Goals as goal

pub float_to_bits-bits : goal.float_to_bits-bits
float_to_bits-bits c = some_number c.args.x c.requires.number

pub returns : goal.returns
returns c = up-turned c.args.x c.well_formed.0.1 c.requires c.thousandfold.ensures c.places.ensures
