-- The shifted thousandfold is the exact value, rounded down. Assumes nothing.
use Rattle.frame.proofs.BitLaws.{some_number, down-shifted}
use Rattle.frame.proofs.millimetres.down.Goals as goal

pub float_to_bits-bits : goal.float_to_bits-bits
float_to_bits-bits c = some_number c.args.x c.requires.number

pub returns : goal.returns
returns c = down-shifted c.args.x c.well_formed.0.1 c.requires c.thousandfold.ensures c.places.ensures
