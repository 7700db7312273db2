-- Bits up to those of the infinity are of a number or of it. Assumes nothing.
use Rattle.std.proofs.Common.{arith}
use Rattle.std.proofs.lemmas.Float.{not_nan_f64_bits}
use Rattle.cases.proofs.read.of_bits.Goals as goal

pub float_from_bits-result : goal.float_from_bits-result
float_from_bits-result c = not_nan_f64_bits c.args.bits (omega (arith, c.if-bits-gt9218868437227405312.false))
