-- A municipality has at most 400 sheets. Assumes nothing.
use native.Mathlib.Omega.{arith}
use Rattle.local.proofs.MunicipalityLaws.{few}
use Rattle.local.proofs.sheets.Municipality.numbered.Goals as goal

pub overflow_cast-last : goal.overflow_cast-last
overflow_cast-last c = omega (arith, few c.args.self.now.judged)
