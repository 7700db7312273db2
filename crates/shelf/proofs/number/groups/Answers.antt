-- The leading zeros tell how many bits there are, and seven of them make a group. Assumes nothing.
use native.Mathlib.Omega.{arith}
use Rattle.shelf.proofs.GroupLaws.{groups-by-zeros, fewest}
use Rattle.shelf.proofs.number.groups.Goals as goal

pub returns-then-x-eq0 : goal.returns-then-x-eq0
returns-then-x-eq0 c = omega (arith, fewest c.args.x 1 (omega arith) (omega arith) (omega arith))

pub returns-else-x-eq0 : goal.returns-else-x-eq0
returns-else-x-eq0 c = groups-by-zeros c.args.x (omega arith) c.ranges.x.fits
