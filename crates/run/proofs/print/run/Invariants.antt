-- After every turn what was sunk and what is still to be printed are the whole; what is left to read and to do falls. Assumes nothing.
use lib.ListN.{length}
use Rattle.run.proofs.RunLaws.{Running, to_go}
use Rattle.run.proofs.print.run.Given as goal

abbrev pub invariant-loop-s : goal.invariant-loop-s
invariant-loop-s l = Running l.input l.initial.sink (length l.initial.buf) (length l.initial.out) l.buf l.out l.sink l.s l.p l.a

abbrev pub decreases-loop-s : goal.decreases-loop-s
decreases-loop-s l = to_go l.input l.s l.a
