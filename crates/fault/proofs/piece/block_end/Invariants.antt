-- The least place so far is the first mark, or all places so far are without. Assumes nothing.
use Rattle.fault.proofs.BlockLaws.{Sought}
use Rattle.fault.proofs.piece.block_end.Given as goal

abbrev pub invariant-loop-j : goal.invariant-loop-j
invariant-loop-j l = Sought l.mark l.block l.at l.j
