-- The least place so far is the first mark, or all places so far are without. Assumes nothing.
use Rattle.fault.proofs.BlockLaws.{sought-next, sought-all}
use Rattle.fault.proofs.piece.block_end.Goals as goal

pub loop-j-preserved : goal.loop-j-preserved
loop-j-preserved c = rw (c.min-at.ensures, c.place_if-x.ensures, c.from.ensures) (sought-next c.requires c.loop-j.invariant c.loop-j-test.true)

pub returns : goal.returns
returns c = sought-all c.requires c.loop-j.invariant c.loop-j.auto.j-end c.loop-j-test.false
