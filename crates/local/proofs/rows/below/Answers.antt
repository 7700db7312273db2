-- The orders counted so far, and those that are left to count, make the whole. Assumes nothing.
use Rattle.division.specs.Words.{◌<?◌}
use Rattle.local.proofs.CountLaws.{counting-next, counting-done}
use Rattle.local.proofs.rows.below.Goals as goal

pub loop-order-preserved : goal.loop-order-preserved
loop-order-preserved c = rw c.from-count.ensures (counting-next (λ x. x <? c.args.bound) c.loop-order.invariant c.loop-order-test.true)

pub returns : goal.returns
returns c = counting-done (λ x. x <? c.args.bound) c.loop-order.invariant c.loop-order-test.false
