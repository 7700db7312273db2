-- Each turn writes the low group of what is left, with the high bit, since more follow; and the last group is written behind them. Assumes nothing.
use Rattle.shelf.proofs.NumberLaws.{next_more, next_last}
use Rattle.list_writing.proofs.put_number.Goals as goal

pub loop-left-preserved : goal.loop-left-preserved
loop-left-preserved c = next_more c.loop-left.invariant c.loop-left-test.true

pub returns-clause-value : goal.returns-clause-value
returns-clause-value c = (next_last c.loop-left.invariant c.loop-left-test.false).0

pub returns-clause-room_after : goal.returns-clause-room_after
returns-clause-room_after c = (next_last c.loop-left.invariant c.loop-left-test.false).1
