-- Each turn judges one place of the delivery by where its sheet stands and whether that is marked, and marks it. Assumes nothing.
use mathlib.Core.Path.{refl}
use Rattle.delivery.proofs.MarkLaws.{strange-here, seen_here, marking-more, marking-done}
use Rattle.delivery.proofs.cover.Cover.mark.Goals as goal

pub returns-in_default-clause-result_value : goal.returns-in_default-clause-result_value
returns-in_default-clause-result_value c = strange-here c.loop-i.invariant c.loop-i-test.true c.in_default.ensures refl

pub returns-then-seen-clause-result_value : goal.returns-then-seen-clause-result_value
returns-then-seen-clause-result_value c = seen_here c.loop-i.invariant c.loop-i-test.true c.in-Some.ensures.1 c.in-Some.ensures.0 c.if-seen.true

pub loop-i-preserved : goal.loop-i-preserved
loop-i-preserved c = marking-more c.loop-i.invariant c.loop-i-test.true c.in-Some.ensures.1 c.in-Some.ensures.0 c.if-seen.false

pub returns-clause-result_value : goal.returns-clause-result_value
returns-clause-result_value c = (marking-done c.loop-i.invariant c.loop-i-test.false).0
