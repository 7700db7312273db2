-- The lines done so far are the first of the block's, and their rows stand in the room; each turn does one line more. A whole block is one line,
-- done in the first turn. The measure is what is left of the block. Assumes nothing.
use Rattle.run.proofs.FeedLaws.{Going, Begins}
use Rattle.run.proofs.feed.make_rows.Given as goal

abbrev pub invariant-loop-lines : goal.invariant-loop-lines
invariant-loop-lines l = Going l.block l.number l.initial.out l.out l.used l.written l.lines × Begins l.whole l.initial.out l.out l.used l.written l.lines
