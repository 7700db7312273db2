-- Each turn writes the low group of what is left, with the high bit, since more follow. Assumes nothing.
use Rattle.shelf.proofs.NumberLaws.{Grouping}
use Rattle.list_writing.proofs.put_number.Given as goal

abbrev pub invariant-loop-left : goal.invariant-loop-left
invariant-loop-left l = Grouping l.x l.initial.room l.at l.room l.left l.i

abbrev pub decreases-loop-left : goal.decreases-loop-left
decreases-loop-left l = l.left
