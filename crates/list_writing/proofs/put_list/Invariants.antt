-- Each turn writes one gap, and leaves the rest of the list to be written behind it. Assumes nothing.
use Rattle.shelf.proofs.WritingLaws.{Putting}
use Rattle.list_writing.proofs.put_list.Given as goal

abbrev pub invariant-loop-number : goal.invariant-loop-number
invariant-loop-number g l = Putting l.numbers l.initial.room l.initial.at l.room l.at l.next l.number-index
