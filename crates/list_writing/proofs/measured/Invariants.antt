-- Each turn judges one number and counts its bytes, and leaves the rest of the question as it was. Assumes nothing.
use Rattle.shelf.specs.Kind.{kind_of}
use Rattle.shelf.proofs.WritingLaws.{Measuring}
use Rattle.list_writing.proofs.measured.Given as goal

abbrev pub invariant-loop-number : goal.invariant-loop-number
invariant-loop-number g l = Measuring (kind_of g.K.Kind.name) l.numbers l.long l.least l.number-index
