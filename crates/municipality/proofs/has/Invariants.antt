-- The sheet is one of the list if it is one of those looked at, or of those that are left. Assumes nothing.
use Rattle.municipality.proofs.SeekLaws.{Seeking}
use Rattle.municipality.proofs.has.Given as goal

abbrev pub invariant-loop-one : goal.invariant-loop-one
invariant-loop-one l = Seeking l.sheets l.sheet l.found l.one-index
