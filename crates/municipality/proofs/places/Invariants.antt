-- Each turn judges one place, and leaves the rest of the question as it was. Assumes nothing.
use Rattle.municipality.proofs.JudgeLaws.{Judging}
use Rattle.municipality.proofs.places.Given as goal

abbrev pub invariant-loop-sheet : goal.invariant-loop-sheet
invariant-loop-sheet l = Judging l.sheets l.least l.sheet-index
