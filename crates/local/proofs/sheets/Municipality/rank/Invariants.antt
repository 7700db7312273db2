-- Each sheet that stands before it is counted, and its place by rows is their number. Assumes nothing.
use Rattle.division.specs.Words.{◌<?◌}
use Rattle.division.specs.Sheet.{reading_order}
use Rattle.local.proofs.CountLaws.{Counting}
use Rattle.local.proofs.sheets.Municipality.rank.Given as goal

abbrev pub invariant-loop-other : goal.invariant-loop-other
invariant-loop-other l = Counting (λ x. reading_order x <? l.at) l.self.sheets.now l.count l.other-index
