-- Each turn judges one place of the delivery by where its sheet stands and whether that is marked, and marks it. Assumes nothing.
use Rattle.delivery.specs.Given.{sheets_of}
use Rattle.delivery.proofs.MarkLaws.{Marking}
use Rattle.delivery.proofs.cover.Cover.mark.Given as goal

abbrev pub invariant-loop-i : goal.invariant-loop-i
invariant-loop-i l = Marking (sheets_of l.self.scale l.self.block) l.sheets l.marks l.i
