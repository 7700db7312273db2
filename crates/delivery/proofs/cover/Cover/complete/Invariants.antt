-- Each turn judges one place of the cover by its mark. Assumes nothing.
use Rattle.delivery.specs.Given.{sheets_of, count_of, marked_place}
use Rattle.delivery.proofs.TurnLaws.{Turning}
use Rattle.delivery.proofs.cover.Cover.complete.Given as goal

abbrev pub invariant-loop-place : goal.invariant-loop-place
invariant-loop-place l = Turning (marked_place (sheets_of l.self.scale l.self.block) l.marks) (count_of l.self.block) l.place
