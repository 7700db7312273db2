-- Each turn takes the number in the parent and goes on at the parent's place, up to a scale that is made from the area. The measure is the parent. Assumes nothing.
use Rattle.std.specs.Prelude.{unwrap_or}
use Rattle.division.proofs.FamilyLaws.{Climb}
use Rattle.division.proofs.grid.Cell.index.Given as goal

abbrev pub invariant-loop-t : goal.invariant-loop-t
invariant-loop-t l = Climb l.fn.self.scale l.initial.at l.t l.at l.index l.each

abbrev pub decreases-loop-t : goal.decreases-loop-t
decreases-loop-t l = unwrap_or l.t.parent 0
