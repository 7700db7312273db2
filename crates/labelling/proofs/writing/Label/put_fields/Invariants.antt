-- Each turn puts the number in the parent and goes on with the parent's fields, up to a scale that is made from the area. The measure is the parent. Assumes nothing.
use Rattle.std.specs.Prelude.{unwrap_or}
use Rattle.labelling.proofs.WritingLaws.{Going}
use Rattle.labelling.proofs.writing.Label.put_fields.Given as goal

abbrev pub invariant-loop-t : goal.invariant-loop-t
invariant-loop-t l = Going l.s l.i l.initial.self l.t l.index l.self

abbrev pub decreases-loop-t : goal.decreases-loop-t
decreases-loop-t l = unwrap_or l.t.parent 0
