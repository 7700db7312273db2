-- Past the test the bytes fit, and after i turns the first i of them stand at the front of the room. Assumes nothing.
use Rattle.refusal.proofs.WroteLaws.{Copied}
use Rattle.refusal.proofs.lay.Given as goal

abbrev pub invariant-loop-i : goal.invariant-loop-i
invariant-loop-i l = Copied l.initial.room 0 l.bytes l.room l.i
