-- The fields passed are fine, so the first that is not is among those that are left. The measure is what is left. Assumes nothing.
use Prim.Native.Nat.{◌+◌, ◌-◌}
use lib.ListN.{length}
use Rattle.label.proofs.PlaceLaws.{Fine}
use Rattle.fault.proofs.place.faulty_field.Given as goal

abbrev pub invariant-loop-start : goal.invariant-loop-start
invariant-loop-start l = Fine l.bytes l.start

abbrev pub decreases-loop-start : goal.decreases-loop-start
decreases-loop-start l = length l.bytes + 1 - l.start
