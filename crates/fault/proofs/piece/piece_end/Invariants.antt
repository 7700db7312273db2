-- The piece goes on from the place that the loop has come to: it ends in the block there, or the block is passed. The measure is what is left. Assumes nothing.
use mathlib.Core.Path.{◌≡◌}
use Prim.Native.Nat.{◌+◌, ◌-◌, ◌≤◌}
use lib.ListN.{length, drop}
use Rattle.label.proofs.PieceLaws.{piece}
use Rattle.fault.proofs.piece.piece_end.Given as goal

abbrev pub invariant-loop-i : goal.invariant-loop-i
invariant-loop-i l = (l.i ≤ length l.bytes) × (length (piece l.mark l.bytes) ≡ l.i + length (piece l.mark (drop l.i l.bytes)))

abbrev pub decreases-loop-i : goal.decreases-loop-i
decreases-loop-i l = length l.bytes - l.i
