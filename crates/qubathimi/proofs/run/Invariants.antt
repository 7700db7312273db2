-- What a turn leaves lies within the buffer for the input, which keeps its length, as the one for the rows does. Assumes nothing.
use Rattle.std.proofs.Common.{◌≤◌, ◌≡◌, length}
use Rattle.qubathimi.proofs.run.Given as goal

abbrev pub invariant-loop : goal.invariant-loop
invariant-loop g l = (l.s.end ≤ length l.buf) × (length l.buf ≡ length l.fn.buf) × (length l.out ≡ length l.fn.out)
