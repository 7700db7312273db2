-- Where a field begins, the numbers that are stored and those from there on are the numbers of the label. Assumes nothing.
use Rattle.std.proofs.Common.{◌-◌, length}
use Rattle.reading.proofs.ScanLaws.{Scan}
use Rattle.reading.proofs.numbers.numbers_in.Given as goal

abbrev pub invariant-loop-start : goal.invariant-loop-start
invariant-loop-start l = Scan l.bytes l.numbers.items l.start

abbrev pub decreases-loop-start : goal.decreases-loop-start
decreases-loop-start l = length l.bytes - l.start
