-- Each turn takes a digit into the number, and what is left to read stays the same run. Assumes nothing.
use Rattle.reading.proofs.DigitLaws.{Reading}
use Rattle.reading.proofs.numbers.digits.Given as goal

abbrev pub invariant-loop-i : goal.invariant-loop-i
invariant-loop-i l = Reading l.bytes l.at l.front l.value l.i
