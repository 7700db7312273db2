-- Each turn reads one entry and places its number, and leaves the rest of the reading as it was. Assumes nothing.
use Rattle.shelf.specs.Kind.{kind_of}
use Rattle.shelf.proofs.ReadingLaws.{Entering}
use Rattle.list_reading.proofs.read_entries.Given as goal

abbrev pub invariant-loop-i : goal.invariant-loop-i
invariant-loop-i g l = Entering (kind_of g.K.Kind.name) l.times l.bytes l.count l.initial.room l.room l.rest l.least l.i
