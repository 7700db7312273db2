-- A field more is passed at each turn, with its hyphen, and where all in front are passed the field begins. Assumes nothing.
use Rattle.label.proofs.PlaceLaws.{Passing}
use Rattle.fault.proofs.place.field_start.Given as goal

abbrev pub invariant-loop : goal.invariant-loop
invariant-loop l = Passing l.bytes l.k l.start l.counter
