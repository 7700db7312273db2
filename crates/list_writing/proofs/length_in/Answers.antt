-- More than 4 096 numbers are refused, and fewer are measured. Assumes nothing.
use mathlib.Core.Path.{sym}
use Rattle.shelf.specs.Kind.{kind_of}
use Rattle.shelf.proofs.WritingLaws.{many}
use Rattle.list_writing.proofs.length_in.Goals as goal

pub returns-then-numbers-gt4096 : goal.returns-then-numbers-gt4096
returns-then-numbers-gt4096 g c = sym (many (kind_of g.K.Kind.name) c.args.numbers.now c.if-numbers-gt4096.true)
