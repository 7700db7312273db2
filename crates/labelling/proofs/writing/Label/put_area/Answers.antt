-- The row, and the column behind it. Assumes nothing.
use Rattle.std.proofs.Common.{◌+◌, ◌/◌, ◌%◌, ◌∷◌, arith}
use Rattle.label.specs.Text.{decimal}
use Rattle.label.proofs.LengthLaws.{two-long}
use Rattle.labelling.proofs.WritingLaws.{behind-two, then, longer}
use Rattle.labelling.proofs.writing.Label.put_area.Goals as goal

pub put_field-requires : goal.put_field-requires
put_field-requires c =
    record { fits = omega (arith, c.requires.fits, two-long (101 + c.args.i / c.args.columns) (1 + c.args.i % c.args.columns)); few = omega arith }

pub put_field-requires-2 : goal.put_field-requires-2
put_field-requires-2 c =
    record {
      fits = omega (arith, c.requires.fits, two-long (101 + c.args.i / c.args.columns) (1 + c.args.i % c.args.columns), longer c.args.self.now (45 ∷ decimal (101 + c.args.i / c.args.columns)) c.put_field.ensures);
      few = omega arith;
    }

pub returns : goal.returns
returns c =
    let row = 101 + c.args.i / c.args.columns in
    let column = 1 + c.args.i % c.args.columns in
    rw (behind-two row column) (then c.args.self.now (45 ∷ decimal row) (45 ∷ decimal column) c.put_field.ensures c.put_field-2.ensures)
