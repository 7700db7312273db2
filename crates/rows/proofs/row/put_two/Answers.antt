-- One digit, or a pair. Assumes nothing.
use mathlib.Core.Path.{◌≡◌, ap}
use native.Mathlib.Omega.{arith}
use lib.ListN.{length}
use Rattle.label.specs.Text.{decimal}
use Rattle.label.proofs.DecimalLaws.{decimal_digit}
use Rattle.rows.specs.Given.{pair}
use Rattle.rows.proofs.PairLaws.{decimal-tens}
use Rattle.rows.proofs.row.put_two.Goals as goal

pub put_byte-requires : goal.put_byte-requires
put_byte-requires c = omega (arith, c.requires.fits, ap length (decimal_digit c.args.v c.if-v-lt10.true))

pub returns-then-v-lt10 : goal.returns-then-v-lt10
returns-then-v-lt10 c = rw (decimal_digit c.args.v c.if-v-lt10.true) c.put_byte.ensures

pub put_pair-requires : goal.put_pair-requires
put_pair-requires c =
    let two : decimal c.args.v ≡ pair c.args.v = decimal-tens c.args.v c.if-v-lt10.false c.requires.few in
    record { few = c.requires.few; fits = omega (arith, c.requires.fits, ap length two) }

pub returns : goal.returns
returns c =
    let two : decimal c.args.v ≡ pair c.args.v = decimal-tens c.args.v c.if-v-lt10.false c.requires.few in
    rw two c.put_pair.ensures
