-- At most four digits, or what stands before the last four and these behind it. Assumes nothing.
use native.Mathlib.Omega.{arith}
use Rattle.refusal.proofs.WroteLaws.{then}
use Rattle.rows.proofs.PairLaws.{FourBehind, decimal-four}
use Rattle.rows.proofs.row.put_long.Goals as goal

pub put_short-a-requires : goal.put_short-a-requires
put_short-a-requires c =
    let more : FourBehind c.args.v = decimal-four c.args.v c.if-v-lt10000.false c.ranges.v.fits in
    record { few = omega (arith, c.requires.few); fits = omega (arith, c.requires.fits, more.long) }

pub put_four-requires : goal.put_four-requires
put_four-requires c =
    let more : FourBehind c.args.v = decimal-four c.args.v c.if-v-lt10000.false c.ranges.v.fits in
    record { few = omega arith; fits = omega (arith, c.requires.fits, more.long, c.put_short-a.ensures.end, c.put_short-a.auto.out) }

pub returns : goal.returns
returns c =
    let more : FourBehind c.args.v = decimal-four c.args.v c.if-v-lt10000.false c.ranges.v.fits in
    rw more.is (then c.put_short-a.ensures c.put_four.ensures)
