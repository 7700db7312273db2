-- At most four digits, or the number without its last four and these behind it. Assumes nothing.
use native.Mathlib.Omega.{arith}
use Rattle.refusal.proofs.WroteLaws.{then}
use Rattle.rows.proofs.PairLaws.{FourBehind, decimal-four}
use Rattle.rows.proofs.row.+put_any.Goals as goal

pub put_any-a-requires : goal.put_any-a-requires
put_any-a-requires t c =
    let more : FourBehind c.args.n = decimal-four c.args.n c.if-n-lt10000.false c.ranges.n.fits in
    (omega (arith, c.decreases, c.if-n-lt10000.false), omega (arith, c.requires, more.long))

pub put_four-requires : goal.put_four-requires
put_four-requires t c =
    let more : FourBehind c.args.n = decimal-four c.args.n c.if-n-lt10000.false c.ranges.n.fits in
    record { few = omega arith; fits = omega (arith, c.requires, more.long, c.put_any-a.ensures.end, c.put_any-a.auto.out) }

pub returns : goal.returns
returns t c =
    let more : FourBehind c.args.n = decimal-four c.args.n c.if-n-lt10000.false c.ranges.n.fits in
    rw more.is (then c.put_any-a.ensures c.put_four.ensures)
