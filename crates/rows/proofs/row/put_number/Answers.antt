-- Five to eight digits, as those before the last four and these behind them, or any number. Assumes nothing.
use native.Mathlib.Omega.{arith}
use Rattle.refusal.proofs.WroteLaws.{then}
use Rattle.rows.proofs.PairLaws.{FourBehind, decimal-four}
use Rattle.rows.proofs.row.put_number.Goals as goal

pub put_short-a-requires : goal.put_short-a-requires
put_short-a-requires c =
    let more : FourBehind c.args.n = decimal-four c.args.n (grind arith) c.ranges.n.fits in
    record { few = grind arith; fits = omega (arith, c.requires, more.long) }

pub put_four-requires : goal.put_four-requires
put_four-requires c =
    let more : FourBehind c.args.n = decimal-four c.args.n (grind arith) c.ranges.n.fits in
    record { few = omega arith; fits = omega (arith, c.requires, more.long, c.put_short-a.ensures.end, c.put_short-a.auto.out) }

pub returns : goal.returns
returns c =
    let more : FourBehind c.args.n = decimal-four c.args.n (grind arith) c.ranges.n.fits in
    rw more.is (then c.put_short-a.ensures c.put_four.ensures)
