-- At most two digits, or what stands before the last two and these behind it. Assumes nothing.
use Prim.Native.Nat.{◌/◌, ◌%◌}
use native.Mathlib.Omega.{arith}
use Rattle.rows.specs.Given.{pair}
use Rattle.refusal.proofs.WroteLaws.{then}
use Rattle.rows.proofs.PairLaws.{Behind, decimal-pair}
use Rattle.rows.proofs.row.put_short.Goals as goal

pub put_two-a-requires : goal.put_two-a-requires
put_two-a-requires c =
    let more : Behind c.args.v (c.args.v / 100) (pair (c.args.v % 100)) = decimal-pair c.args.v c.if-v-lt100.false c.ranges.v.fits in
    record { few = omega (arith, c.requires.few); fits = omega (arith, c.requires.fits, more.long) }

pub put_pair-requires : goal.put_pair-requires
put_pair-requires c =
    let more : Behind c.args.v (c.args.v / 100) (pair (c.args.v % 100)) = decimal-pair c.args.v c.if-v-lt100.false c.ranges.v.fits in
    record { few = omega arith; fits = omega (arith, c.requires.fits, more.long, c.put_two-a.ensures.end, c.put_two-a.auto.out) }

pub returns : goal.returns
returns c =
    let more : Behind c.args.v (c.args.v / 100) (pair (c.args.v % 100)) = decimal-pair c.args.v c.if-v-lt100.false c.ranges.v.fits in
    rw more.is (then c.put_two-a.ensures c.put_pair.ensures)
