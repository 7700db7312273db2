-- A field more is passed at each turn, with its hyphen, and where all in front are passed the field begins. Assumes nothing.
use Rattle.std.proofs.Common.{arith}
use Rattle.label.proofs.PlaceLaws.{none_passed, all-passed, one-passed}
use Rattle.fault.proofs.TailLaws.{tail-end, tail-within}
use Rattle.fault.proofs.place.field_start.Goals as goal

pub loop-init : goal.loop-init
loop-init c = none_passed c.args.bytes.now c.args.k

pub overflow_add-start : goal.overflow_add-start
overflow_add-start c =
    omega (arith, tail-within 45 c.args.bytes.now c.loop.start c.piece_end.ensures (omega arith))

pub overflow_add-start-in-loop : goal.overflow_add-start-in-loop
overflow_add-start-in-loop c =
    omega (arith, tail-within 45 c.args.bytes.now c.loop.start c.piece_end.ensures (omega arith))

pub loop-preserved : goal.loop-preserved
loop-preserved c =
    rw (tail-end 45 c.args.bytes.now c.loop.start c.piece_end.ensures) (one-passed c.loop.invariant c.loop-test.true c.if-bytes-start.false)

pub returns : goal.returns
returns c = all-passed c.loop.invariant c.loop-test.false
