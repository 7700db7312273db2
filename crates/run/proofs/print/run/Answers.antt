-- After every turn what was sunk and what is still to be printed are the whole; what is left to read and to do falls. Assumes nothing.
use mathlib.Core.Path.{refl}
use native.Mathlib.Omega.{arith}
use Rattle.refusal.proofs.PaperLaws.{fails}
use Rattle.run.proofs.RunLaws.{run-first, run_on, run-less}
use Rattle.run.proofs.print.run.Goals as goal

pub loop-s-init : goal.loop-s-init
loop-s-init c =
    let s = c.args in
    rw c.begin-s.ensures (run-first s.input.now s.sink.now s.buf.now s.out.now)

pub loop-s-smaller : goal.loop-s-smaller
loop-s-smaller c =
    let turned = c.turn-s.ensures in
    run-less c.loop-s.invariant (fails refl c.loop-s-test.true) (c.requires.in_bounds, (c.requires.buf_len_bound, c.requires.in_bounds_2)) (omega (arith, c.well_formed.0.1)) c.bring-got.ensures (turned.value, (turned.buf_after, (turned.out_after, (turned.end_in_bounds, turned.written_in_bounds)))) c.turn-s.auto.buf c.turn-s.auto.out

pub loop-s-preserved : goal.loop-s-preserved
loop-s-preserved c =
    let turned = c.turn-s.ensures in
    run_on c.loop-s.invariant (fails refl c.loop-s-test.true) (c.requires.in_bounds, (c.requires.buf_len_bound, c.requires.in_bounds_2)) (omega (arith, c.well_formed.0.1)) c.bring-got.ensures (turned.value, (turned.buf_after, (turned.out_after, (turned.end_in_bounds, turned.written_in_bounds)))) c.turn-s.auto.buf c.turn-s.auto.out (record { wrote = c.pour-p.ensures.wrote; whole = c.pour-p.ensures.whole_value })
