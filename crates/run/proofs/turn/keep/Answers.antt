-- The first 66 bytes, or all of fewer, go to the front. Assumes nothing.
use native.Mathlib.Omega.{arith}
use Rattle.run.proofs.PartLaws.{moved-front}
use Rattle.run.proofs.turn.keep.Goals as goal

pub returns : goal.returns
returns c =
    let s = c.args in
    moved-front s.buf.now s.a s.n c.min-k.result (c.requires.a_le_n, c.requires.n_in_bounds) (omega (arith, c.min-k.ensures)) c.copy_within.ensures.after
