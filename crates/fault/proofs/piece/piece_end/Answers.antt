-- The piece goes on from the place that the loop has come to: it ends in the block there, or the block is passed. Assumes nothing.
use Rattle.std.proofs.Common.{◌≡◌, ℕ, ◌+◌, ◌-◌, length, take, drop, arith}
use Rattle.label.proofs.PieceLaws.{piece, in_block, past-block}
use Rattle.fault.proofs.TailLaws.{tail-end, tail-within}
use Rattle.fault.proofs.piece.piece_end.Goals as goal

-- the part from i to i + 64
size : (i : ℕ) → i + 64 - i ≡ 64
size i = omega arith

pub returns-then-at-lt64 : goal.returns-then-at-lt64
returns-then-at-lt64 c =
    let s = c.args.bytes.now in
    let i = c.loop-i.i in
    let ended : c.block_end-at.result ≡ length (piece c.args.mark (take 64 (drop i s))) = rw (size i) at c.block_end-at.ensures in
    omega (arith, ended, in_block c.args.mark s i 64 (omega (arith, ended)))

pub loop-i-preserved : goal.loop-i-preserved
loop-i-preserved c =
    let s = c.args.bytes.now in
    let i = c.loop-i.i in
    let ended : c.block_end-at.result ≡ length (piece c.args.mark (take 64 (drop i s))) = rw (size i) at c.block_end-at.ensures in
    (omega arith, omega (arith, past-block c.args.mark s i 64 (omega (arith, ended))))

pub overflow_add-result-2 : goal.overflow_add-result-2
overflow_add-result-2 c =
    omega (arith, tail-within c.args.mark c.args.bytes.now c.loop-i.i c.rest_end.ensures (omega arith))

pub returns : goal.returns
returns c = omega (arith, tail-end c.args.mark c.args.bytes.now c.loop-i.i c.rest_end.ensures)
