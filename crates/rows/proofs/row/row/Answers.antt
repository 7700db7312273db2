-- The number, the answer's words behind it, and the line feed: 20, 40 and 1 bytes at most. Assumes nothing.
use mathlib.Core.Path.{ap}
use Prim.Native.Nat.{◌≤◌}
use native.Mathlib.Omega.{arith}
use borrow.Author.Tests.{le-leb}
use lib.ListN.{length}
use Rattle.refusal.specs.Paper.{answer}
use Rattle.refusal.proofs.PaperLaws.{same_answer}
use Rattle.refusal.proofs.WroteLaws.{then, wrote-front, wrote-end}
use Rattle.label.specs.Text.{decimal}
use Rattle.label.proofs.DecimalLaws.{decimal-most}
use Rattle.rows.proofs.WordLaws.{row_wrote}
use Rattle.rows.proofs.row.row.Goals as goal

pub put_number-a-requires : goal.put_number-a-requires
put_number-a-requires c =
    let few : length (decimal c.args.number) ≤ 20 = let h = c.ranges.number.fits in decimal-most 19 c.args.number (omega arith) (omega arith) in
    omega (arith, c.if-room-lt64.false, few)

pub put_answer-b-requires : goal.put_answer-b-requires
put_answer-b-requires c =
    let few : length (decimal c.args.number) ≤ 20 = let h = c.ranges.number.fits in decimal-most 19 c.args.number (omega arith) (omega arith) in
    omega (arith, c.if-room-lt64.false, few, c.put_number-a.ensures.end, c.put_number-a.auto.out)

pub put_byte-end-requires : goal.put_byte-end-requires
put_byte-end-requires c =
    let few : length (decimal c.args.number) ≤ 20 = let h = c.ranges.number.fits in decimal-most 19 c.args.number (omega arith) (omega arith) in
    omega (arith, c.if-room-lt64.false, few, c.put_number-a.ensures.end, c.put_number-a.auto.out, c.put_answer-b.ensures.upper_bound, c.put_answer-b.auto.out)

pub returns : goal.returns
returns c =
    let few : length (decimal c.args.number) ≤ 20 = let h = c.ranges.number.fits in decimal-most 19 c.args.number (omega arith) (omega arith) in
    let s = c.args in
    let t = row_wrote s.number s.line.now (then c.put_number-a.ensures (then c.put_answer-b.ensures.wrote c.put_byte-end.ensures)) in
    rw (le-leb 64 (length s.room.now) c.if-room-lt64.false)
    (record { result_value = ap answer (wrote-end t); room_after = wrote-front t; by_index = λ n q. omega (arith, same_answer q, few, c.put_number-a.ensures.end, c.put_answer-b.ensures.upper_bound, c.put_byte-end.ensures.end) })
