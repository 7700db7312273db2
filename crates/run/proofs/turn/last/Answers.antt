-- No line has no row, and a line has its own. Assumes nothing.
use Rattle.refusal.proofs.WroteLaws.{wrote_none}
use Rattle.run.proofs.FeedLaws.{last_empty, last_some}
use Rattle.std.proofs.Common.{◌≡◌, length}
use native.Mathlib.Omega.{arith}
use Rattle.run.proofs.turn.last.Goals as goal

pub returns-then-is_empty : goal.returns-then-is_empty
returns-then-is_empty c =
    let s = c.args in
    let none : length s.line.now ≡ 0 = grind arith in
    rw (last_empty s.number s.line.now none) (wrote_none s.out.now 0 (omega arith))

pub returns : goal.returns
returns c =
    let s = c.args in
    let some : length s.line.now ≡ 0 → ⊥ = grind arith in
    rw (last_some s.number s.line.now some) c.put_whole.ensures
