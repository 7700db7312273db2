-- Fewer than n orders are below `low`, at least n below `high`, and the two come together. Assumes nothing.
use native.Mathlib.Omega.{arith}
use Rattle.local.proofs.CountLaws.{reached-first}
use Rattle.local.proofs.rows.nth.Goals as goal

pub loop-high-init : goal.loop-high-init
loop-high-init c =
    let f = reached-first c.args.bound c.requires in
    (f.0, omega arith, f.1, c.requires.enough)
