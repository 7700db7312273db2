-- Fewer than n orders are below `low`, at least n below `high`, and the two come together. Assumes nothing.
use Prim.Native.Nat.{◌-◌, ◌≤◌, ◌<◌}
use Rattle.local.specs.Given.{count_below}
use Rattle.local.proofs.rows.nth.Given as goal

abbrev pub invariant-loop-high : goal.invariant-loop-high
invariant-loop-high l = (l.low < l.high) × (l.high ≤ l.bound) × (count_below l.low l.orders < l.n) × (l.n ≤ count_below l.high l.orders)

abbrev pub decreases-loop-high : goal.decreases-loop-high
decreases-loop-high l = l.high - l.low
