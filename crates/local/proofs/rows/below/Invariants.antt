-- The orders counted so far, and those that are left to count, make the whole. Assumes nothing.
use Rattle.division.specs.Words.{◌<?◌}
use Rattle.local.proofs.CountLaws.{Counting}
use Rattle.local.proofs.rows.below.Given as goal

abbrev pub invariant-loop-order : goal.invariant-loop-order
invariant-loop-order l = Counting (λ x. x <? l.bound) l.orders l.count l.order-index
