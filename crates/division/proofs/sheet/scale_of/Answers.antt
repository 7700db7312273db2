-- The scales counted so far, and those that are left to ask, make the scale. Assumes nothing.
use mathlib.Core.Path.{◌∙◌}
use native.Mathlib.Nat.{zero-add}
use native.Mathlib.Omega.{arith}
use Rattle.division.specs.Words.{◌≤?◌}
use Rattle.division.specs.Table.{first}
use Rattle.division.proofs.NumberLaws.{begun_from, begun-scales, at_most_one, one-asked, all_asked}
use Rattle.division.proofs.sheet.scale_of.Goals as goal

pub loop-s-init : goal.loop-s-init
loop-s-init c = (zero-add (begun_from c.args.n 1) ∙ begun-scales c.args.n c.requires, (omega arith, omega arith))

pub loop-s-preserved : goal.loop-s-preserved
loop-s-preserved c =
    let l = c.loop-s in
    let n = c.args.n in
    rw c.first.ensures (omega (arith, l.invariant.0, one-asked n l.s c.loop-s-test.true), (omega (arith, at_most_one (first l.s ≤? n), l.invariant.1.0), omega arith))

pub returns : goal.returns
returns c = let l = c.loop-s in omega (arith, l.invariant.0, all_asked c.args.n l.s c.loop-s-test.false)
