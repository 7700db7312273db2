-- Each sheet that stands before it is counted, and its place by rows is their number. Assumes nothing.
use mathlib.Core.Path.{◌≡◌, ◌∙◌}
use native.Mathlib.Omega.{arith}
use Rattle.division.specs.Words.{◌<?◌}
use Rattle.division.specs.Sheet.{reading_order}
use Rattle.division.proofs.NumberLaws.{at_most_one}
use Rattle.division.proofs.MemberLaws.{in_mem, mem-at}
use Rattle.local.specs.Rows.{by_rows, place_in}
use Rattle.local.proofs.CountLaws.{counting-next, counting-done}
use Rattle.local.proofs.MunicipalityLaws.{few, member-scale}
use Rattle.local.proofs.RowLaws.{counted-place}
use Rattle.local.proofs.sheets.Municipality.rank.Goals as goal

pub order-at-requires : goal.order-at-requires
order-at-requires c = let m = c.args.self.now in member-scale m.judged (in_mem c.args.sheet m.sheets.now c.requires)

pub order-requires : goal.order-requires
order-requires c = let m = c.args.self.now in member-scale m.judged (mem-at m.sheets.now c.loop-other.other-index c.loop-other-test.true)

pub overflow_add-count : goal.overflow_add-count
overflow_add-count c =
    omega (arith, at_most_one (c.order.result <? c.order-at.result), c.loop-other.invariant.few, c.loop-other.invariant.upto, few c.args.self.now.judged)

pub loop-other-preserved : goal.loop-other-preserved
loop-other-preserved c =
    rw (c.from-count.ensures, c.order.ensures) (counting-next (λ x. reading_order x <? c.order-at.result) c.loop-other.invariant c.loop-other-test.true)

pub overflow_add-result : goal.overflow_add-result
overflow_add-result c = omega (arith, c.loop-other.invariant.few, c.loop-other.invariant.upto, few c.args.self.now.judged)

pub returns : goal.returns
returns c =
    let m = c.args.self.now in
    let place_is : c.loop-other.count ≡ place_in c.args.sheet (by_rows m.sheets.now) = counting-done (λ x. reading_order x <? c.order-at.result) c.loop-other.invariant c.loop-other-test.false ∙ counted-place c.args.sheet m.judged c.requires c.order-at.ensures in
    omega (arith, place_is)
