-- The places before i have the orders of the sheets before i. Assumes nothing.
use mathlib.Core.Path.{◌∙◌}
use native.Mathlib.Omega.{arith}
use lib.ListN.{length-set}
use Rattle.division.proofs.MemberLaws.{mem-at}
use Rattle.local.proofs.MunicipalityLaws.{few, member-scale}
use Rattle.local.proofs.RowLaws.{put_order}
use Rattle.local.proofs.sheets.Municipality.orders.Goals as goal

pub order-requires : goal.order-requires
order-requires c = let m = c.args.self.now in member-scale m.judged (mem-at m.sheets.now c.loop-i.i c.loop-i-test.true)

pub bounds-all-i : goal.bounds-all-i
bounds-all-i c = omega (arith, few c.args.self.now.judged, c.loop-i-test.true)

pub loop-i-preserved : goal.loop-i-preserved
loop-i-preserved c =
    let m = c.args.self.now in (
      omega arith,
      length-set c.loop-i.all c.loop-i.i c.order.result ∙ c.loop-i.invariant.1,
      put_order m.sheets.now c.loop-i.all c.loop-i.i c.order.result c.loop-i-test.true (omega (arith, few m.judged, c.loop-i.invariant.1, c.loop-i-test.true)) c.order.ensures c.loop-i.invariant.2,
    )
