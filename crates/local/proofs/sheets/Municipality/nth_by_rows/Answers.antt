-- The n-th order is that of the n-th sheet by rows, and tells its place. Assumes nothing.
use mathlib.Core.Path.{◌∙◌}
use native.Mathlib.Omega.{arith}
use Rattle.local.proofs.RowLaws.{few-places, reaches, sheet-at}
use Rattle.local.proofs.sheets.Municipality.nth_by_rows.Goals as goal

pub overflow_mul-t : goal.overflow_mul-t
overflow_mul-t c = rw c.row-t.ensures (omega (arith, few-places))

pub nth-at-requires : goal.nth-at-requires
nth-at-requires c = rw c.row-t.ensures (reaches c.args.self.now.judged c.requires.one c.requires.last c.orders-all.result c.orders-all.ensures)

pub returns : goal.returns
returns c =
    rw c.row-t.ensures at c.sheet_on.ensures ∙ sheet-at c.args.self.now.judged c.requires.one c.requires.last c.orders-all.result c.orders-all.ensures (rw c.row-t.ensures at c.nth-at.ensures)
