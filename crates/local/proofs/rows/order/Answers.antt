-- A sheet's index tells its 1:50 000 sheet and its place in that, and so its row and column. Assumes nothing.
use mathlib.Core.Path.{sym}
use Rattle.division.specs.Table.{table, table_row, rows_of, columns_of}
use Rattle.local.proofs.RowLaws.{order-parts}
use Rattle.local.proofs.rows.order.Goals as goal

pub returns : goal.returns
unfolding table table_row rows_of columns_of
returns c = simp (c.row-across.ensures, c.row-t.ensures) (sym (order-parts c.requires))
