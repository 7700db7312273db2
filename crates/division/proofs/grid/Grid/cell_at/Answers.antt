-- A point of the area lies in a row and a column of the grid. Assumes nothing.
use Rattle.division.proofs.PointLaws.{point-on, inside}
use Rattle.division.proofs.grid.Grid.cell_at.Goals as goal

pub invariant_of-result : goal.invariant_of-result
invariant_of-result c =
    let a = c.args in
    record { on_grid = rw (c.row_at-row.ensures, c.column_at-column.ensures) (point-on (inside a.self.known a.point.e a.point.n a.point.inside)) }
