-- The number is the scale's first plus an index below its count. Assumes nothing.
use native.Mathlib.Omega.{arith}
use Rattle.division.proofs.TableLaws.{rules}
use Rattle.division.proofs.NumberLaws.{index-few}
use Rattle.division.proofs.grid.Cell.sheet.Goals as goal

pub overflow_add-result : goal.overflow_add-result
overflow_add-result c =
    let o = c.args.self.on_grid in
    rw (c.first.ensures, c.index.ensures) (omega (arith, index-few o, (rules o.scale).low))
