-- The distance from the west edge, cut into widths, is a column of the grid; both fit 32 bits. Assumes nothing.
use native.Mathlib.Omega.{arith}
use Rattle.division.proofs.TableLaws.{rules}
use Rattle.division.proofs.GridLaws.{some-width}
use Rattle.division.proofs.grid.Grid.column_at.Goals as goal

pub overflow_mul-w : goal.overflow_mul-w
overflow_mul-w c = record { fits = omega (arith, c.width-w.ensures, (rules c.args.self.known).few-width) }

pub nonzero_div-result : goal.nonzero_div-result
nonzero_div-result c = rw c.width-w.ensures (some-width c.args.self.known)
