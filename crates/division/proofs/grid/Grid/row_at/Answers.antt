-- The distance from the north edge, cut into heights, is a row of the grid; both fit 32 bits. Assumes nothing.
use native.Mathlib.Omega.{arith}
use Rattle.division.proofs.TableLaws.{rules}
use Rattle.division.proofs.GridLaws.{some-height}
use Rattle.division.proofs.grid.Grid.row_at.Goals as goal

pub overflow_mul-h : goal.overflow_mul-h
overflow_mul-h c = record { fits = omega (arith, c.height-h.ensures, (rules c.args.self.known).few-height) }

pub nonzero_div-result : goal.nonzero_div-result
nonzero_div-result c = rw c.height-h.ensures (some-height c.args.self.known)
