-- The rows and columns end within the grid. Assumes nothing.
use native.Mathlib.Omega.{arith}
use Rattle.division.proofs.TableLaws.{rules}
use Rattle.delivery.proofs.cover.Cover.place_in.Goals as goal

pub has-requires : goal.has-requires
has-requires c = let p = c.args.self.in_grid in omega (arith, p.in_rows, (rules p.scale).few-rows)

pub has-requires-2 : goal.has-requires-2
has-requires-2 c = let p = c.args.self.in_grid in omega (arith, p.in-columns, (rules p.scale).few-columns)
