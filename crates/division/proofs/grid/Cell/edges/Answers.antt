-- The four edges are those that the definition names. Assumes nothing.
use native.Mathlib.Omega.{arith}
use Rattle.division.specs.Grid.{edges_of}
use Rattle.division.proofs.TestLaws.{returned}
use Rattle.division.proofs.TableLaws.{rules}
use Rattle.division.proofs.grid.Cell.edges.Goals as goal

pub overflow_add-self : goal.overflow_add-self
overflow_add-self c = let o = c.args.self.on_grid in omega (arith, o.in-columns, (rules o.scale).few-columns)

pub overflow_add-self-2 : goal.overflow_add-self-2
overflow_add-self-2 c = let o = c.args.self.on_grid in omega (arith, o.in_rows, (rules o.scale).few-rows)

pub returns : goal.returns
unfolding edges_of
returns c =
    rw (returned c.west_of.result c.west_of.type_inv, returned c.west_of-2.result c.west_of-2.type_inv, returned c.north_of.result c.north_of.type_inv, returned c.north_of-2.result c.north_of-2.type_inv, c.west_of.ensures, c.west_of-2.ensures, c.north_of.ensures, c.north_of-2.ensures)
