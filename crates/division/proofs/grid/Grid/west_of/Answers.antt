-- A column begins within the area. Assumes nothing.
use mathlib.Core.Path.{◌≡◌, ◌∙◌}
use Prim.Native.Nat.{◌+◌, ◌*◌, ◌≤◌}
use native.Mathlib.Omega.{arith}
use Rattle.division.specs.Table.{width}
use Rattle.division.specs.Grid.{millimetres}
use Rattle.division.proofs.TestLaws.{unsigned}
use Rattle.division.proofs.GridLaws.{wide-in}
use Rattle.division.proofs.grid.Grid.west_of.Goals as goal

pub overflow_mul-x : goal.overflow_mul-x
overflow_mul-x c =
    let size : c.millimetres-w.result ≡ millimetres (width c.args.self.scale) = rw c.width.ensures at c.millimetres-w.ensures in
    let near : c.args.column * c.millimetres-w.result ≤ 600_000_000 = rw size (wide-in c.args.self.known c.args.column c.requires) in
    omega (arith, near)

pub overflow_add-x : goal.overflow_add-x
overflow_add-x c =
    let size : c.millimetres-w.result ≡ millimetres (width c.args.self.scale) = rw c.width.ensures at c.millimetres-w.ensures in
    let near : c.args.column * c.millimetres-w.result ≤ 600_000_000 = rw size (wide-in c.args.self.known c.args.column c.requires) in
    omega (arith, near)

pub overflow_cast-result : goal.overflow_cast-result
overflow_cast-result c =
    let size : c.millimetres-w.result ≡ millimetres (width c.args.self.scale) = rw c.width.ensures at c.millimetres-w.ensures in
    let near : c.args.column * c.millimetres-w.result ≤ 600_000_000 = rw size (wide-in c.args.self.known c.args.column c.requires) in
    omega (arith, near)

pub returns : goal.returns
returns c =
    let size : c.millimetres-w.result ≡ millimetres (width c.args.self.scale) = rw c.width.ensures at c.millimetres-w.ensures in
    let near : c.args.column * c.millimetres-w.result ≤ 600_000_000 = rw size (wide-in c.args.self.known c.args.column c.requires) in
    unsigned (200_000_000 + c.args.column * c.millimetres-w.result) (omega (arith, near)) ∙ rw size
