-- A row begins within the area. Assumes nothing.
use mathlib.Core.Path.{◌≡◌, ◌∙◌, sym}
use Prim.Native.Nat.{◌-◌, ◌*◌, ◌≤◌}
use native.Mathlib.Omega.{arith}
use Rattle.division.specs.Table.{height}
use Rattle.division.specs.Grid.{millimetres}
use Rattle.division.proofs.TestLaws.{unsigned}
use Rattle.division.proofs.GridLaws.{high-in, north-is}
use Rattle.division.proofs.grid.Grid.north_of.Goals as goal

pub overflow_mul-y : goal.overflow_mul-y
overflow_mul-y c =
    let size : c.millimetres-h.result ≡ millimetres (height c.args.self.scale) = rw c.height.ensures at c.millimetres-h.ensures in
    let near : c.args.row * c.millimetres-h.result ≤ 600_000_000 = rw size (high-in c.args.self.known c.args.row c.requires) in
    omega (arith, near)

pub overflow_sub-y : goal.overflow_sub-y
overflow_sub-y c =
    let size : c.millimetres-h.result ≡ millimetres (height c.args.self.scale) = rw c.height.ensures at c.millimetres-h.ensures in
    let near : c.args.row * c.millimetres-h.result ≤ 600_000_000 = rw size (high-in c.args.self.known c.args.row c.requires) in
    omega (arith, near)

pub returns : goal.returns
returns c =
    let size : c.millimetres-h.result ≡ millimetres (height c.args.self.scale) = rw c.height.ensures at c.millimetres-h.ensures in
    let near : c.args.row * c.millimetres-h.result ≤ 600_000_000 = rw size (high-in c.args.self.known c.args.row c.requires) in
    unsigned (5_170_000_000 - c.args.row * c.millimetres-h.result) (omega arith) ∙ rw size (sym (north-is c.args.self.scale c.args.row (rw size at near)))
