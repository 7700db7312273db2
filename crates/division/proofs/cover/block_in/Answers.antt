-- Past the three tests the window meets rows and columns of the grid, and the product of their counts decides. Assumes nothing.
use mathlib.Core.Path.{sym}
use Prim.Native.Nat.{◌*◌, ◌≤◌}
use native.Mathlib.Omega.{arith}
use Rattle.division.specs.Given.{Seen}
use Rattle.division.proofs.CoverLaws.{few, many, not-many}
use Rattle.division.proofs.cover.block_in.Goals as goal

pub overflow_mul-down : goal.overflow_mul-down
overflow_mul-down c =
    let grid = c.in_ok-grid.grid in
    let window = c.in_ok-window.window in
    let seen : Seen grid.scale window.edges = record { scale = grid.known; window = window.some; inside = window.inside } in
    let few-sheets : c.rows_in-down.result.count * c.columns_in-across.result.count ≤ 6_000_000 = rw (c.rows_in-down.ensures, c.columns_in-across.ensures) (few seen) in
    omega (arith, few-sheets)

pub returns-then-down-across-gt4096 : goal.returns-then-down-across-gt4096
returns-then-down-across-gt4096 c =
    let grid = c.in_ok-grid.grid in
    let window = c.in_ok-window.window in
    let seen : Seen grid.scale window.edges = record { scale = grid.known; window = window.some; inside = window.inside } in
    let m = many seen (rw (c.rows_in-down.ensures, c.columns_in-across.ensures) at c.if-down-across-gt4096.true) in
    rw (c.in_ok-grid.ensures.1, c.in_ok-window.ensures.1) at (sym m)

pub returns : goal.returns
returns c =
    let grid = c.in_ok-grid.grid in
    let window = c.in_ok-window.window in
    let seen : Seen grid.scale window.edges = record { scale = grid.known; window = window.some; inside = window.inside } in
    let m = not-many seen (rw (c.rows_in-down.ensures, c.columns_in-across.ensures) at c.if-down-across-gt4096.false) in
    rw (c.rows_in-down.ensures, c.columns_in-across.ensures, ← c.in_ok-grid.ensures.1, ← c.in_ok-window.ensures.1) (sym m)
