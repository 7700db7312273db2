-- The parent's place is on the eighth grid, and its index and the number there make the sheet under the point. Assumes nothing.
use Rattle.std.proofs.Common.{◌≡◌}
use Prim.Native.Nat.{◌+◌, ◌-◌, ◌*◌}
use native.Mathlib.Omega.{arith}
use Rattle.division.specs.Given.{OnGrid}
use Rattle.division.specs.Sheet.{sheet_of}
use Rattle.division.proofs.FamilyLaws.{ninth-up, ninth-sheet, ninth-few}
use Rattle.division.proofs.sheet.ninth_under.Goals as goal

pub invariant_of-up : goal.invariant_of-up
invariant_of-up c =
    let cell = c.cell_at-cell in
    let on : OnGrid 9 cell.result.place = rw cell.ensures.scale_value at cell.result.on_grid in
    record { on_grid = rw c.parent_place.ensures (ninth-up on) }

pub overflow_mul-result : goal.overflow_mul-result
overflow_mul-result c =
    let cell = c.cell_at-cell in
    let on : OnGrid 9 cell.result.place = rw cell.ensures.scale_value at cell.result.on_grid in
    let sheet : c.first.result + c.index.result * 4 + (c.number_in-j.result - 1) ≡ sheet_of 9 cell.result.place = ninth-sheet on c.number_in-j.ensures c.parent_place.ensures c.first.ensures c.index.ensures in
    omega (arith, sheet, ninth-few on)

pub overflow_add-result : goal.overflow_add-result
overflow_add-result c =
    let cell = c.cell_at-cell in
    let on : OnGrid 9 cell.result.place = rw cell.ensures.scale_value at cell.result.on_grid in
    let sheet : c.first.result + c.index.result * 4 + (c.number_in-j.result - 1) ≡ sheet_of 9 cell.result.place = ninth-sheet on c.number_in-j.ensures c.parent_place.ensures c.first.ensures c.index.ensures in
    omega (arith, sheet, ninth-few on)

pub overflow_add-result-2 : goal.overflow_add-result-2
overflow_add-result-2 c =
    let cell = c.cell_at-cell in
    let on : OnGrid 9 cell.result.place = rw cell.ensures.scale_value at cell.result.on_grid in
    let sheet : c.first.result + c.index.result * 4 + (c.number_in-j.result - 1) ≡ sheet_of 9 cell.result.place = ninth-sheet on c.number_in-j.ensures c.parent_place.ensures c.first.ensures c.index.ensures in
    omega (arith, sheet, ninth-few on)

pub returns : goal.returns
returns c =
    let cell = c.cell_at-cell in
    let on : OnGrid 9 cell.result.place = rw cell.ensures.scale_value at cell.result.on_grid in
    rw cell.ensures.place_value at (ninth-sheet on c.number_in-j.ensures c.parent_place.ensures c.first.ensures c.index.ensures)
