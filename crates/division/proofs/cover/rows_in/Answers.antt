-- A window in the area is a stretch from the area's north edge on, and the rows that share a point with it are its span. Assumes nothing.
use mathlib.Core.Path.{◌≡◌, sym}
use native.Mathlib.Omega.{arith}
use mir.Syntax.{w64}
use mir.Val.{to_z, of_z}
use Rattle.division.specs.Given.{Seen}
use Rattle.division.proofs.TestLaws.{returned}
use Rattle.division.proofs.GridLaws.{some-height}
use Rattle.division.proofs.SpanLaws.{span-is}
use Rattle.division.proofs.WindowLaws.{rows_run}
use Rattle.division.proofs.cover.rows_in.Goals as goal

pub span_of-requires-clause-size_nonzero : goal.span_of-requires-clause-size_nonzero
span_of-requires-clause-size_nonzero c = rw (c.millimetres-size.ensures, c.height.ensures) (some-height c.args.grid.known)

pub returns : goal.returns
returns c =
    let w = c.args.window in
    let north : to_z w64 (of_z w64 w.edges.north) ≡ w.edges.north = returned w.edges.north (omega arith) in
    let south : to_z w64 (of_z w64 w.edges.south) ≡ w.edges.south = returned w.edges.south (omega arith) in
    let seen : Seen c.args.grid.scale w.edges = record { scale = c.args.grid.known; window = w.some; inside = w.inside } in
    rw (c.span_of.ensures, c.distance.ensures, c.distance-2.ensures, north, south, c.millimetres-size.ensures, c.height.ensures)
    (sym (span-is (rows_run seen)))
