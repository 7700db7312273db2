-- A window in the area is a stretch from the area's west edge on, and the columns that share a point with it are its span. Assumes nothing.
use mathlib.Core.Path.{◌≡◌, sym}
use native.Mathlib.Omega.{arith}
use mir.Syntax.{w64}
use mir.Val.{to_z, of_z}
use Rattle.division.specs.Given.{Seen}
use Rattle.division.proofs.TestLaws.{returned}
use Rattle.division.proofs.GridLaws.{some-width}
use Rattle.division.proofs.SpanLaws.{span-is}
use Rattle.division.proofs.WindowLaws.{columns-run}
use Rattle.division.proofs.cover.columns_in.Goals as goal

pub span_of-requires-clause-size_nonzero : goal.span_of-requires-clause-size_nonzero
span_of-requires-clause-size_nonzero c = rw (c.millimetres-size.ensures, c.width.ensures) (some-width c.args.grid.known)

pub returns : goal.returns
returns c =
    let w = c.args.window in
    let west : to_z w64 (of_z w64 w.edges.west) ≡ w.edges.west = returned w.edges.west (omega arith) in
    let east : to_z w64 (of_z w64 w.edges.east) ≡ w.edges.east = returned w.edges.east (omega arith) in
    let seen : Seen c.args.grid.scale w.edges = record { scale = c.args.grid.known; window = w.some; inside = w.inside } in
    rw (c.span_of.ensures, c.distance.ensures, c.distance-2.ensures, west, east, c.millimetres-size.ensures, c.width.ensures)
    (sym (span-is (columns-run seen)))
