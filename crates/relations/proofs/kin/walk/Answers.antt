-- Both moves stay on the grid, or the step is off it. Assumes nothing.
use mathlib.Core.Path.{◌∙◌, sym}
use Rattle.std.proofs.lemmas.Result.{err_from_is_err_and}
use Rattle.std.proofs.Common.{nat_abs}
use Rattle.division.specs.Table.{rows, columns}
use Rattle.relations.specs.Relations.{moved, walk}
use Rattle.division.proofs.TestLaws.{back}
use Rattle.division.proofs.NumberLaws.{sheet-there}
use Rattle.relations.proofs.RelationLaws.{off-columns, off-rows, moved-is, walked_on}
use Rattle.relations.proofs.kin.walk.Goals as goal

pub returns-in_err-column : goal.returns-in_err-column
returns-in_err-column c =
    let p = err_from_is_err_and c.from_residual.result c.from_residual.ensures.1 in
    let a = c.args in
    rw (p.1, p.2) (sym (off-columns a.at a.east a.south _ (sym (rw (c.row-t.ensures, back c.ranges.east) at c.in_err-column.ensures))))

pub returns-in_err-row : goal.returns-in_err-row
returns-in_err-row c =
    let p = err_from_is_err_and c.from_residual-in_err-row.result c.from_residual-in_err-row.ensures.1 in
    let a = c.args in
    let x = moved-is a.at.place.column a.east (columns a.at.scale) (sym (rw (c.row-t.ensures, back c.ranges.east) at c.in_ok-column.ensures)) in
    rw (p.1, p.2) (sym (off-rows a.at a.east a.south _ x.0 (sym (rw (c.row-t.ensures, back c.ranges.south) at c.in_err-row.ensures))))

pub returns : goal.returns
unfolding walk
returns c =
    let a = c.args in
    let x = moved-is a.at.place.column a.east (columns a.at.scale) (sym (rw (c.row-t.ensures, back c.ranges.east) at c.in_ok-column.ensures)) in
    let y = moved-is a.at.place.row a.south (rows a.at.scale) (sym (rw (c.row-t.ensures, back c.ranges.south) at c.in_ok-row.ensures)) in
    c.sheet_on.ensures ∙ rw (x.1, y.1, x.0, y.0) (sheet-there (record { row = nat_abs (moved a.at.place.row a.south); column = nat_abs (moved a.at.place.column a.east) }) (walked_on a.at a.east a.south c.requires x.0 y.0))
