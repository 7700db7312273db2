-- The label is read, and behind it the name, if there is one. Assumes nothing.
use Rattle.std.proofs.Common.{◌∙◌, ◌<◌, length, length-take, arith}
use Rattle.std.proofs.lemmas.Result.{err_from_is_err_and}
use Rattle.catalogue.proofs.LineLaws.{end_of, end-within, read-bare, read_named, read-refused}
use Rattle.catalogue.proofs.line.read_line.Goals as goal

pub slice_bounds-read_label-end : goal.slice_bounds-read_label-end
slice_bounds-read_label-end c =
    let line = c.args.line.now in
    omega (arith, c.label_end-end.ensures, end-within line, length-take c.label_end-end.result line)

pub returns-in_err-sheet : goal.returns-in_err-sheet
returns-in_err-sheet c =
    let p = err_from_is_err_and c.from_residual.result c.from_residual.ensures.1 in
    let line = c.args.line.now in
    rw (p.1, p.2) (read-refused line c.in_err-sheet.field-0.0 (rw c.label_end-end.ensures at c.in_err-sheet.ensures))

pub returns-then-end-line : goal.returns-then-end-line
returns-then-end-line c =
    let line = c.args.line.now in
    c.in_ok-sheet.ensures ∙ rw c.label_end-end.ensures (read-bare line (omega (arith, c.label_end-end.ensures, c.if-end-line.true)))

pub slice_bounds-with_name-count : goal.slice_bounds-with_name-count
slice_bounds-with_name-count c = omega (arith, c.label_end-end.ensures, end-within c.args.line.now, c.if-end-line.false)

pub slice_bounds-with_name-start : goal.slice_bounds-with_name-start
slice_bounds-with_name-start c = omega (arith, c.label_end-end.ensures, end-within c.args.line.now, c.if-end-line.false)

pub returns : goal.returns
returns c =
    let line = c.args.line.now in
    let h : end_of line < length line = omega (arith, c.label_end-end.ensures, end-within line, c.if-end-line.false) in
    c.with_name.ensures ∙ rw c.label_end-end.ensures (rw (← rw c.label_end-end.ensures at c.in_ok-sheet.ensures) at (read_named line h))
