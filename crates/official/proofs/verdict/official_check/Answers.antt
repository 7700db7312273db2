-- The line is read, and what is read is checked. Assumes nothing.
use Rattle.std.proofs.lemmas.Result.{err_from_is_err_and}
use Rattle.refusal.proofs.PaperLaws.{asked-on}
use Rattle.official.specs.Verdict.{check_at, check_line}
use Rattle.official.proofs.verdict.official_check.Goals as goal

pub returns-in_err-sheet : goal.returns-in_err-sheet
unfolding check_line
returns-in_err-sheet c =
    let p = err_from_is_err_and c.from_residual.result c.from_residual.ensures.1 in
    rw (p.1, p.2) (asked-on c.in_err-sheet.field-0.0 (check_at c.args.line.now) c.in_err-sheet.ensures)

pub returns : goal.returns
unfolding check_line
returns c = rw (← c.in_ok-sheet.ensures) c.check_at.ensures
