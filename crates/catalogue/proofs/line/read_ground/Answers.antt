-- What the line's front tells, and the name behind it, if there is one. Assumes nothing.
use Rattle.std.proofs.Common.{◌≡◌, ◌∙◌, ℕ, ◌+◌, ◌-◌, ◌<◌, List, length, take, drop, arith}
use Rattle.std.proofs.lemmas.Result.{err_from_is_err_and}
use Rattle.refusal.specs.Paper.{answer}
use Rattle.refusal.proofs.PaperLaws.{asked-on}
use Rattle.catalogue.specs.Line.{label_in, name_in}
use Rattle.catalogue.proofs.LineLaws.{label-within, name-taken}
use Rattle.catalogue.proofs.GroundLaws.{stands, ground-refused, end_is, ground-bare, ground-named}
use Rattle.catalogue.proofs.line.read_ground.Goals as goal

-- what follows the label's space, as the code lends it
name-is : (line : List ℕ) {end : ℕ} → end ≡ length (label_in line) → take (length line - (end + 1)) (drop (end + 1) line) ≡ name_in line
name-is line e = rw e (name-taken line)

pub returns-in_err-front : goal.returns-in_err-front
returns-in_err-front c =
    let p = err_from_is_err_and c.from_residual.result c.from_residual.ensures.1 in
    rw (p.1, p.2) (ground-refused c.args.line.now c.in_err-front.field-0.0 c.in_err-front.ensures)

pub returns-then-front-line : goal.returns-then-front-line
returns-then-front-line c =
    let line = c.args.line.now in
    let told = stands line c.in_ok-front.ensures in
    ground-bare line told c.if-front-line.true

pub overflow_add-front : goal.overflow_add-front
overflow_add-front c =
    let line = c.args.line.now in
    let told = stands line c.in_ok-front.ensures in
    omega (arith, end_is line told, label-within line, c.if-front-line.false)

pub slice_bounds-with_name-count : goal.slice_bounds-with_name-count
slice_bounds-with_name-count c =
    let line = c.args.line.now in
    let told = stands line c.in_ok-front.ensures in
    omega (arith, end_is line told, label-within line, c.if-front-line.false)

pub slice_bounds-with_name-start : goal.slice_bounds-with_name-start
slice_bounds-with_name-start c =
    let line = c.args.line.now in
    let told = stands line c.in_ok-front.ensures in
    omega (arith, end_is line told, label-within line, c.if-front-line.false)

pub returns-in_err-with_name : goal.returns-in_err-with_name
returns-in_err-with_name c =
    let line = c.args.line.now in
    let told = stands line c.in_ok-front.ensures in
    let h : c.in_ok-front.front.end < length line = omega (arith, end_is line told, label-within line, c.if-front-line.false) in
    let p = err_from_is_err_and c.from_residual-in_err-with_name.result c.from_residual-in_err-with_name.ensures.1 in
    rw (p.1, p.2) (asked-on c.in_err-with_name.field-0.0 (λ n. answer c.in_ok-front.front) (rw (← name-is line (end_is line told)) c.in_err-with_name.ensures) ∙ ground-named line told h)

pub returns : goal.returns
returns c =
    let line = c.args.line.now in
    let told = stands line c.in_ok-front.ensures in
    let h : c.in_ok-front.front.end < length line = omega (arith, end_is line told, label-within line, c.if-front-line.false) in
    rw (← rw (name-is line (end_is line told)) at c.in_ok-with_name.ensures) at (ground-named line told h)
