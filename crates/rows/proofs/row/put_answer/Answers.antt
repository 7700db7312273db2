-- A sheet's number and the edges of its ground, or the refusal. Assumes nothing.
use mathlib.Core.Path.{◌≡◌}
use mathlib.Core.Bool.{true}
use native.Mathlib.Omega.{arith}
use borrow.Author.Rules.{rules}
use Rattle.division.specs.Sheet.{is_sheet}
use Rattle.division.proofs.MetreLaws.{ground-hundreds}
use Rattle.catalogue.proofs.LineTheorems.{line-sheet}
use Rattle.catalogue.proofs.GroundLaws.{Lies, lies, line_refused}
use Rattle.rows.proofs.WordLaws.{sheet-few}
use Rattle.rows.proofs.row.put_answer.Goals as goal

pub put_ground-requires : goal.put_ground-requires
put_ground-requires c =
    let told : Lies c.args.line.now c.in-Ok.front = lies c.args.line.now c.in-Ok.ensures in
    let sheet : is_sheet c.in-Ok.front.sheet ≡ true = line-sheet c.args.line.now c.in-Ok.front.sheet told.sheet in
    let n = c.in-Ok.front.sheet in
    record { sheet_bound = sheet-few n sheet; in_hundreds = rw told.corners (ground-hundreds n sheet); at_in_bounds = search rules }

pub returns-in-Err : goal.returns-in-Err
returns-in-Err c =
    let r = c.put_refusal.ensures in
    let e = line_refused c.args.line.now c.in-Err.why c.in-Err.ensures in
    record { wrote = rw (← e) r.wrote; upper_bound = omega (arith, r.upper_bound) }

pub returns-in-Ok : goal.returns-in-Ok
returns-in-Ok c =
    let told : Lies c.args.line.now c.in-Ok.front = lies c.args.line.now c.in-Ok.ensures in
    let t = told in
    record { wrote = rw t.sheet (rw t.corners at c.put_ground.ensures.wrote); upper_bound = omega (arith, c.put_ground.ensures.upper_bound) }
