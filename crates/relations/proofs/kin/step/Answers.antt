-- A sheet is located, or refused as it is there, and the step goes on from its place. Assumes nothing.
use mathlib.Core.Path.{sym}
use Rattle.std.proofs.lemmas.Result.{err_from_is_err_and}
use Rattle.division.specs.Sheet.{spot_of}
use Rattle.division.proofs.NumberLaws.{on-grid, located}
use Rattle.relations.specs.Relations.{walk, step}
use Rattle.relations.proofs.RelationLaws.{not-located}
use Rattle.relations.proofs.kin.step.Goals as goal

pub walk-requires : goal.walk-requires
walk-requires c =
    let l = located c.args.sheet (sym (c.in_ok-locate.ensures)) in
    rw l.1 (on-grid c.args.sheet l.0)

pub returns-in_err-locate : goal.returns-in_err-locate
unfolding step
returns-in_err-locate c =
    let p = err_from_is_err_and c.from_residual.result c.from_residual.ensures.1 in
    let a = c.args in
    rw (p.1, p.2) (sym (not-located a.sheet (walk (spot_of a.sheet) a.east a.south) c.in_err-locate.field-0.0 (sym (c.in_err-locate.ensures))))
