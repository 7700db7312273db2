-- There is a mark for each place, and none is set: the first pass tells the first bad place, or leaves marks by which the second finds what
-- is missing. Assumes nothing.
use mathlib.Core.Path.{refl, ◌∙◌}
use native.Mathlib.Omega.{arith}
use Rattle.std.proofs.lemmas.Result.{err_from_is_err_and}
use Rattle.delivery.specs.Given.{sheets_of}
use Rattle.delivery.proofs.PlaceLaws.{length-is}
use Rattle.delivery.proofs.MarkLaws.{marked-none, bad-place, no-bad-place}
use Rattle.delivery.proofs.cover.Cover.compared.Goals as goal

pub mark-requires : goal.mark-requires
mark-requires g c =
    let s = c.args.self in marked-none (sheets_of s.scale s.block) g.row.ROOM (omega (arith, length-is s.in_grid, c.requires.enough))

pub returns-in_err-mark : goal.returns-in_err-mark
returns-in_err-mark g c =
    let s = c.args.self in
    let p = err_from_is_err_and c.from_residual.result c.from_residual.ensures.1 in
    rw (p.1, p.2) (bad-place (sheets_of s.scale s.block) c.args.sheets.now _ c.in_err-mark.ensures.result_value)

pub returns : goal.returns
returns g c =
    let s = c.args.self in
    c.complete.ensures ∙ no-bad-place (sheets_of s.scale s.block) c.args.sheets.now _ c.in_ok-mark.ensures.result_value (c.in_ok-mark.ensures.marked_after refl) (length-is s.in_grid)
