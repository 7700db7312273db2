-- What is refused of the cover is refused, and a delivery is set against a cover that is not. Assumes nothing.
use mathlib.Core.Path.{sym, ◌∙◌}
use Rattle.std.proofs.lemmas.Result.{err_from_is_err_and}
use Rattle.division.proofs.CoverLaws.{small, fills}
use Rattle.delivery.proofs.MarkLaws.{cover-refused, cover-set-against}
use Rattle.delivery.proofs.check_delivery.Goals as goal

pub of-cover-requires : goal.of-cover-requires
of-cover-requires c =
    let a = c.args in
    let b = c.in_ok-block.block in
    fills a.scale a.window b (sym c.in_ok-block.ensures) 4_096 (small a.scale a.window b (sym c.in_ok-block.ensures))

pub returns-in_err-block : goal.returns-in_err-block
returns-in_err-block c =
    let a = c.args in
    let p = err_from_is_err_and c.from_residual.result c.from_residual.ensures.1 in
    rw (p.1, p.2) (sym (cover-refused a.scale a.window a.sheets.now _ (sym c.in_err-block.ensures)))

pub returns-then-count-le64 : goal.returns-then-count-le64
returns-then-count-le64 c =
    let a = c.args in
    rw (c.of-cover.ensures.scale_is, c.of-cover.ensures.block_is) at c.compared.ensures ∙ sym (cover-set-against a.scale a.window a.sheets.now c.in_ok-block.block (sym c.in_ok-block.ensures))

pub returns : goal.returns
returns c =
    let a = c.args in
    rw (c.of-cover.ensures.scale_is, c.of-cover.ensures.block_is) at c.compared-2.ensures ∙ sym (cover-set-against a.scale a.window a.sheets.now c.in_ok-block.block (sym c.in_ok-block.ensures))
