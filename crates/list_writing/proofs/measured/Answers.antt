-- Each turn judges one number and counts its bytes, and leaves the rest of the question as it was. Assumes nothing.
use native.Mathlib.Omega.{arith}
use mathlib.Core.Path.{sym, ◌∙◌}
use Rattle.std.proofs.lemmas.Result.{err_from_is_err_and}
use Rattle.shelf.specs.Kind.{kind_of}
use Rattle.shelf.proofs.KindLaws.{works}
use Rattle.shelf.proofs.WritingLaws.{measuring-first, measuring-next, number_small, few-more, long-judged, long-falls, long-done}
use Rattle.list_writing.proofs.measured.Goals as goal

pub loop-number-init : goal.loop-number-init
loop-number-init g c =
    measuring-first (works g.K.Kind.name) c.args.numbers.now c.groups-long.result (rw c.begins.ensures at c.groups-long.ensures) c.requires

pub returns-in_err-judged : goal.returns-in_err-judged
returns-in_err-judged g c =
    let l = c.loop-number in
    let p = err_from_is_err_and c.from_residual.result c.from_residual.ensures.1 in
    rw (p.1, p.2) (sym (l.invariant.rest ∙ long-judged (kind_of g.K.Kind.name) c.args.numbers.now l.number-index l.least l.long c.loop-number-test.true c.in_err-judged.field-0.0 (sym c.in_err-judged.ensures)))

pub returns-then-number-least : goal.returns-then-number-least
returns-then-number-least g c =
    let l = c.loop-number in
    sym (l.invariant.rest ∙ long-falls (kind_of g.K.Kind.name) c.args.numbers.now l.number-index l.least l.long c.loop-number-test.true (sym c.in_ok-judged.ensures) c.if-number-least.true)

pub overflow_add-long : goal.overflow_add-long
overflow_add-long g c =
    let l = c.loop-number in
    let n = c.groups-long-in-loop-number in
    omega (arith, l.invariant.short, l.invariant.upto, l.invariant.few, few-more (works g.K.Kind.name) l.invariant c.loop-number-test.true (sym c.in_ok-judged.ensures) n.result n.ensures)

pub overflow_add-least : goal.overflow_add-least
overflow_add-least g c = omega (arith, number_small (works g.K.Kind.name) c.loop-number.invariant c.loop-number-test.true (sym c.in_ok-judged.ensures))

pub loop-number-preserved : goal.loop-number-preserved
loop-number-preserved g c =
    let n = c.groups-long-in-loop-number in
    measuring-next (works g.K.Kind.name) c.loop-number.invariant c.loop-number-test.true (sym c.in_ok-judged.ensures) n.result n.ensures c.if-number-least.false

pub returns : goal.returns
returns g c =
    let l = c.loop-number in
    sym (l.invariant.rest ∙ long-done (kind_of g.K.Kind.name) c.args.numbers.now l.number-index l.least l.long c.loop-number-test.false)
