-- The gap at the front is read, and the number that it makes is judged. Assumes nothing.
use native.Mathlib.Omega.{arith}
use mathlib.Core.Path.{sym}
use Rattle.std.proofs.lemmas.Result.{err_from_is_err_and}
use Rattle.shelf.specs.Kind.{kind_of}
use Rattle.shelf.proofs.KindLaws.{works}
use Rattle.shelf.proofs.NumberLaws.{read-small}
use Rattle.shelf.proofs.ReadingLaws.{entry_unread, entry-judged, entry-placed}
use Rattle.list_reading.proofs.next_entry.Goals as goal

pub returns-in_err-gap : goal.returns-in_err-gap
returns-in_err-gap g c =
    let a = c.args in
    let p = err_from_is_err_and c.from_residual.result c.from_residual.ensures.1 in
    rw (p.1, p.2) (entry_unread (kind_of g.K.Kind.name) a.bytes.now a.least c.in_err-gap.field-0.0 c.in_err-gap.ensures)

pub overflow_add-number : goal.overflow_add-number
overflow_add-number g c = omega (arith, read-small c.args.bytes.now _ (sym c.in_ok-gap.ensures))

pub returns-in_err-judged : goal.returns-in_err-judged
returns-in_err-judged g c =
    let a = c.args in
    let p = err_from_is_err_and c.from_residual-in_err-judged.result c.from_residual-in_err-judged.ensures.1 in
    rw (p.1, p.2) (entry-judged (kind_of g.K.Kind.name) a.bytes.now a.least c.in_ok-gap.gap c.in_ok-gap.rest c.in_ok-gap.ensures c.in_err-judged.field-0.0 (sym c.in_err-judged.ensures))

pub returns : goal.returns
returns g c =
    let a = c.args in
    entry-placed (kind_of g.K.Kind.name) a.bytes.now a.least c.in_ok-gap.gap c.in_ok-gap.rest c.in_ok-gap.ensures (works g.K.Kind.name) (sym c.in_ok-judged.ensures)
