-- Both sheets are located, or refused as they are there, and their scales decide. Assumes nothing.
use mathlib.Core.Path.{sym}
use borrow.Author.Tests.{eq-eqb}
use Rattle.std.proofs.lemmas.Result.{err_from_is_err_and}
use Rattle.refusal.specs.Paper.{answer, refuse◌unless◌, ◌>>◌}
use Rattle.division.specs.Words.{◌=?◌}
use Rattle.division.specs.Sheet.{scale_of, place_of, spot_of}
use Rattle.relations.specs.Relations.{apart, offset_from, offset}
use Rattle.division.proofs.NumberLaws.{located}
use Rattle.relations.proofs.RelationLaws.{not-located}
use Rattle.relations.proofs.kin.offset.Goals as goal

pub returns-in_err-x : goal.returns-in_err-x
unfolding offset
returns-in_err-x c =
    let p = err_from_is_err_and c.from_residual.result c.from_residual.ensures.1 in
    let s = c.args in
    rw (p.1, p.2) (sym (not-located s.a (offset_from (spot_of s.a) s.b) c.in_err-x.field-0.0 (sym (c.in_err-x.ensures))))

pub returns-in_err-y : goal.returns-in_err-y
unfolding offset
returns-in_err-y c =
    let p = err_from_is_err_and c.from_residual-in_err-y.result c.from_residual-in_err-y.ensures.1 in
    let s = c.args in
    let l = located s.a (sym (c.in_ok-x.ensures)) in
    rw (p.1, p.2, l.0) (sym (not-located s.b ((refuse 6 unless scale_of s.a =? scale_of s.b) >> answer (apart (place_of s.a) (place_of s.b))) c.in_err-y.field-0.0 (sym (c.in_err-y.ensures))))

pub returns : goal.returns
unfolding offset
returns c =
    let s = c.args in
    let l = located s.a (sym (c.in_ok-x.ensures)) in
    let m = located s.b (sym (c.in_ok-y.ensures)) in
    rw (c.apart.ensures, l.1, m.1, l.0, m.0, eq-eqb (scale_of s.a) (scale_of s.b) (rw (l.1, m.1) at c.if-x-y.false))
