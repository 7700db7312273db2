-- What the whole block gives the room is what is left of it from place i on gives the room as it then is. Assumes nothing.
use mathlib.Core.Path.{sym, ◌∙◌}
use native.Mathlib.Omega.{arith}
use lib.ListN.{length-set}
use Rattle.division.proofs.TableLaws.{rules}
use Rattle.division.proofs.BlockLaws.{placed, turn, done}
use Rattle.division.proofs.cover.fill.Goals as goal

pub overflow_add-place : goal.overflow_add-place
overflow_add-place c =
    let f = c.requires in
    omega (arith, (placed f c.loop-i.i c.loop-i-test.true).in_rows, (rules f.scale).few-rows)

pub overflow_add-place-in-loop-i : goal.overflow_add-place-in-loop-i
overflow_add-place-in-loop-i c =
    let f = c.requires in
    omega (arith, (placed f c.loop-i.i c.loop-i-test.true).in-columns, (rules f.scale).few-columns)

pub loop-i-preserved : goal.loop-i-preserved
loop-i-preserved c =
    let l = c.loop-i in (
      length-set l.room l.i c.sheet.result ∙ l.invariant.0,
      l.invariant.1 ∙ turn c.requires l.i c.loop-i-test.true l.room c.sheet.result c.sheet.ensures,
    )

pub returns : goal.returns
returns c =
    let l = c.loop-i in
    sym (l.invariant.1 ∙ done c.requires l.i l.room c.loop-i-test.false)
