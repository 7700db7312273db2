-- A part of a sheet has its number in the range of its scale. Assumes nothing.
use native.Mathlib.Omega.{arith}
use Rattle.division.proofs.TableLaws.{rules}
use Rattle.division.proofs.NumberLaws.{ranged}
use Rattle.relations.proofs.RelationLaws.{asked, child-part, child-few}
use Rattle.relations.proofs.kin.child.Goals as goal

pub overflow_sub-index : goal.overflow_sub-index
overflow_sub-index c =
    let part = asked c.is_sheet.ensures c.if-not-is_sheet.false c.is_scale.ensures c.if-not-is_scale.false c.of-above.ensures c.is_part.ensures c.if-not-is_part.false in
    rw (c.first.ensures, c.of-above.ensures) (ranged c.args.sheet part.sheet).low

pub overflow_mul-result : goal.overflow_mul-result
overflow_mul-result c =
    let part = asked c.is_sheet.ensures c.if-not-is_sheet.false c.is_scale.ensures c.if-not-is_scale.false c.of-above.ensures c.is_part.ensures c.if-not-is_part.false in
    rw (c.row-t.ensures, c.first.ensures, c.of-above.ensures) (omega (arith, child-part part))

pub overflow_add-result : goal.overflow_add-result
overflow_add-result c =
    let part = asked c.is_sheet.ensures c.if-not-is_sheet.false c.is_scale.ensures c.if-not-is_scale.false c.of-above.ensures c.is_part.ensures c.if-not-is_part.false in
    rw (c.row-t.ensures, c.first.ensures, c.of-above.ensures) (omega (arith, child-part part))

pub overflow_add-result-2 : goal.overflow_add-result-2
overflow_add-result-2 c =
    let part = asked c.is_sheet.ensures c.if-not-is_sheet.false c.is_scale.ensures c.if-not-is_scale.false c.of-above.ensures c.is_part.ensures c.if-not-is_part.false in
    rw (c.row-t.ensures, c.first.ensures, c.of-above.ensures) (omega (arith, child-few part, (rules part.scale).low))
