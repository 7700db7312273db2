-- The row and the column in range are counted from 0, and reach no further than the area. Assumes nothing.
use Rattle.std.proofs.Common.{arith, rules}
use Rattle.reckoning.proofs.ReckonLaws.{few-index, two_fields, top-out, top-at, top-in}
use Rattle.reckoning.proofs.ground.by_area.Goals as goal

pub bounds-fields-0 : goal.bounds-fields-0
bounds-fields-0 g c = let l = two_fields c.requires.fields c.requires.of_area in search rules

pub bounds-fields-1 : goal.bounds-fields-1
bounds-fields-1 g c = let l = two_fields c.requires.fields c.requires.of_area in search rules

pub returns-then-not-on_row-on_column : goal.returns-then-not-on_row-on_column
returns-then-not-on_row-on_column g c =
    rw c.from.ensures (top-out c.requires.fields c.requires.of_area c.row-t.ensures c.is_row-on_row.ensures c.is_part-on_column.ensures c.if-not-on_row-on_column.true)

pub overflow_mul-result : goal.overflow_mul-result
overflow_mul-result g c =
    let reach = top-in c.requires.fields c.requires.of_area c.row-t.ensures c.is_row-on_row.ensures c.is_part-on_column.ensures c.if-not-on_row-on_column.false in
    omega (arith, few-index reach)

pub overflow_add-result : goal.overflow_add-result
overflow_add-result g c =
    let reach = top-in c.requires.fields c.requires.of_area c.row-t.ensures c.is_row-on_row.ensures c.is_part-on_column.ensures c.if-not-on_row-on_column.false in
    omega (arith, few-index reach)

pub overflow_mul-result-2 : goal.overflow_mul-result-2
overflow_mul-result-2 g c =
    let reach = top-in c.requires.fields c.requires.of_area c.row-t.ensures c.is_row-on_row.ensures c.is_part-on_column.ensures c.if-not-on_row-on_column.false in
    omega (arith, reach.wide)

pub overflow_mul-result-3 : goal.overflow_mul-result-3
overflow_mul-result-3 g c =
    let reach = top-in c.requires.fields c.requires.of_area c.row-t.ensures c.is_row-on_row.ensures c.is_part-on_column.ensures c.if-not-on_row-on_column.false in
    omega (arith, reach.high)

pub returns : goal.returns
returns g c =
    top-at c.requires.fields c.requires.of_area c.row-t.ensures c.is_row-on_row.ensures c.is_part-on_column.ensures c.if-not-on_row-on_column.false
