-- A part lies in what is above it, as far to the right and down as its number says. Assumes nothing.
use Rattle.std.proofs.Common.{sym, ◌∙◌, arith, rules}
use Rattle.reckoning.proofs.ReckonLaws.{few-index, a-field, part_out, part-on, part-out-few, part-reach}
use Rattle.reckoning.proofs.ground.by_part.Goals as goal

pub bounds-fields-0 : goal.bounds-fields-0
bounds-fields-0 g c = let l = a-field c.requires.fields c.requires.of_scale in search rules

pub returns-then-not-is_part : goal.returns-then-not-is_part
returns-then-not-is_part g c =
    part_out c.requires.fields c.requires.of_scale c.row-t.ensures c.is_part.ensures c.if-not-is_part.true

pub overflow_add-result : goal.overflow_add-result
overflow_add-result g c =
    omega (arith, part-out-few c.requires.fields c.requires.of_scale c.row-t.ensures c.is_part.ensures c.if-not-is_part.false c.requires.above_value c.in-Err.is)

pub overflow_mul-result : goal.overflow_mul-result
overflow_mul-result g c =
    let reach = part-reach c.requires.fields c.requires.of_scale c.row-t.ensures c.is_part.ensures c.if-not-is_part.false c.requires.above_value c.in-Ok.is in
    omega (arith, few-index reach)

pub overflow_add-result-in-Ok : goal.overflow_add-result-in-Ok
overflow_add-result-in-Ok g c =
    let reach = part-reach c.requires.fields c.requires.of_scale c.row-t.ensures c.is_part.ensures c.if-not-is_part.false c.requires.above_value c.in-Ok.is in
    omega (arith, few-index reach)

pub overflow_mul-result-in-Ok : goal.overflow_mul-result-in-Ok
overflow_mul-result-in-Ok g c =
    let reach = part-reach c.requires.fields c.requires.of_scale c.row-t.ensures c.is_part.ensures c.if-not-is_part.false c.requires.above_value c.in-Ok.is in
    omega (arith, reach.wide)

pub overflow_add-result-in-Ok-2 : goal.overflow_add-result-in-Ok-2
overflow_add-result-in-Ok-2 g c =
    let reach = part-reach c.requires.fields c.requires.of_scale c.row-t.ensures c.is_part.ensures c.if-not-is_part.false c.requires.above_value c.in-Ok.is in
    omega (arith, reach.wide)

pub overflow_mul-result-in-Ok-2 : goal.overflow_mul-result-in-Ok-2
overflow_mul-result-in-Ok-2 g c =
    let reach = part-reach c.requires.fields c.requires.of_scale c.row-t.ensures c.is_part.ensures c.if-not-is_part.false c.requires.above_value c.in-Ok.is in
    omega (arith, reach.high)

pub overflow_add-result-in-Ok-3 : goal.overflow_add-result-in-Ok-3
overflow_add-result-in-Ok-3 g c =
    let reach = part-reach c.requires.fields c.requires.of_scale c.row-t.ensures c.is_part.ensures c.if-not-is_part.false c.requires.above_value c.in-Ok.is in
    omega (arith, reach.high)

pub returns-in-Err : goal.returns-in-Err
returns-in-Err g c =
    let above = c.requires.above_value in
    let on = part-on c.requires.fields c.requires.of_scale c.row-t.ensures c.is_part.ensures c.if-not-is_part.false (sym c.in-Err.is ∙ above) in
    on

pub returns-in-Ok : goal.returns-in-Ok
returns-in-Ok g c =
    let above = c.requires.above_value in
    let on = part-on c.requires.fields c.requires.of_scale c.row-t.ensures c.is_part.ensures c.if-not-is_part.false (sym c.in-Ok.is ∙ above) in
    on
