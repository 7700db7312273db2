-- The first number and the count name a scale, and the others make what they make there. Assumes nothing.
use Rattle.std.proofs.Common.{sym, ◌∙◌, ap, ◌∷◌, length, arith}
use Rattle.reckoning.proofs.ReckonLaws.{named_none, named-not, named_by, fields-named, named-few}
use Rattle.reckoning.proofs.sheet_named.Goals as goal

pub returns-in_default : goal.returns-in_default
returns-in_default c = named_none c.args.numbers.now c.in_default.ensures.cases

pub returns-in_default-scale_named : goal.returns-in_default-scale_named
returns-in_default-scale_named c =
    let n = c.in-Some.ensures.cases.0 in
    let vs = c.in-Some.field-0-0.now ∷ c.in-Some.others.now in
    rw n (named-not vs (rw n at (sym c.scale_named.ensures ∙ c.in_default-scale_named.is)))

pub ground_from-requires : goal.ground_from-requires
ground_from-requires c =
    let n = c.in-Some.ensures.cases.0 in
    let vs = c.in-Some.field-0-0.now ∷ c.in-Some.others.now in
    fields-named vs (rw n at (sym c.scale_named.ensures ∙ c.in-Some-scale_named.is))

pub overflow_add-result : goal.overflow_add-result
overflow_add-result c =
    let n = c.in-Some.ensures.cases.0 in
    let vs = c.in-Some.field-0-0.now ∷ c.in-Some.others.now in
    omega (arith, ap length n, named-few vs (rw n at (sym c.scale_named.ensures ∙ c.in-Some-scale_named.is)) (sym c.ground_from.ensures ∙ c.in-Err.is))

pub returns-in-Ok : goal.returns-in-Ok
returns-in-Ok c =
    let n = c.in-Some.ensures.cases.0 in
    let vs = c.in-Some.field-0-0.now ∷ c.in-Some.others.now in
    rw n (named_by vs (rw n at (sym c.scale_named.ensures ∙ c.in-Some-scale_named.is)) (sym c.in-Ok.is ∙ c.ground_from.ensures))

pub returns-in-Err : goal.returns-in-Err
returns-in-Err c =
    let n = c.in-Some.ensures.cases.0 in
    let vs = c.in-Some.field-0-0.now ∷ c.in-Some.others.now in
    rw n (named_by vs (rw n at (sym c.scale_named.ensures ∙ c.in-Some-scale_named.is)) (sym c.in-Err.is ∙ c.ground_from.ensures))
