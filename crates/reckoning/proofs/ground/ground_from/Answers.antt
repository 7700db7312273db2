-- Each arm goes by the scales that its own is made from, as the table has them. Assumes nothing.
use Rattle.std.proofs.Common.{◌≡◌, refl, arith, rules}
use Rattle.division.specs.Table.{table, table_row, parent_scale}
use Rattle.reckoning.specs.Given.{Fields}
use Rattle.reckoning.proofs.ReckonLaws.{arm, others, a-field, fields-above, reckon-above}
use Rattle.reckoning.proofs.ground.ground_from.Goals as goal

pub by_area-requires : goal.by_area-requires
unfolding table table_row
by_area-requires c =
    record { fields = arm c.requires c.in-1.is; of_area = refl }

pub by_area-requires-in-2 : goal.by_area-requires-in-2
unfolding table table_row
by_area-requires-in-2 c =
    record { fields = arm c.requires c.in-2.is; of_area = refl }

pub by_area-requires-in-3 : goal.by_area-requires-in-3
unfolding table table_row
by_area-requires-in-3 c =
    record { fields = arm c.requires c.in-3.is; of_area = refl }

pub by_third-requires : goal.by_third-requires
unfolding table table_row
by_third-requires c =
    record { fields = arm c.requires c.in-4.is; of_third = refl }

pub by_third-requires-in-5 : goal.by_third-requires-in-5
unfolding table table_row
by_third-requires-in-5 c =
    record { fields = arm c.requires c.in-5.is; of_third = refl }

pub by_third-requires-in-7 : goal.by_third-requires-in-7
unfolding table table_row
by_third-requires-in-7 c =
    record { fields = arm c.requires c.in-7.is; of_third = refl }

pub slice_bounds-by_third-count : goal.slice_bounds-by_third-count
unfolding table table_row
slice_bounds-by_third-count c =
    let h = arm c.requires c.in-6.is in
    let made : parent_scale 6 ≡ 0 → ⊥ = λ e. omega arith in
    a-field h made

pub slice_bounds-by_third-start : goal.slice_bounds-by_third-start
unfolding table table_row
slice_bounds-by_third-start c =
    let h = arm c.requires c.in-6.is in
    let made : parent_scale 6 ≡ 0 → ⊥ = λ e. omega arith in
    let l = a-field h made in search rules

pub by_third-requires-in-6 : goal.by_third-requires-in-6
unfolding table table_row
by_third-requires-in-6 c =
    let h = arm c.requires c.in-6.is in
    let made : parent_scale 6 ≡ 0 → ⊥ = λ e. omega arith in
    record { fields = fields-above h made refl; of_third = refl }

pub by_part-requires : goal.by_part-requires
unfolding table table_row
by_part-requires c =
    let h = arm c.requires c.in-6.is in
    let made : parent_scale 6 ≡ 0 → ⊥ = λ e. omega arith in
    record { fields = h; of_scale = made; above_value = reckon-above h made refl c.by_third-in-6.ensures }

pub slice_bounds-by_third-count-in-8 : goal.slice_bounds-by_third-count-in-8
unfolding table table_row
slice_bounds-by_third-count-in-8 c =
    let h = arm c.requires c.in-8.is in
    let made : parent_scale 8 ≡ 0 → ⊥ = λ e. omega arith in
    a-field h made

pub slice_bounds-by_third-start-in-8 : goal.slice_bounds-by_third-start-in-8
unfolding table table_row
slice_bounds-by_third-start-in-8 c =
    let h = arm c.requires c.in-8.is in
    let made : parent_scale 8 ≡ 0 → ⊥ = λ e. omega arith in
    let l = a-field h made in search rules

pub by_third-requires-in-8 : goal.by_third-requires-in-8
unfolding table table_row
by_third-requires-in-8 c =
    let h = arm c.requires c.in-8.is in
    let made : parent_scale 8 ≡ 0 → ⊥ = λ e. omega arith in
    record { fields = fields-above h made refl; of_third = refl }

pub by_part-requires-in-8 : goal.by_part-requires-in-8
unfolding table table_row
by_part-requires-in-8 c =
    let h = arm c.requires c.in-8.is in
    let made : parent_scale 8 ≡ 0 → ⊥ = λ e. omega arith in
    record { fields = h; of_scale = made; above_value = reckon-above h made refl c.by_third-in-8.ensures }

pub slice_bounds-eighth-count : goal.slice_bounds-eighth-count
unfolding table table_row
slice_bounds-eighth-count c =
    let last : c.args.s ≡ 9 = omega (arith, c.requires.scale.one, c.requires.scale.nine) in
    let h = arm c.requires last in
    let made : parent_scale 9 ≡ 0 → ⊥ = λ e. omega arith in
    a-field h made

pub slice_bounds-eighth-start : goal.slice_bounds-eighth-start
unfolding table table_row
slice_bounds-eighth-start c =
    let last : c.args.s ≡ 9 = omega (arith, c.requires.scale.one, c.requires.scale.nine) in
    let h = arm c.requires last in
    let made : parent_scale 9 ≡ 0 → ⊥ = λ e. omega arith in
    let l = a-field h made in search rules

pub slice_bounds-by_third-count-in_default : goal.slice_bounds-by_third-count-in_default
unfolding table table_row
slice_bounds-by_third-count-in_default c =
    let last : c.args.s ≡ 9 = omega (arith, c.requires.scale.one, c.requires.scale.nine) in
    let h = arm c.requires last in
    let made : parent_scale 9 ≡ 0 → ⊥ = λ e. omega arith in
    let up : Fields 8 (others c.args.fields.now) = fields-above h made refl in
    let made-up : parent_scale 8 ≡ 0 → ⊥ = λ e. omega arith in
    a-field up made-up

pub slice_bounds-by_third-start-in_default : goal.slice_bounds-by_third-start-in_default
unfolding table table_row
slice_bounds-by_third-start-in_default c =
    let last : c.args.s ≡ 9 = omega (arith, c.requires.scale.one, c.requires.scale.nine) in
    let h = arm c.requires last in
    let made : parent_scale 9 ≡ 0 → ⊥ = λ e. omega arith in
    let up : Fields 8 (others c.args.fields.now) = fields-above h made refl in
    let made-up : parent_scale 8 ≡ 0 → ⊥ = λ e. omega arith in
    let l = a-field up made-up in search rules

pub by_third-requires-in_default : goal.by_third-requires-in_default
unfolding table table_row
by_third-requires-in_default c =
    let last : c.args.s ≡ 9 = omega (arith, c.requires.scale.one, c.requires.scale.nine) in
    let h = arm c.requires last in
    let made : parent_scale 9 ≡ 0 → ⊥ = λ e. omega arith in
    let up : Fields 8 (others c.args.fields.now) = fields-above h made refl in
    let made-up : parent_scale 8 ≡ 0 → ⊥ = λ e. omega arith in
    record { fields = fields-above up made-up refl; of_third = refl }

pub by_part-requires-in_default : goal.by_part-requires-in_default
unfolding table table_row
by_part-requires-in_default c =
    let last : c.args.s ≡ 9 = omega (arith, c.requires.scale.one, c.requires.scale.nine) in
    let h = arm c.requires last in
    let made : parent_scale 9 ≡ 0 → ⊥ = λ e. omega arith in
    let up : Fields 8 (others c.args.fields.now) = fields-above h made refl in
    let made-up : parent_scale 8 ≡ 0 → ⊥ = λ e. omega arith in
    record { fields = up; of_scale = made-up; above_value = reckon-above up made-up refl c.by_third-in_default.ensures }

pub by_part-requires-in_default-2 : goal.by_part-requires-in_default-2
unfolding table table_row
by_part-requires-in_default-2 c =
    let last : c.args.s ≡ 9 = omega (arith, c.requires.scale.one, c.requires.scale.nine) in
    let h = arm c.requires last in
    let made : parent_scale 9 ≡ 0 → ⊥ = λ e. omega arith in
    let up : Fields 8 (others c.args.fields.now) = fields-above h made refl in
    let made-up : parent_scale 8 ≡ 0 → ⊥ = λ e. omega arith in
    record { fields = h; of_scale = made; above_value = reckon-above h made refl c.by_part-in_default.ensures }
