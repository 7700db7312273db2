-- Each arm goes by the scales that its own is made from, as the table has them. Assumes nothing.
use mathlib.Core.Path.{refl}
use native.Mathlib.Omega.{arith}
use Rattle.division.specs.Table.{table, table_row}
use Rattle.delivery.proofs.PartLaws.{arm, from-three, from-those, placed-above, rest}
use Rattle.delivery.proofs.place.place_at.Goals as goal

pub once-requires : goal.once-requires
unfolding table table_row
once-requires c = record { of_parent = arm c.requires 4 c.in-4.is (omega arith); s_value = refl }

pub once-requires-in-5 : goal.once-requires-in-5
unfolding table table_row
once-requires-in-5 c = record { of_parent = arm c.requires 5 c.in-5.is (omega arith); s_value = refl }

pub once-requires-in-7 : goal.once-requires-in-7
unfolding table table_row
once-requires-in-7 c = record { of_parent = arm c.requires 7 c.in-7.is (omega arith); s_value = refl }

pub above-requires : goal.above-requires
unfolding table table_row
above-requires c = arm c.requires 6 c.in-6.is (omega arith)

pub once-requires-in-6 : goal.once-requires-in-6
unfolding table table_row
once-requires-in-6 c = record { of_parent = from-three (arm c.requires 6 c.in-6.is (omega arith)) refl refl c.above.ensures; s_value = refl }

pub in_parent-requires : goal.in_parent-requires
unfolding table table_row
in_parent-requires c = record { of_parent = arm c.requires 6 c.in-6.is (omega arith); up_value = placed-above 6 c.args.i refl c.above.ensures c.once-in-6.ensures }

pub above-requires-in-8 : goal.above-requires-in-8
unfolding table table_row
above-requires-in-8 c = arm c.requires 8 c.in-8.is (omega arith)

pub once-requires-in-8 : goal.once-requires-in-8
unfolding table table_row
once-requires-in-8 c = record { of_parent = from-three (arm c.requires 8 c.in-8.is (omega arith)) refl refl c.above-in-8.ensures; s_value = refl }

pub in_parent-requires-in-8 : goal.in_parent-requires-in-8
unfolding table table_row
in_parent-requires-in-8 c = record { of_parent = arm c.requires 8 c.in-8.is (omega arith); up_value = placed-above 8 c.args.i refl c.above-in-8.ensures c.once-in-8.ensures }

pub above-up-requires : goal.above-up-requires
unfolding table table_row
above-up-requires c = arm c.requires 9 c.in-9.is (omega arith)

pub above-requires-in-9 : goal.above-requires-in-9
unfolding table table_row
above-requires-in-9 c = from-those (arm c.requires 9 c.in-9.is (omega arith)) refl {top = 7} refl refl c.above-up.ensures

pub once-requires-in-9 : goal.once-requires-in-9
unfolding table table_row
once-requires-in-9 c = record { of_parent = from-three (from-those (arm c.requires 9 c.in-9.is (omega arith)) refl {top = 7} refl refl c.above-up.ensures) refl refl c.above-in-9.ensures; s_value = refl }

pub in_parent-requires-in-9 : goal.in_parent-requires-in-9
unfolding table table_row
in_parent-requires-in-9 c = record { of_parent = from-those (arm c.requires 9 c.in-9.is (omega arith)) refl {top = 7} refl refl c.above-up.ensures; up_value = placed-above 8 c.above-up.result refl c.above-in-9.ensures c.once-in-9.ensures }

pub in_parent-requires-in-9-2 : goal.in_parent-requires-in-9-2
unfolding table table_row
in_parent-requires-in-9-2 c = record { of_parent = arm c.requires 9 c.in-9.is (omega arith); up_value = placed-above 9 c.args.i refl c.above-up.ensures c.in_parent-in-9.ensures }

pub in_area-requires : goal.in_area-requires
in_area-requires c =
    rest c.requires (λ e. omega arith) (λ e. omega arith) (λ e. omega arith) (λ e. omega arith) (λ e. omega arith) (λ e. omega arith)
