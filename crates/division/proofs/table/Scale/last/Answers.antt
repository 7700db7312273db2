-- A scale ends where its sheets are counted out, before the sum leaves a u32. Assumes nothing.
use mathlib.Core.Path.{sym, ◌∙◌}
use native.Mathlib.Omega.{arith}
use Rattle.division.specs.Table.{table, table_row, rows_of, columns_of}
use Rattle.division.proofs.TableLaws.{Rules, scale, no_row, rules}
use Rattle.division.proofs.table.Scale.last.Goals as goal

pub returns-then-not-is_scale : goal.returns-then-not-is_scale
unfolding table table_row rows_of columns_of
returns-then-not-is_scale c = rw (no_row c.args.self.0 (sym c.is_scale.ensures ∙ c.if-not-is_scale.true))

pub overflow_mul-result : goal.overflow_mul-result
overflow_mul-result c =
    let here : Rules c.args.self.0 = rules (scale c.args.self.0 (sym c.is_scale.ensures ∙ c.if-not-is_scale.false)) in
    rw c.row-t.ensures (omega (arith, here.few))

pub overflow_add-result : goal.overflow_add-result
overflow_add-result c =
    let here : Rules c.args.self.0 = rules (scale c.args.self.0 (sym c.is_scale.ensures ∙ c.if-not-is_scale.false)) in
    rw c.row-t.ensures (omega (arith, here.low))

pub overflow_sub-result : goal.overflow_sub-result
overflow_sub-result c =
    let here : Rules c.args.self.0 = rules (scale c.args.self.0 (sym c.is_scale.ensures ∙ c.if-not-is_scale.false)) in
    rw c.row-t.ensures (omega (arith, here.some))
