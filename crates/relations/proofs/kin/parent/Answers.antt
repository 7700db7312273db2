-- The parent's index is the sheet's, counted in parts. Assumes nothing.
use Rattle.std.proofs.Common.{◌≡◌, Some}
use mathlib.Core.Path.{sym, ◌∙◌}
use mathlib.Core.Bool.{true}
use native.Mathlib.Nat.{mul-pos}
use native.Mathlib.Omega.{arith}
use Rattle.division.specs.Table.{code_row, parent_scale}
use Rattle.division.specs.Sheet.{is_sheet, scale_of}
use Rattle.division.proofs.NumberLaws.{ranged}
use Rattle.division.proofs.FamilyLaws.{parted, the_parent, some-parent}
use Rattle.relations.proofs.RelationLaws.{parent-low, parent-is}
use Rattle.relations.proofs.kin.parent.Goals as goal

pub overflow_sub-above : goal.overflow_sub-above
overflow_sub-above c =
    let sheet : is_sheet c.args.sheet ≡ true = sym c.is_sheet.ensures ∙ c.if-not-is_sheet.false in
    let row : c.row-t.result ≡ code_row (scale_of c.args.sheet) = rw c.of.ensures at c.row-t.ensures in
    rw row (ranged c.args.sheet sheet).low

pub nonzero_div-above : goal.nonzero_div-above
nonzero_div-above c =
    let sheet : is_sheet c.args.sheet ≡ true = sym c.is_sheet.ensures ∙ c.if-not-is_sheet.false in
    let row : c.row-t.result ≡ code_row (scale_of c.args.sheet) = rw c.of.ensures at c.row-t.ensures in
    let up : c.row-t.result.parent ≡ Some c.in_ok-up.up = grind arith in
    let k = parted (ranged c.args.sheet sheet).scale (some-parent (ranged c.args.sheet sheet).scale (rw row at up)) in
    rw row (mul-pos k.some k.some)

pub overflow_add-result : goal.overflow_add-result
overflow_add-result c =
    let sheet : is_sheet c.args.sheet ≡ true = sym c.is_sheet.ensures ∙ c.if-not-is_sheet.false in
    let row : c.row-t.result ≡ code_row (scale_of c.args.sheet) = rw c.of.ensures at c.row-t.ensures in
    let up : c.row-t.result.parent ≡ Some c.in_ok-up.up = grind arith in
    let deep : parent_scale (scale_of c.args.sheet) ≡ 0 → ⊥ = some-parent (ranged c.args.sheet sheet).scale (rw row at up) in
    rw (c.first.ensures, row, the_parent (scale_of c.args.sheet) (rw row at up)) (omega (arith, parent-low c.args.sheet sheet deep))

pub returns : goal.returns
returns c =
    let sheet : is_sheet c.args.sheet ≡ true = sym c.is_sheet.ensures ∙ c.if-not-is_sheet.false in
    let row : c.row-t.result ≡ code_row (scale_of c.args.sheet) = rw c.of.ensures at c.row-t.ensures in
    let up : c.row-t.result.parent ≡ Some c.in_ok-up.up = grind arith in
    let deep : parent_scale (scale_of c.args.sheet) ≡ 0 → ⊥ = some-parent (ranged c.args.sheet sheet).scale (rw row at up) in
    rw (c.first.ensures, row, the_parent (scale_of c.args.sheet) (rw row at up)) (sym (parent-is c.args.sheet sheet deep))
