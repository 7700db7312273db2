-- The parts of a parent follow one another, so what is left of a part's index is its number there. Assumes nothing.
use mathlib.Core.Path.{◌≡◌, sym, ap, ◌∙◌}
use Rattle.division.specs.Table.{code_row}
use Rattle.division.specs.Sheet.{scale_of}
use Rattle.local.proofs.NumberLaws.{index-low, some-parts, number-left}
use Rattle.local.proofs.numbers.part_number.Goals as goal

pub overflow_sub-result : goal.overflow_sub-result
overflow_sub-result c =
    let row_is : c.row-t.result ≡ code_row (scale_of c.args.sheet) = c.row-t.ensures ∙ ap code_row c.of.ensures in
    rw row_is (index-low c.requires)

pub nonzero_rem-result : goal.nonzero_rem-result
nonzero_rem-result c =
    let row_is : c.row-t.result ≡ code_row (scale_of c.args.sheet) = c.row-t.ensures ∙ ap code_row c.of.ensures in
    rw row_is (some-parts c.requires)

pub returns : goal.returns
returns c =
    let row_is : c.row-t.result ≡ code_row (scale_of c.args.sheet) = c.row-t.ensures ∙ ap code_row c.of.ensures in
    rw row_is (sym (number-left c.requires))
