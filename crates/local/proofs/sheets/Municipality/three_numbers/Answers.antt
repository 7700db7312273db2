-- The parent of a 1:500 sheet is a 1:1 000 sheet, which has its number in its own parent. Assumes nothing.
use mathlib.Core.Path.{sym}
use Rattle.local.proofs.NumberLaws.{parent-part}
use Rattle.local.proofs.sheets.Municipality.three_numbers.Goals as goal

pub part_number-requires : goal.part_number-requires
part_number-requires c = parent-part c.args.sheet (sym c.in_ok-above.ensures) c.requires.scale
