-- Past the test it is a sheet, and has a scale. Assumes nothing.
use mathlib.Core.Path.{sym, ◌∙◌}
use Rattle.division.proofs.NumberLaws.{no-scale}
use Rattle.division.proofs.table.Scale.of.Goals as goal

pub returns-then-not-is_sheet : goal.returns-then-not-is_sheet
returns-then-not-is_sheet c = sym (no-scale c.args.sheet (sym c.is_sheet.ensures ∙ c.if-not-is_sheet.true))
