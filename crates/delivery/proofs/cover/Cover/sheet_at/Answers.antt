-- A place of the cover is in a row and a column of the grid, which have a sheet. Assumes nothing.
use mathlib.Core.Path.{◌∙◌}
use Rattle.delivery.proofs.PlaceLaws.{sheet-there-told}
use Rattle.delivery.proofs.cover.Cover.sheet_at.Goals as goal

pub returns : goal.returns
returns c = c.unwrap_or.ensures ∙ sheet-there-told c.args.self.in_grid c.args.place c.requires c.sheet_on.result c.sheet_on.ensures
