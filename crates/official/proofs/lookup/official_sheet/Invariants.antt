-- The entries passed have other names, so the sheet is among those that are left. Assumes nothing.
use Rattle.std.proofs.Common.{◌≡◌}
use Rattle.official.specs.Lookup.{sheet_called}
use Rattle.official.proofs.LookupTheorems.{of_name}
use Rattle.official.proofs.ListLaws.{left_from, sheet_found}
use Rattle.official.proofs.lookup.official_sheet.Given as goal

abbrev pub invariant-loop-entry : goal.invariant-loop-entry
invariant-loop-entry l = sheet_called l.name ≡ left_from (of_name l.name) sheet_found l.entry-index
