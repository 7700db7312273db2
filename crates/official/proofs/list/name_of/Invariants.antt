-- The entries passed are of other sheets, so the name is among those that are left. Assumes nothing.
use Rattle.std.proofs.Common.{◌≡◌}
use Rattle.official.specs.Lookup.{name_of}
use Rattle.official.proofs.LookupTheorems.{of_sheet}
use Rattle.official.proofs.ListLaws.{left_from, name_in}
use Rattle.official.proofs.list.name_of.Given as goal

abbrev pub invariant-loop-entry : goal.invariant-loop-entry
invariant-loop-entry l = name_of l.sheet ≡ left_from (of_sheet l.sheet) name_in l.entry-index
