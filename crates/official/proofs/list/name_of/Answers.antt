-- The entries passed are of other sheets, so the name is among those that are left. Assumes nothing.
use Rattle.std.proofs.Common.{refl, sym, ◌∙◌}
use Rattle.official.specs.Lookup.{name_of}
use Rattle.official.proofs.LookupTheorems.{of_sheet}
use Rattle.official.proofs.ListLaws.{is_row, none_left, name_in, name-here, other-sheet}
use Rattle.official.proofs.list.name_of.Goals as goal

pub loop-entry-init : goal.loop-entry-init
unfolding name_of
loop-entry-init c = refl

pub returns-then-entry-sheet : goal.returns-then-entry-sheet
returns-then-entry-sheet c =
    let m = c.loop-entry in
    name-here c.args.sheet m.entry-index c.loop-entry-test.true (is_row c.entries.ensures m.entry-index c.loop-entry-test.true) c.if-entry-sheet.true ∙ sym m.invariant

pub loop-entry-preserved : goal.loop-entry-preserved
loop-entry-preserved c =
    let m = c.loop-entry in
    m.invariant ∙ other-sheet c.args.sheet m.entry-index c.loop-entry-test.true (is_row c.entries.ensures m.entry-index c.loop-entry-test.true) c.if-entry-sheet.false

pub returns : goal.returns
returns c = sym (c.loop-entry.invariant ∙ none_left (of_sheet c.args.sheet) name_in c.loop-entry.entry-index c.loop-entry-test.false)
