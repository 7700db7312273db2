-- The entries passed have other names, so the sheet is among those that are left. Assumes nothing.
use Rattle.std.proofs.Common.{refl, sym, ◌∙◌, ◌≤◌, ◌<◌, arith}
use Rattle.official.specs.Lookup.{sheet_called}
use Rattle.official.proofs.LookupTheorems.{of_name}
use Rattle.official.proofs.ListLaws.{is_row, none_left, sheet_found, sheet-here, other_name}
use Rattle.official.proofs.lookup.official_sheet.Goals as goal

pub loop-entry-init : goal.loop-entry-init
unfolding sheet_called
loop-entry-init c = refl

pub returns-then-same_name : goal.returns-then-same_name
returns-then-same_name c =
    let here = c.loop-entry in
    let inside : here.entry-index < 15 = omega (arith, c.loop-entry-test.true) in
    let row = is_row c.entries.ensures here.entry-index inside in
    sym (here.invariant ∙ sheet-here c.args.name.now here.entry-index inside row c.same_name.ensures c.if-same_name.true)

pub loop-entry-preserved : goal.loop-entry-preserved
loop-entry-preserved c =
    let m = c.loop-entry in
    let inside : m.entry-index < 15 = omega (arith, c.loop-entry-test.true) in
    let row = is_row c.entries.ensures m.entry-index inside in
    m.invariant ∙ other_name c.args.name.now m.entry-index inside row c.same_name.ensures c.if-same_name.false

pub returns : goal.returns
returns c =
    let past : 15 ≤ c.loop-entry.entry-index = omega (arith, c.loop-entry-test.false) in
    sym (c.loop-entry.invariant ∙ none_left (of_name c.args.name.now) sheet_found c.loop-entry.entry-index past)
