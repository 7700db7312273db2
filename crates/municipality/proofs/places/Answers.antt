-- Each turn judges one place, and leaves the rest of the question as it was. Assumes nothing.
use mathlib.Core.Path.{◌≡◌, sym, ◌∙◌}
use mathlib.Core.Bool.{true, false}
use native.Mathlib.Omega.{arith}
use Prim.Native.Nat.{ℕ}
use lib.ListN.{get_or}
use Rattle.refusal.specs.declared.Refusal.TheVariants.{NoSheet, NoMunicipality}
use Rattle.rising.proofs.RisingLaws.{rising-done}
use Rattle.division.specs.Words.{between}
use Rattle.division.specs.Table.{first, last}
use Rattle.division.specs.Sheet.{is_sheet}
use Rattle.municipality.specs.Municipality.{of2000}
use Rattle.municipality.specs.Given.{OfScale}
use Rattle.division.proofs.NumberLaws.{in-range}
use Rattle.municipality.proofs.JudgeLaws.{seven, no-sheet, other-scale, judged-here, falls, goes_on}
use Rattle.municipality.proofs.places.Goals as goal

-- a sheet in the scale's range is of the scale
in-seven : {k a b : ℕ} → is_sheet k ≡ true → a ≡ first 7 → b ≡ last 7 → between a b k ≡ true → OfScale 7 k
in-seven {k = k} h f l t = record { sheet = h; scale = in-range 7 k seven (rw (f, l) at t) }

pub returns-then-not-is_sheet : goal.returns-then-not-is_sheet
returns-then-not-is_sheet c =
    let s = c.args.sheets.now in
    sym (c.loop-sheet.invariant.rest ∙ judged-here s c.loop-sheet.sheet-index c.loop-sheet.least c.loop-sheet-test.true NoSheet (no-sheet (get_or s c.loop-sheet.sheet-index 0) (sym c.is_sheet.ensures ∙ c.if-not-is_sheet.true)))

pub returns-then-not-first-sheet : goal.returns-then-not-first-sheet
returns-then-not-first-sheet c =
    let is_one : is_sheet (get_or c.args.sheets.now c.loop-sheet.sheet-index 0) ≡ true = sym c.is_sheet.ensures ∙ c.if-not-is_sheet.false in
    let s = c.args.sheets.now in
    let k = get_or s c.loop-sheet.sheet-index 0 in
    let t : between c.first-first.result c.last-last.result k ≡ false = c.if-not-first-sheet.true in
    let e = other-scale k is_one (rw (c.first-first.ensures, c.last-last.ensures) at t) in
    sym (c.loop-sheet.invariant.rest ∙ judged-here s c.loop-sheet.sheet-index c.loop-sheet.least c.loop-sheet-test.true NoMunicipality e)

pub returns-then-sheet-least : goal.returns-then-sheet-least
returns-then-sheet-least c =
    let of-scale = in-seven (sym c.is_sheet.ensures ∙ c.if-not-is_sheet.false) c.first-first.ensures c.last-last.ensures in
    sym (c.loop-sheet.invariant.rest ∙ falls c.args.sheets.now c.loop-sheet.sheet-index c.loop-sheet.least c.loop-sheet-test.true (of-scale c.if-not-first-sheet.false) c.if-sheet-least.true)

pub loop-sheet-preserved : goal.loop-sheet-preserved
loop-sheet-preserved c =
    let of-scale = in-seven (sym c.is_sheet.ensures ∙ c.if-not-is_sheet.false) c.first-first.ensures c.last-last.ensures in
    let more = goes_on c.args.sheets.now c.loop-sheet.sheet-index c.loop-sheet.least c.loop-sheet-test.true (of-scale c.if-not-first-sheet.false) c.if-sheet-least.false in
    record { upto = omega arith; rest = c.loop-sheet.invariant.rest ∙ more }

pub returns : goal.returns
returns c =
    sym (c.loop-sheet.invariant.rest ∙ rising-done of2000 c.args.sheets.now c.loop-sheet.sheet-index c.loop-sheet.least c.loop-sheet-test.false)
