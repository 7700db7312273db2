-- Each turn judges one place of the cover by its mark. Assumes nothing.
use Prim.Native.Nat.{◌<◌}
use native.Mathlib.Omega.{arith}
use Rattle.delivery.specs.Given.{sheets_of, count_of, marked_place}
use Rattle.delivery.proofs.TurnLaws.{turning-more}
use Rattle.delivery.proofs.MarkLaws.{first-missing, all_there}
use Rattle.delivery.proofs.cover.Cover.complete.Goals as goal

pub returns-then-not-marks-place : goal.returns-then-not-marks-place
returns-then-not-marks-place c =
    let s = c.args.self in
    let inside : c.loop-place.place < count_of s.block = omega (arith, c.loop-place-test.true, c.count-count.ensures) in
    first-missing (sheets_of s.scale s.block) c.args.marks.now c.loop-place.invariant inside c.if-not-marks-place.true c.sheet_at.ensures

pub loop-place-preserved : goal.loop-place-preserved
loop-place-preserved c =
    let s = c.args.self in
    let inside : c.loop-place.place < count_of s.block = omega (arith, c.loop-place-test.true, c.count-count.ensures) in
    turning-more (marked_place (sheets_of s.scale s.block) c.args.marks.now) c.loop-place.invariant inside (rw c.if-not-marks-place.false)

pub returns : goal.returns
returns c =
    let s = c.args.self in
    all_there (sheets_of s.scale s.block) c.args.marks.now c.loop-place.invariant (omega (arith, c.loop-place-test.false, c.count-count.ensures)) c.count-count.ensures
