-- A bare line has the fallback whole, and any other its name's part. Assumes nothing.
use mathlib.Core.Path.{refl, sym}
use Prim.Native.Nat.{◌-◌}
use native.Mathlib.Omega.{arith}
use lib.ListN.{length}
use lib.Seq.{take_all}
use Rattle.catalogue.proofs.PartLaws.{name-lies, caption-is}
use Rattle.catalogue.proofs.parts.caption.Goals as goal

pub returns-then-at : goal.returns-then-at
returns-then-at c =
    let a = c.args in
    let f = a.fallback.now in
    rw (caption-is a.line.now f, rw c.spans_of-at.ensures at c.if-at.true) (record { bytes = sym (take_all (length f - 0) f (omega arith)); block = refl; place = omega arith })

pub slice_bounds-result-count : goal.slice_bounds-result-count
slice_bounds-result-count c = rw c.spans_of-at.ensures (name-lies c.args.line.now).ordered

pub slice_bounds-result-start : goal.slice_bounds-result-start
slice_bounds-result-start c = rw c.spans_of-at.ensures (name-lies c.args.line.now).ordered

pub slice_bounds-result-end : goal.slice_bounds-result-end
slice_bounds-result-end c = rw c.spans_of-at.ensures (name-lies c.args.line.now).inside

pub returns : goal.returns
returns c =
    let a = c.args in
    rw (caption-is a.line.now a.fallback.now, rw c.spans_of-at.ensures at c.if-at.false, c.spans_of-at.ensures) (record { bytes = refl; block = refl; place = omega arith })
