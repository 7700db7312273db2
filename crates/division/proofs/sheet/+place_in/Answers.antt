-- Either the scale is made from the area, or the index is that of a part of its parent. Assumes nothing.
use mathlib.Core.Path.{sym}
use native.Mathlib.Nat.{mul-pos}
use native.Mathlib.Omega.{arith}
use Rattle.division.specs.Given.{Parted}
use Rattle.division.specs.Table.{side}
use Rattle.division.proofs.MadeLaws.{left-few}
use Rattle.division.proofs.TableLaws.{rules}
use Rattle.division.proofs.FamilyLaws.{some-columns, top-place, parted, square-few, parent-indexed, deep_room, deep-place, no_parent, the_parent, some-parent}
use Rattle.division.proofs.sheet.+place_in.Goals as goal

pub returns-in-None : goal.returns-in-None
returns-in-None t c =
    let r = c.row-t.ensures in
    rw (c.area_place.ensures, r) (sym (top-place c.requires.scale (no_parent c.args.s (rw r at c.in-None.is)) c.args.i))

pub area_place-requires : goal.area_place-requires
area_place-requires t c = let r = c.row-t.ensures in rw r (some-columns c.requires.scale (no_parent c.args.s (rw r at c.in-None.is)))

-- where the scale has a parent, it is cut into parts
pub nonzero_div-i : goal.nonzero_div-i
nonzero_div-i t c =
    let r = c.row-t.ensures in
    let k : Parted (side c.args.s) = parted c.requires.scale (some-parent c.requires.scale (rw r at c.in-Some.is)) in
    rw r (mul-pos k.some k.some)

pub place_in-up-requires : goal.place_in-up-requires
place_in-up-requires t c =
    let r = c.row-t.ensures in
    rw (r, the_parent c.args.s (rw r at c.in-Some.is)) (omega (arith, c.decreases, (rules c.requires.scale).above), parent-indexed c.requires.scale (some-parent c.requires.scale (rw r at c.in-Some.is)) c.args.i c.requires)

pub nonzero_rem-i : goal.nonzero_rem-i
nonzero_rem-i t c =
    let r = c.row-t.ensures in
    let k : Parted (side c.args.s) = parted c.requires.scale (some-parent c.requires.scale (rw r at c.in-Some.is)) in
    rw r (mul-pos k.some k.some)

pub overflow_add-i : goal.overflow_add-i
overflow_add-i t c =
    let r = c.row-t.ensures in
    let k : Parted (side c.args.s) = parted c.requires.scale (some-parent c.requires.scale (rw r at c.in-Some.is)) in
    rw r (omega (arith, left-few (side c.args.s) c.args.i k.some, square-few k))

pub child_place-requires : goal.child_place-requires
child_place-requires t c =
    let r = c.row-t.ensures in
    rw (c.place_in-up.ensures, r, the_parent c.args.s (rw r at c.in-Some.is)) (deep_room c.requires.scale (some-parent c.requires.scale (rw r at c.in-Some.is)) c.args.i c.requires)

pub returns-in-Some : goal.returns-in-Some
returns-in-Some t c =
    let r = c.row-t.ensures in
    rw (c.child_place.ensures, c.place_in-up.ensures, r, the_parent c.args.s (rw r at c.in-Some.is)) (sym (deep-place c.requires.scale (some-parent c.requires.scale (rw r at c.in-Some.is)) c.args.i c.requires))
