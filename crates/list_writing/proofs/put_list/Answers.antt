-- Each turn writes one gap, and leaves the rest of the list to be written behind it. Assumes nothing.
use native.Mathlib.Omega.{arith}
use Rattle.shelf.specs.Kind.{kind_of}
use Rattle.shelf.proofs.KindLaws.{works}
use Rattle.shelf.proofs.WritingLaws.{set-in, length-list, putting-first, putting-next, putting-done, gap-fits, here, here-small}
use Rattle.list_writing.proofs.put_list.Goals as goal

pub overflow_cast-numbers : goal.overflow_cast-numbers
overflow_cast-numbers g c = omega (arith, (set-in c.requires.numbers_value).few)

pub put_number-at-requires : goal.put_number-at-requires
put_number-at-requires g c =
    rw c.begins.ensures (omega (arith, c.requires.numbers_in_bounds, length-list (kind_of g.K.Kind.name) c.args.numbers.now))

pub loop-number-init : goal.loop-number-init
loop-number-init g c =
    let p = c.put_number-at in
    let e = c.begins.ensures in
    putting-first (works g.K.Kind.name) c.args.numbers.now c.args.room.now (c.requires.numbers_value, c.requires.numbers_in_bounds) p.new.room p.result (rw e at p.ensures.value) (rw e at p.ensures.room_after)

pub overflow_sub-number : goal.overflow_sub-number
overflow_sub-number g c = (here c.loop-number.invariant c.loop-number-test.true).rises

pub put_number-at-requires-in-loop-number : goal.put_number-at-requires-in-loop-number
put_number-at-requires-in-loop-number g c = gap-fits c.loop-number.invariant c.loop-number-test.true

pub overflow_add-next : goal.overflow_add-next
overflow_add-next g c = omega (arith, here-small c.loop-number.invariant c.loop-number-test.true)

pub loop-number-preserved : goal.loop-number-preserved
loop-number-preserved g c =
    let p = c.put_number-at-in-loop-number in
    putting-next c.loop-number.invariant c.loop-number-test.true p.new.room p.result p.ensures.value p.ensures.room_after

pub returns : goal.returns
returns g c =
    let p = c.put_number-at in
    let e = c.begins.ensures in
    putting-done (works g.K.Kind.name) c.args.numbers.now c.args.room.now (c.requires.numbers_value, c.requires.numbers_in_bounds) p.new.room p.result (rw e at p.ensures.value) (rw e at p.ensures.room_after) c.loop-number.invariant c.loop-number-test.false
