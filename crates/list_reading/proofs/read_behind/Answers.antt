-- The first number tells the count, and no more numbers follow it than there is room. Assumes nothing.
use mathlib.Core.Path.{refl, sym, ap}
use Prim.Native.Nat.{◌*◌}
use lib.ListN.{length}
use Rattle.shelf.specs.Kind.{kind_of}
use Rattle.shelf.specs.Reading.{each_as}
use Rattle.shelf.proofs.ReadingLaws.{reads_none, reads_as, count-refused, count_room, count-read}
use Rattle.list_reading.proofs.read_behind.Goals as goal

pub returns-in-Err : goal.returns-in-Err
returns-in-Err g c =
    let a = c.args in
    let owed = reads_none a.room.now _ c.refused.ensures (ap (each_as (λ n. a.times * n)) (count-refused (kind_of g.K.Kind.name) a.first a.bytes.now (length a.room.now) c.in-Err.why (sym c.in-Err.ensures))) refl in
    record { read = owed.0; room_after = owed.1 }

pub returns-then-room-count : goal.returns-then-room-count
returns-then-room-count g c =
    let a = c.args in
    let owed = reads_none a.room.now _ c.refused-then-room-count.ensures (ap (each_as (λ n. a.times * n)) (count_room (kind_of g.K.Kind.name) a.first a.bytes.now (length a.room.now) _ (sym c.in-Ok.ensures) c.if-room-count.true)) refl in
    record { read = owed.0; room_after = owed.1 }

pub returns-else-room-count : goal.returns-else-room-count
returns-else-room-count g c =
    let a = c.args in
    let e = c.read_entries.ensures in
    let owed = reads_as a.room.now (ap (each_as (λ n. a.times * n)) (sym (count-read (kind_of g.K.Kind.name) a.first a.bytes.now (length a.room.now) _ (sym c.in-Ok.ensures) c.if-room-count.false))) (e.read, e.room_after) in
    record { read = owed.0; room_after = owed.1 }
