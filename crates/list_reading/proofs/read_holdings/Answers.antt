-- The first number tells the kind, and an old list is read as sheets, each placed as three times itself. Assumes nothing.
use mathlib.Core.Path.{refl, sym}
use lib.ListN.{length}
use Rattle.shelf.proofs.ReadingLaws.{reads_none, reads_as, told-refused, old-thrice, new-once}
use Rattle.list_reading.proofs.read_holdings.Goals as goal

pub returns-then-first-lt8192 : goal.returns-then-first-lt8192
returns-then-first-lt8192 c =
    let a = c.args in
    let e = c.read_behind.ensures in
    let owed = reads_as a.room.now (old-thrice a.bytes.now (length a.room.now) _ _ (sym c.in-Ok.ensures) c.if-first-lt8192.true) (e.read, e.room_after) in
    record { read = owed.0; room_after = owed.1 }

pub returns-in-Err : goal.returns-in-Err
returns-in-Err c =
    let a = c.args in
    let owed = reads_none a.room.now _ c.refused.ensures (told-refused a.bytes.now (length a.room.now) c.in-Err.why (sym c.in-Err.ensures)) refl in
    record { read = owed.0; room_after = owed.1 }

pub returns-else-first-lt8192 : goal.returns-else-first-lt8192
returns-else-first-lt8192 c =
    let a = c.args in
    let e = c.read_behind-in-Ok.ensures in
    let owed = reads_as a.room.now (new-once a.bytes.now (length a.room.now) _ _ (sym c.in-Ok.ensures) c.if-first-lt8192.false) (e.read, e.room_after) in
    record { read = owed.0; room_after = owed.1 }
