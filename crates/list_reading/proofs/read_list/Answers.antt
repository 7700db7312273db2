-- A list of sheets, each of them placed as it is. Assumes nothing.
use mathlib.Core.Path.{refl, sym, ◌∙◌}
use lib.ListN.{length}
use Rattle.shelf.specs.Kind.{of_sheets}
use Rattle.shelf.proofs.ReadingLaws.{reads_none, reads_as, each-once, first-refused, first_read}
use Rattle.list_reading.proofs.read_list.Goals as goal

pub returns-in-Err : goal.returns-in-Err
returns-in-Err c =
    let a = c.args in
    let owed = reads_none a.room.now _ c.refused.ensures (first-refused of_sheets a.bytes.now (length a.room.now) c.in-Err.why (sym c.in-Err.ensures)) refl in
    record { read = owed.0; room_after = owed.1 }

pub returns-in-Ok : goal.returns-in-Ok
returns-in-Ok c =
    let a = c.args in
    let e = c.read_behind.ensures in
    let owed = reads_as a.room.now (each-once _ ∙ sym (first_read of_sheets a.bytes.now (length a.room.now) _ (sym c.in-Ok.ensures))) (e.read, e.room_after) in
    record { read = owed.0; room_after = owed.1 }
