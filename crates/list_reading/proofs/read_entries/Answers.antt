-- Each turn reads one entry and places its number, and leaves the rest of the reading as it was. Assumes nothing.
use mathlib.Core.Path.{sym, ◌∙◌}
use Rattle.shelf.proofs.ReadingLaws.{entering-next, ends-refused, ends-over, ends-whole}
use Rattle.list_reading.proofs.read_entries.Goals as goal

pub returns-in-Err : goal.returns-in-Err
returns-in-Err g c =
    let owed = ends-refused c.loop-i.invariant c.loop-i-test.true c.in-Err.why c.refused.ensures c.in-Err.ensures in
    record { read = owed.0; room_after = owed.1 }

pub loop-i-preserved : goal.loop-i-preserved
loop-i-preserved g c = entering-next c.loop-i.invariant c.loop-i-test.true c.in-Ok.number c.in-Ok.behind c.in-Ok.ensures

pub returns-then-not-is_empty : goal.returns-then-not-is_empty
returns-then-not-is_empty g c =
    let owed = ends-over c.loop-i.invariant c.loop-i-test.false c.refused-then-not-is_empty.ensures (sym c.is_empty.ensures ∙ c.if-not-is_empty.true) in
    record { read = owed.0; room_after = owed.1 }

pub returns : goal.returns
returns g c =
    let owed = ends-whole c.loop-i.invariant c.loop-i-test.false (sym c.is_empty.ensures ∙ c.if-not-is_empty.false) in
    record { read = owed.0; room_after = owed.1 }
