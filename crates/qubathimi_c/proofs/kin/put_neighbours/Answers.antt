-- The block is its three rows, one behind the other. Assumes nothing.
use mathlib.Core.Path.{refl}
use mathlib.Core.List.{flat_map}
use lib.ListN.{length}
use Rattle.relations.specs.Relations.{neighbours}
use Rattle.qubathimi_c.proofs.NeighbourLaws.{too_short, fits, placed}
use Rattle.qubathimi_c.proofs.kin.put_neighbours.Goals as goal

pub returns-then-room-lt9 : goal.returns-then-room-lt9
returns-then-room-lt9 c =
    let a = c.args in
    rw (too_short a.sheet (length a.room.now) c.if-room-lt9.true) (record { result_value = refl; room_after = refl })

pub returns : goal.returns
unfolding neighbours flat_map
returns c =
    let a = c.args in
    let h = c.if-room-lt9.false in record { result_value = rw (fits a.sheet (length a.room.now) h) refl; room_after = rw (c.put_row-3.ensures, c.put_row-2.ensures, c.put_row.ensures) (placed a.sheet a.room.now h c.neighbours.ensures) }
