-- What is measured is a set, and where there is room for its list it is written. Assumes nothing.
use Rattle.std.proofs.lemmas.Result.{err_from_is_err_and}
use Rattle.shelf.specs.Kind.{kind_of}
use Rattle.shelf.proofs.WritingLaws.{measured, writable, writes-none, writes_short, writes-all}
use Rattle.list_writing.proofs.write_in.Goals as goal

-- where there is no room, the refusal tells how long the list is,
-- and nothing is written
pub returns-then-room-long : goal.returns-then-room-long
returns-then-room-long g c =
    let a = c.args in
    let long = measured (kind_of g.K.Kind.name) a.numbers.now c.in_ok-long.long c.in_ok-long.ensures in
    let owed = writes_short (kind_of g.K.Kind.name) a.numbers.now a.room.now c.in_ok-long.long long c.if-room-long.true in
    record { result_value = owed.0; room_after = owed.1 }

pub put_list-requires : goal.put_list-requires
put_list-requires g c =
    let a = c.args in
    let long = measured (kind_of g.K.Kind.name) a.numbers.now c.in_ok-long.long c.in_ok-long.ensures in
    let owed = writable (kind_of g.K.Kind.name) a.numbers.now a.room.now c.in_ok-long.long long c.if-room-long.false in
    record { numbers_value = owed.0; numbers_in_bounds = owed.1 }

pub returns-in_err-long : goal.returns-in_err-long
returns-in_err-long g c =
    let a = c.args in
    let p = err_from_is_err_and c.from_residual.result c.from_residual.ensures.1 in
    let owed = writes-none (kind_of g.K.Kind.name) a.numbers.now a.room.now c.in_err-long.field-0.0 c.in_err-long.ensures in
    rw (p.1, p.2) (record { result_value = owed.0; room_after = owed.1 })

pub returns : goal.returns
returns g c =
    let a = c.args in
    let long = measured (kind_of g.K.Kind.name) a.numbers.now c.in_ok-long.long c.in_ok-long.ensures in
    let owed = writes-all (kind_of g.K.Kind.name) a.numbers.now a.room.now c.in_ok-long.long long c.put_list.new.room c.if-room-long.false c.put_list.ensures in
    record { result_value = owed.0; room_after = owed.1 }
