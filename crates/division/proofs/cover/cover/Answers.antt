-- What is refused of the rows and columns is refused of the cover, and their block fills the room where it fits. Assumes nothing.
use Rattle.std.proofs.Common.{◌≡◌, length}
use mathlib.Core.Path.{refl, sym}
use Rattle.std.proofs.lemmas.Result.{err_from_is_err_and}
use native.Mathlib.Omega.{arith}
use Rattle.refusal.specs.Paper.{answer}
use Rattle.refusal.proofs.PaperLaws.{told-refused}
use Rattle.division.specs.Cover.{block_in}
use Rattle.division.proofs.CoverLaws.{refused-cover, small, short, fills, counts, written}
use Rattle.division.proofs.cover.cover.Goals as goal

pub overflow_mul-count : goal.overflow_mul-count
overflow_mul-count c = omega (arith, small _ _ _ (sym (c.in_ok-down.ensures)))

pub returns-then-room-count : goal.returns-then-room-count
returns-then-room-count c = let a = c.args in rw (short a.scale a.window c.in_ok-down.field-0 (sym (c.in_ok-down.ensures)) (length a.room.now) c.if-room-count.true) (record { result_value = refl; room_after = refl })

pub fill-requires : goal.fill-requires
fill-requires c = fills c.args.scale c.args.window c.in_ok-down.field-0 (sym (c.in_ok-down.ensures)) (length c.args.room.now) c.if-room-count.false

pub returns-in_err-down : goal.returns-in_err-down
returns-in_err-down c =
    let a = c.args in
    let p = err_from_is_err_and c.from_residual.result c.from_residual.ensures.1 in
    let told = told-refused c.in_err-down.field-0.0 a.room.now in
    let e = refused-cover a.scale a.window (length a.room.now) c.in_err-down.field-0.0 (sym c.in_err-down.ensures) in
    rw (p.1, p.2, e) (record { result_value = told.0; room_after = told.1 })

pub returns : goal.returns
returns c =
    let a = c.args in
    let met : block_in a.scale a.window ≡ answer c.in_ok-down.field-0 = sym (c.in_ok-down.ensures) in
    let b = c.in_ok-down.field-0 in
    record { result_value = counts a.scale a.window b met a.room.now c.if-room-count.false; room_after = written a.scale a.window b met a.room.now c.if-room-count.false c.fill.new.room c.fill.ensures }
