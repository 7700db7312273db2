-- Each way out of a turn is one of the definition's cases. Assumes nothing.
use mathlib.Core.Path.{◌≡◌, ◌∙◌, sym}
use Prim.Native.Nat.{◌-◌}
use mathlib.Core.Bool.{true}
use native.Mathlib.Omega.{arith}
use lib.ListN.{length, take, drop}
use Rattle.run.specs.Run.{goes_on, held_with}
use Rattle.run.proofs.PartLaws.{part-is, held-is, part-few}
use Rattle.run.proofs.PrintTheorems.{done-few}
use Rattle.run.proofs.TurnLaws.{Enough, enough-is, turned-stops, turned-ends, turned-full, turned-waits}
use Rattle.run.proofs.turn.turn.Goals as goal

pub returns-then-not-goes_on : goal.returns-then-not-goes_on
returns-then-not-goes_on c =
    let s = c.args in
    let answered = turned-stops s.buf.now s.out.now s.s s.got (sym c.goes_on.ensures ∙ c.if-not-goes_on.true) in
    record { value = answered.0; buf_after = answered.1.0; out_after = answered.1.1.0; end_in_bounds = answered.1.1.1.0; written_in_bounds = answered.1.1.1.1 }

pub returns-then-s-got : goal.returns-then-s-got
returns-then-s-got c =
    let on : goes_on (length c.args.buf.now) (length c.args.out.now) c.args.s.number ≡ true = sym c.goes_on.ensures ∙ c.if-not-goes_on.false in
    let held : take (c.reach-end.result - c.min-from.result) (drop c.min-from.result c.args.buf.now) ≡ held_with c.args.s c.args.got c.args.buf.now = let s = c.args in
    part-is s.buf.now c.min-from.result c.reach-end.result ∙ held-is s.buf.now s.s.from _ c.min-from.result c.reach-end.result c.reach-end.ensures c.min-from.ensures in
    let s = c.args in
    let answered = turned-ends s.buf.now s.out.now s.s s.got on c.if-s-got.true (rw held at c.last-row.ensures) in
    record { value = answered.0; buf_after = answered.1.0; out_after = answered.1.1.0; end_in_bounds = answered.1.1.1.0; written_in_bounds = answered.1.1.1.1 }

pub overflow_add-next : goal.overflow_add-next
overflow_add-next c =
    let on : goes_on (length c.args.buf.now) (length c.args.out.now) c.args.s.number ≡ true = sym c.goes_on.ensures ∙ c.if-not-goes_on.false in
    let enough : Enough (length c.args.buf.now) (length c.args.out.now) c.args.s.number = let s = c.args in enough-is (length s.buf.now) (length s.out.now) s.s.number on in
    let s = c.args in
    let lent = take (c.reach-end.result - c.min-from.result) (drop c.min-from.result s.buf.now) in
    omega (arith, enough.few, c.feed-fed.ensures.lines, done-few (length s.out.now) lent, part-few s.buf.now c.min-from.result c.reach-end.result)

pub returns-then-out-fed : goal.returns-then-out-fed
returns-then-out-fed c =
    let on : goes_on (length c.args.buf.now) (length c.args.out.now) c.args.s.number ≡ true = sym c.goes_on.ensures ∙ c.if-not-goes_on.false in
    let held : take (c.reach-end.result - c.min-from.result) (drop c.min-from.result c.args.buf.now) ≡ held_with c.args.s c.args.got c.args.buf.now = let s = c.args in
    part-is s.buf.now c.min-from.result c.reach-end.result ∙ held-is s.buf.now s.s.from _ c.min-from.result c.reach-end.result c.reach-end.ensures c.min-from.ensures in
    let s = c.args in
    let answered = turned-full s.buf.now s.out.now s.s s.got on c.if-s-got.false (rw held at c.feed-fed.ensures) c.reach-end.result c.min-from.result c.reach-end.ensures c.min-from.ensures (omega (arith, c.if-out-fed.true)) in
    record { value = answered.0; buf_after = answered.1.0; out_after = answered.1.1.0; end_in_bounds = answered.1.1.1.0; written_in_bounds = answered.1.1.1.1 }

pub returns : goal.returns
returns c =
    let on : goes_on (length c.args.buf.now) (length c.args.out.now) c.args.s.number ≡ true = sym c.goes_on.ensures ∙ c.if-not-goes_on.false in
    let held : take (c.reach-end.result - c.min-from.result) (drop c.min-from.result c.args.buf.now) ≡ held_with c.args.s c.args.got c.args.buf.now = let s = c.args in
    part-is s.buf.now c.min-from.result c.reach-end.result ∙ held-is s.buf.now s.s.from _ c.min-from.result c.reach-end.result c.reach-end.ensures c.min-from.ensures in
    let s = c.args in
    let answered = turned-waits s.buf.now s.out.now s.s s.got on c.if-s-got.false (rw held at c.feed-fed.ensures) c.reach-end.result c.min-from.result c.reach-end.ensures c.min-from.ensures (omega (arith, c.if-out-fed.false)) c.keep-held.ensures in
    record { value = answered.0; buf_after = answered.1.0; out_after = answered.1.1.0; end_in_bounds = answered.1.1.1.0; written_in_bounds = answered.1.1.1.1 }
