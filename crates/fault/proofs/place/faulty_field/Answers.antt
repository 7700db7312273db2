-- The fields passed are fine, so the first that is not is among those that are left. Assumes nothing.
use Rattle.std.proofs.Common.{◌≡◌, sym, ap, ◌∙◌, ℕ, ◌+◌, ◌-◌, List, Bool, length, take, drop, arith}
use Rattle.label.specs.Label.{is_field}
use Rattle.label.proofs.PieceLaws.{piece, take-piece}
use Rattle.label.proofs.PlaceLaws.{all-fine, stops-here, one-fine}
use Rattle.fault.proofs.TailLaws.{tail-end, tail-within}
use Rattle.fault.proofs.place.faulty_field.Goals as goal

-- the field from a place to where it ends, as the code lends it
field-judged : (s : List ℕ) (start : ℕ) {end : ℕ} {good : Bool} → end ≡ length (piece 45 (drop start s)) → good ≡ is_field (take (start + end - start) (drop start s)) → good ≡ is_field (piece 45 (drop start s))
field-judged s start {end} e j =
    let n : start + end - start ≡ length (piece 45 (drop start s)) = omega (arith, e) in
    j ∙ ap is_field (ap (λ (k : ℕ). take k (drop start s)) n ∙ take-piece 45 (drop start s))

pub overflow_add-end : goal.overflow_add-end
overflow_add-end c =
    omega (arith, tail-within 45 c.args.bytes.now c.loop-start.start c.piece_end.ensures (omega arith))

pub slice_bounds-is_field-end : goal.slice_bounds-is_field-end
slice_bounds-is_field-end c =
    omega (arith, tail-within 45 c.args.bytes.now c.loop-start.start c.piece_end.ensures (omega arith))

pub returns-then-not-is_field : goal.returns-then-not-is_field
returns-then-not-is_field c =
    let field = tail-end 45 c.args.bytes.now c.loop-start.start c.piece_end.ensures in
    let judged = field-judged c.args.bytes.now c.loop-start.start field c.is_field.ensures in
    stops-here c.loop-start.invariant (sym judged ∙ c.if-not-is_field.true)

pub loop-start-preserved : goal.loop-start-preserved
loop-start-preserved c =
    let field = tail-end 45 c.args.bytes.now c.loop-start.start c.piece_end.ensures in
    let judged = field-judged c.args.bytes.now c.loop-start.start field c.is_field.ensures in
    rw field (one-fine c.loop-start.invariant c.loop-start-test.true (sym judged ∙ c.if-not-is_field.false))

pub returns : goal.returns
returns c = all-fine c.loop-start.invariant c.loop-start-test.false
