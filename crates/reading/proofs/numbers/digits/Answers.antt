-- Each turn takes a digit into the number, and what is left to read stays the same run. Assumes nothing.
use Rattle.std.proofs.Common.{◌≡◌, sym, ◌∙◌, length, arith}
use Rattle.reading.proofs.DigitLaws.{sixteen, digit-few, reads_on, ends_at, ends-out}
use Rattle.reading.proofs.numbers.digits.Goals as goal

pub returns-then-not-is_digit : goal.returns-then-not-is_digit
returns-then-not-is_digit c =
    let m = c.loop-i in
    ends_at _ m.i m.value c.loop-i-test.true (sym c.is_digit.ensures ∙ c.if-not-is_digit.true) ∙ m.invariant.rest

pub overflow_mul-value : goal.overflow_mul-value
overflow_mul-value c = omega (arith, sixteen c.loop-i.invariant c.loop-i-test.true)

pub overflow_add-value : goal.overflow_add-value
overflow_add-value c =
    let w = c.loop-i.invariant in
    omega (arith, sixteen w c.loop-i-test.true, digit-few w c.loop-i-test.true (sym c.is_digit.ensures ∙ c.if-not-is_digit.false))

pub loop-i-preserved : goal.loop-i-preserved
loop-i-preserved c =
    rw c.from.ensures (reads_on c.loop-i.invariant c.loop-i-test.true (sym c.is_digit.ensures ∙ c.if-not-is_digit.false))

pub returns : goal.returns
returns c =
    let m = c.loop-i in
    let all : length c.args.bytes.now ≡ m.i = omega arith in
    rw all (ends-out _ m.i m.value c.loop-i-test.false) ∙ m.invariant.rest
