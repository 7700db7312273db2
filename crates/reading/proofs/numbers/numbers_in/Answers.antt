-- Where a field begins, the numbers that are stored and those from there on are the numbers of the label. Assumes nothing.
use Rattle.std.proofs.Common.{◌≡◌, sym, ◌∙◌, true, get_or, arith}
use Rattle.reading.specs.Given.{is_digit}
use Rattle.reading.proofs.ScanLaws.{begins, ends-empty, empty, too_far, taken, place-left, ends, hyphen}
use Rattle.reading.proofs.numbers.numbers_in.Goals as goal

pub loop-start-init : goal.loop-start-init
loop-start-init c = begins c.args.bytes.now c.requires.bytes_len_bound c.requires.none_yet

pub returns-then-not-is_digit : goal.returns-then-not-is_digit
returns-then-not-is_digit c =
    sym (empty c.loop-start.invariant c.loop-start-test.true (sym c.is_digit.ensures ∙ c.if-not-is_digit.true))

pub returns-then-run-gt16 : goal.returns-then-run-gt16
returns-then-run-gt16 c =
    let digit : is_digit (get_or c.args.bytes.now c.loop-start.start 0) ≡ true = sym c.is_digit.ensures ∙ c.if-not-is_digit.false in
    sym (too_far c.loop-start.invariant c.loop-start-test.true digit c.field-run.result c.field-run.ensures c.if-run-gt16.true)

pub push-requires : goal.push-requires
push-requires c =
    let digit : is_digit (get_or c.args.bytes.now c.loop-start.start 0) ≡ true = sym c.is_digit.ensures ∙ c.if-not-is_digit.false in
    let read = taken c.loop-start.invariant c.loop-start-test.true digit c.field-run.result c.field-run.ensures c.if-run-gt16.false in
    (omega arith, place-left c.loop-start.invariant c.loop-start-test.true digit read c.if-run-gt16.false)

pub returns-then-not-has_hyphen : goal.returns-then-not-has_hyphen
returns-then-not-has_hyphen c =
    let digit : is_digit (get_or c.args.bytes.now c.loop-start.start 0) ≡ true = sym c.is_digit.ensures ∙ c.if-not-is_digit.false in
    let read = taken c.loop-start.invariant c.loop-start-test.true digit c.field-run.result c.field-run.ensures c.if-run-gt16.false in
    rw c.push.ensures.items (ends c.loop-start.invariant c.loop-start-test.true digit read c.if-run-gt16.false (sym c.has_hyphen.ensures ∙ c.if-not-has_hyphen.true))

pub loop-start-preserved : goal.loop-start-preserved
loop-start-preserved c =
    let digit : is_digit (get_or c.args.bytes.now c.loop-start.start 0) ≡ true = sym c.is_digit.ensures ∙ c.if-not-is_digit.false in
    let read = taken c.loop-start.invariant c.loop-start-test.true digit c.field-run.result c.field-run.ensures c.if-run-gt16.false in
    rw c.push.ensures.items (hyphen c.loop-start.invariant c.loop-start-test.true digit read c.if-run-gt16.false (sym c.has_hyphen.ensures ∙ c.if-not-has_hyphen.false))

pub returns : goal.returns
returns c = sym (ends-empty c.loop-start.invariant c.loop-start-test.false)
