-- The digits behind the first are none, or go on with it, unless it is a zero. Assumes nothing.
use mathlib.Core.Path.{◌≡◌, ◌∙◌, sym}
use mathlib.Core.Bool.{true, false}
use Prim.Native.Nat.{◌+◌, ◌*◌, ◌<◌}
use native.Mathlib.Nat.{pow-le-pow_right}
use native.Mathlib.Omega.{arith}
use lib.ListN.{length, get_or}
use Rattle.division.proofs.TestLaws.{between_in}
use Rattle.reading.specs.Given.{is_digit}
use Rattle.reading.proofs.DigitLaws.{alone-out, alone_at, leads, goes_on}
use Rattle.reading.proofs.numbers.field.Goals as goal

pub returns-then-at-bytes : goal.returns-then-at-bytes
returns-then-at-bytes c =
    let a = c.args in
    rw c.from-front.ensures (alone-out a.bytes.now a.first a.at (omega (arith, c.if-at-bytes.true)))

pub returns-then-not-is_digit : goal.returns-then-not-is_digit
returns-then-not-is_digit c =
    let behind : let a = c.args in a.at < length a.bytes.now = omega (arith, c.requires.at_in_bounds, c.if-at-bytes.false) in
    let no_digit : let a = c.args in is_digit (get_or a.bytes.now a.at 0) ≡ false = sym c.is_digit.ensures ∙ c.if-not-is_digit.true in
    let a = c.args in
    rw c.from-front.ensures (alone_at a.bytes.now a.first a.at behind no_digit)

pub returns-then-first-eq48 : goal.returns-then-first-eq48
returns-then-first-eq48 c =
    let behind : let a = c.args in a.at < length a.bytes.now = omega (arith, c.requires.at_in_bounds, c.if-at-bytes.false) in
    let digit : let a = c.args in is_digit (get_or a.bytes.now a.at 0) ≡ true = sym c.is_digit.ensures ∙ c.if-not-is_digit.false in
    let a = c.args in
    leads a.bytes.now a.first a.at behind digit c.if-first-eq48.true

pub digits-requires : goal.digits-requires
digits-requires c =
    let behind : let a = c.args in a.at < length a.bytes.now = omega (arith, c.requires.at_in_bounds, c.if-at-bytes.false) in
    let digit : let a = c.args in is_digit (get_or a.bytes.now a.at 0) ≡ true = sym c.is_digit.ensures ∙ c.if-not-is_digit.false in
    let small : c.from-front.result * 10 + c.from.result < 100 = let a = c.args in
    let first = between_in 48 57 a.first c.requires.first_value in
    let second = between_in 48 57 (get_or a.bytes.now a.at 0) digit in
    omega (arith, c.from-front.ensures, first.0, first.1, c.from.ensures, second.0, second.1) in
    let p = c.requires in
    let at = c.args.at in
    record { bytes_len_bound = p.bytes_len_bound; at_in_bounds = omega (arith, behind); front_bound = omega (arith, small, pow-le-pow_right {n = 10} (omega arith) {i = 2} {j = at + 1} (omega (arith, p.le_at))) }

pub returns : goal.returns
returns c =
    let behind : let a = c.args in a.at < length a.bytes.now = omega (arith, c.requires.at_in_bounds, c.if-at-bytes.false) in
    let digit : let a = c.args in is_digit (get_or a.bytes.now a.at 0) ≡ true = sym c.is_digit.ensures ∙ c.if-not-is_digit.false in
    let a = c.args in
    c.digits.ensures ∙ rw (c.from-front.ensures, c.from.ensures) (goes_on a.bytes.now a.first a.at behind digit c.if-first-eq48.false)
