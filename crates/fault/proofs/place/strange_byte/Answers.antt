-- The first byte that is neither digit nor hyphen is the first that fails the test of a label's bytes. Assumes nothing.
use Rattle.std.proofs.Common.{◌≡◌, sym, ◌∙◌, true, false, rules}
use Rattle.std.proofs.lemmas.Iterator.{YieldsList-from_slice, IsFirst-from_position}
use borrow.Author.Tests.{tests}
use Rattle.label.specs.Label.{is_label_byte}
use Rattle.fault.proofs.FirstLaws.{first-failing}
use Rattle.fault.proofs.place.strange_byte.Goals as goal

pub returns : goal.returns
returns c =
    let s = c.args.bytes.now in
    c.unwrap_or.ensures ∙ sym (first-failing is_label_byte s c.position.result (IsFirst-from_position _ _ _ (λ b. is_label_byte b ≡ false) (λ b. is_label_byte b ≡ true) c.position.ensures.ran (YieldsList-from_slice s cc) (λ x q k. search (rules, tests)) (λ x q k. search (rules, tests))))
