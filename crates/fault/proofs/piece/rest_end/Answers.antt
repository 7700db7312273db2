-- The first place that has the mark is where the piece ends. Assumes nothing.
use Rattle.std.proofs.Common.{◌≡◌, ◌≢◌, sym, ◌∙◌, rules}
use Rattle.std.proofs.lemmas.Iterator.{YieldsList-from_slice, IsFirst-from_position}
use borrow.Author.Tests.{tests}
use Rattle.fault.proofs.FirstLaws.{first-mark}
use Rattle.fault.proofs.piece.rest_end.Goals as goal

pub returns : goal.returns
returns c =
    let m = c.args.mark in
    let s = c.args.rest.now in
    c.unwrap_or.ensures ∙ sym (first-mark m s c.position.result (IsFirst-from_position _ _ _ (λ b. b ≡ m) (λ b. b ≢ m) c.position.ensures.ran (YieldsList-from_slice s cc) (λ x q k. search (rules, tests)) (λ x q k. search (rules, tests))))
