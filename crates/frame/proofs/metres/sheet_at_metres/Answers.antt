-- Past the tests both values are numbers below 2 ^ 53 metres; a larger one lies outside. Assumes nothing.
use mathlib.Core.Path.{◌≡◌, sym, ◌∙◌}
use mathlib.Core.Bool.{true}
use Rattle.refusal.specs.Paper.{is_answer}
use Rattle.division.specs.Table.{is_scale}
use Rattle.division.proofs.TestLaws.{both}
use Rattle.frame.specs.Exact.{exactly}
use Rattle.frame.proofs.PointTheorems.{no_number}
use Rattle.frame.proofs.PointLaws.{pair, out-of-reach-refused}
use Rattle.frame.proofs.metres.sheet_at_metres.Goals as goal

pub returns-then-not-is_number : goal.returns-then-not-is_number
returns-then-not-is_number c =
    let is-scale : is_scale c.args.scale ≡ true = sym c.is_scale.ensures ∙ c.if-not-is_scale.false in
    let a = c.args in
    sym (no_number a.scale a.e a.n is-scale (sym (pair c.is_number.ensures c.is_number-2.ensures) ∙ c.if-not-is_number.true))

pub returns-then-not-in_reach : goal.returns-then-not-in_reach
returns-then-not-in_reach c =
    let is-scale : is_scale c.args.scale ≡ true = sym c.is_scale.ensures ∙ c.if-not-is_scale.false in
    let numbers : let a = c.args in (is_answer (exactly a.e) ≡ true) × (is_answer (exactly a.n) ≡ true) = let a = c.args in
    both (is_answer (exactly a.e)) (is_answer (exactly a.n)) (sym (pair c.is_number.ensures c.is_number-2.ensures) ∙ c.if-not-is_number.false) in
    sym (out-of-reach-refused c.args.scale c.args.e c.args.n c.well_formed.1.0.1 c.well_formed.1.1.0.1 is-scale numbers (sym (pair c.in_reach.ensures c.in_reach-2.ensures) ∙ c.if-not-in_reach.true))
