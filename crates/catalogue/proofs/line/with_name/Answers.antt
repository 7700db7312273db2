-- A line of the definition for each test. Assumes nothing.
use mathlib.Core.Path.{◌≡◌, sym, ◌∙◌}
use mathlib.Core.Bool.{◌||◌}
use Rattle.division.specs.Words.{◌≤?◌, ◌<?◌}
use Rattle.division.specs.Sheet.{scale_of}
use Rattle.catalogue.specs.Line.{with_name}
use Rattle.catalogue.proofs.NameLaws.{has-names}
use Rattle.catalogue.proofs.line.with_name.Goals as goal

pub returns-then-not-scaled : goal.returns-then-not-scaled
unfolding with_name
returns-then-not-scaled c =
    let scaled : let n = c.args.sheet in (n <? c.first.result || 7_953_173 <? n) ≡ (scale_of n ≤? 6) = rw c.first.ensures (has-names c.args.sheet) in
    rw (sym scaled ∙ c.if-not-scaled.true)

pub returns-then-not-formed : goal.returns-then-not-formed
unfolding with_name
returns-then-not-formed c =
    let scaled : let n = c.args.sheet in (n <? c.first.result || 7_953_173 <? n) ≡ (scale_of n ≤? 6) = rw c.first.ensures (has-names c.args.sheet) in
    rw (sym scaled ∙ c.if-not-scaled.false, sym c.is_name-formed.ensures ∙ c.if-not-formed.true)

pub returns : goal.returns
unfolding with_name
returns c =
    let scaled : let n = c.args.sheet in (n <? c.first.result || 7_953_173 <? n) ≡ (scale_of n ≤? 6) = rw c.first.ensures (has-names c.args.sheet) in
    rw (sym scaled ∙ c.if-not-scaled.false, sym c.is_name-formed.ensures ∙ c.if-not-formed.false)
