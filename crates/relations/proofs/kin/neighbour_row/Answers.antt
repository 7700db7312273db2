-- A row is three steps, each as a place. Assumes nothing.
use mathlib.Core.Path.{◌∙◌, ap}
use Rattle.relations.specs.Relations.{or_none}
use Rattle.division.proofs.TestLaws.{back}
use Rattle.relations.proofs.RelationLaws.{three, as-place}
use Rattle.relations.proofs.kin.neighbour_row.Goals as goal

pub returns : goal.returns
returns c =
    three (c.ok.ensures.value ∙ as-place c.step-west.result ∙ ap or_none (rw (back c.ranges.south) at c.step-west.ensures))
    (c.ok-2.ensures.value ∙ as-place c.step-here.result ∙ ap or_none (rw (back c.ranges.south) at c.step-here.ensures))
    (c.ok-3.ensures.value ∙ as-place c.step-east.result ∙ ap or_none (rw (back c.ranges.south) at c.step-east.ensures))
