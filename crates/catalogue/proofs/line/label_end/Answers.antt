-- The label is the piece before the first space, and a beginning of the line has a beginning of it. Assumes nothing.
use Rattle.std.proofs.Common.{ap, ◌∙◌, length, length-take, arith}
use Rattle.catalogue.specs.Line.{label_in}
use Rattle.catalogue.proofs.LineLaws.{label-within, label-cut}
use Rattle.catalogue.proofs.line.label_end.Goals as goal

pub returns : goal.returns
unfolding label_in
returns c =
    let line = c.args.line.now in
    c.piece_end.ensures ∙ ap length (label-cut c.min.result line) ∙ length-take c.min.result (label_in line) ∙ omega (arith, label-within line)
