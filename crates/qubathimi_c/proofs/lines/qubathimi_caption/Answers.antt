-- The caption follows from the spans of the line and from how long the fallback is. Assumes nothing.
use Rattle.catalogue.proofs.PartLaws.{caption-is}
use Rattle.qubathimi_c.proofs.lines.qubathimi_caption.Goals as goal

pub returns-clause-value_after : goal.returns-clause-value_after
returns-clause-value_after c = rw (caption-is c.args.line.now c.args.fallback.now, c.tell_caption.ensures.value_after, c.spans_of.ensures)

pub returns-clause-start_after : goal.returns-clause-start_after
returns-clause-start_after c = rw (caption-is c.args.line.now c.args.fallback.now, c.tell_caption.ensures.start_after, c.spans_of.ensures)

pub returns-clause-end_after : goal.returns-clause-end_after
returns-clause-end_after c = rw (caption-is c.args.line.now c.args.fallback.now, c.tell_caption.ensures.end_after, c.spans_of.ensures)
