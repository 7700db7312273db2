-- The name's part lies within the line. Assumes nothing.
use Rattle.catalogue.proofs.PartLaws.{name-lies}
use Rattle.catalogue.proofs.parts.name_part.Goals as goal

pub slice_bounds-result-count : goal.slice_bounds-result-count
slice_bounds-result-count c = rw c.spans_of-at.ensures (name-lies c.args.line.now).ordered

pub slice_bounds-result-start : goal.slice_bounds-result-start
slice_bounds-result-start c = rw c.spans_of-at.ensures (name-lies c.args.line.now).ordered

pub slice_bounds-result-end : goal.slice_bounds-result-end
slice_bounds-result-end c = rw c.spans_of-at.ensures (name-lies c.args.line.now).inside
