-- Past the test it is a sheet, and its label is written to be counted. Assumes nothing.
use Rattle.std.proofs.Common.{ap, sym, ◌∙◌, ℕ, List, length}
use Rattle.refusal.specs.Paper.{answer}
use Rattle.label.specs.Label.{label_length}
use Rattle.labelling.proofs.writing.label_length.Goals as goal

pub returns-then-not-is_sheet : goal.returns-then-not-is_sheet
unfolding label_length
returns-then-not-is_sheet c = rw (sym c.is_sheet.ensures ∙ c.if-not-is_sheet.true)

pub returns : goal.returns
unfolding label_length
returns c =
    rw (sym c.is_sheet.ensures ∙ c.if-not-is_sheet.false) (ap (λ (l : List ℕ). answer (length l)) (c.as_slice.ensures ∙ c.put_sheet.ensures))
