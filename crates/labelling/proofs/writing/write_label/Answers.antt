-- Past the test it is a sheet, and its label is written and laid. Assumes nothing.
use Rattle.std.proofs.Common.{◌≡◌, refl, sym, ◌∙◌, true}
use Rattle.division.specs.Sheet.{is_sheet}
use Rattle.label.specs.Label.{label_of, write_label}
use Rattle.labelling.proofs.writing.write_label.Goals as goal

pub returns-then-not-is_sheet : goal.returns-then-not-is_sheet
unfolding write_label
returns-then-not-is_sheet c =
    rw (sym c.is_sheet.ensures ∙ c.if-not-is_sheet.true) (record { result_value = refl; room_after = refl })

pub returns : goal.returns
unfolding write_label
returns c =
    let sheet : is_sheet c.args.sheet ≡ true = sym c.is_sheet.ensures ∙ c.if-not-is_sheet.false in
    let label : c.as_slice.result.now ≡ label_of c.args.sheet = c.as_slice.ensures ∙ c.put_sheet.ensures in
    let e = c.lay.ensures in
    record { result_value = rw (sheet, ← label) e.result_value; room_after = rw (sheet, ← label) e.room_after }
