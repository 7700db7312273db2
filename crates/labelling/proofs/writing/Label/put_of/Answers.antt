-- The scale's first number leaves the index, and its fields go behind the label's first number. Assumes nothing.
use Rattle.std.proofs.Common.{◌≡◌}
use Rattle.label.specs.Text.{decimal}
use Rattle.label.specs.Label.{mark_of}
use Rattle.labelling.proofs.WritingLaws.{mark-room, from_first, fields-room, label-wrote}
use Rattle.labelling.proofs.writing.Label.put_of.Goals as goal

pub put_number-requires : goal.put_number-requires
put_number-requires c = rw (c.requires.none_yet, c.mark_of.ensures) (mark-room c.requires.of)

pub overflow_sub-sheet : goal.overflow_sub-sheet
overflow_sub-sheet c = from_first c.requires.of c.first.ensures

pub put_fields-requires : goal.put_fields-requires
put_fields-requires c =
    let put : c.put_number.new.self ≡ decimal (mark_of c.args.s) = rw (c.requires.none_yet, c.mark_of.ensures) at c.put_number.ensures in
    fields-room c.requires.of c.first.ensures put

pub returns : goal.returns
returns c =
    let put : c.put_number.new.self ≡ decimal (mark_of c.args.s) = rw (c.requires.none_yet, c.mark_of.ensures) at c.put_number.ensures in
    label-wrote c.requires.of c.first.ensures put c.put_fields.ensures
