-- The scale's first number leaves the index, its remainder by four the number in the parent, and its quotient the parent's index. Assumes nothing.
use Rattle.std.proofs.Common.{◌≡◌, refl}
use Rattle.label.specs.Text.{decimal}
use Rattle.label.specs.Label.{mark_of}
use Rattle.labelling.proofs.WritingLaws.{mark-room, from_first, fields-room, label-wrote, ninth-number, ninth-room, ninth-wrote}
use Rattle.labelling.proofs.writing.Label.put_ninth.Goals as goal

pub put_number-requires : goal.put_number-requires
put_number-requires c = rw (c.requires.none_yet, c.mark_of.ensures) (mark-room c.requires.of)

pub overflow_sub-i : goal.overflow_sub-i
overflow_sub-i c = from_first c.requires.of c.first.ensures

pub put_field-requires : goal.put_field-requires
put_field-requires c =
    let put : c.put_number.new.self ≡ decimal (mark_of 9) = rw (c.requires.none_yet, c.mark_of.ensures) at c.put_number.ensures in
    ninth-number (fields-room c.requires.of c.first.ensures put)

pub put_fields-requires : goal.put_fields-requires
put_fields-requires c =
    let put : c.put_number.new.self ≡ decimal (mark_of 9) = rw (c.requires.none_yet, c.mark_of.ensures) at c.put_number.ensures in
    ninth-room (fields-room c.requires.of c.first.ensures put) c.put_number.new.self refl c.put_field.ensures

pub returns : goal.returns
returns c =
    let put : c.put_number.new.self ≡ decimal (mark_of 9) = rw (c.requires.none_yet, c.mark_of.ensures) at c.put_number.ensures in
    label-wrote c.requires.of c.first.ensures put (ninth-wrote (fields-room c.requires.of c.first.ensures put) c.put_number.new.self refl c.put_field.ensures c.put_fields.ensures)
