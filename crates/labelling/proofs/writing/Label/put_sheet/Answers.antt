-- The arm that is taken is the scale's own. Assumes nothing.
use Rattle.std.proofs.Common.{rules}
use Rattle.labelling.proofs.WritingLaws.{last_arm}
use Rattle.labelling.proofs.writing.Label.put_sheet.Goals as goal

pub put_ninth-requires : goal.put_ninth-requires
put_ninth-requires c = record { of = last_arm c.of.ensures c.requires.of (search rules); none_yet = c.requires.none_yet }
