-- Four stores, one behind the other, of the bytes of one number. Assumes nothing.
use Rattle.rows.proofs.PairLaws.{bytes-put}
use Rattle.rows.proofs.row.put_four.Goals as goal

pub returns : goal.returns
returns c = rw c.four-w.ensures at (bytes-put c.args.out.now c.args.at c.four-w.result c.requires.fits)
