-- At most four digits, or the number without its last four and these behind it. The measure is the number. Assumes nothing.
use Rattle.rows.proofs.row.+put_any.Given as goal

abbrev pub decreases-put_any : goal.decreases-put_any
decreases-put_any l = l.n
