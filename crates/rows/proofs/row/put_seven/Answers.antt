-- A space, the first digit, and what is left of the edge's hundreds as six digits of metres. Assumes nothing.
use native.Mathlib.Omega.{arith}
use Rattle.refusal.proofs.WroteLaws.{then}
use Rattle.rows.proofs.HundredLaws.{seven, counted}
use Rattle.rows.proofs.row.put_seven.Goals as goal

pub returns : goal.returns
returns c =
    let h = c.requires.hundreds in
    let w = then c.put_byte-a.ensures (then c.put_byte-b.ensures c.put_hundreds.ensures) in
    record { wrote = rw (seven h) (rw (counted h (omega arith)) at w); value = w.end }
