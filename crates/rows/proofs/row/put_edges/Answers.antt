-- Four edges, one behind the other. Assumes nothing.
use native.Mathlib.Omega.{arith}
use Rattle.refusal.proofs.WroteLaws.{then}
use Rattle.rows.proofs.HundredLaws.{kept}
use Rattle.rows.proofs.WordLaws.{frame-words}
use Rattle.rows.proofs.row.put_edges.Goals as goal

pub returns : goal.returns
returns c =
    let h = c.requires.in_hundreds in record {
      wrote = rw (frame-words c.args.e)
          (simp (kept h.west (omega arith), kept h.east (omega arith), kept h.south (omega arith), kept h.north (omega arith)) at
          (then c.put_six-a.ensures.wrote (then c.put_six-b.ensures.wrote (then c.put_seven-c.ensures.wrote c.put_seven.ensures.wrote))));
      value = omega (arith, c.put_six-a.ensures.value, c.put_six-b.ensures.value, c.put_seven-c.ensures.value, c.put_seven.ensures.value);
    }
