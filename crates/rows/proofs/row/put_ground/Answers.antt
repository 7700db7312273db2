-- A space, the sheet's number, and its edges. Assumes nothing.
use Prim.Native.Nat.{◌≤◌}
use native.Mathlib.Omega.{arith}
use lib.ListN.{length}
use Rattle.label.specs.Text.{decimal}
use Rattle.label.proofs.DecimalLaws.{decimal-most}
use Rattle.refusal.proofs.WroteLaws.{then}
use Rattle.rows.proofs.WordLaws.{ground-words}
use Rattle.rows.proofs.row.put_ground.Goals as goal

pub put_long-b-requires : goal.put_long-b-requires
put_long-b-requires c =
    let few : length (decimal c.args.sheet) ≤ 7 = decimal-most 6 c.args.sheet c.requires.sheet_bound (omega arith) in
    record { few = omega arith; fits = omega (arith, c.requires.at_in_bounds, few, c.put_byte-a.ensures.end, c.put_byte-a.auto.out) }

pub put_edges-requires : goal.put_edges-requires
put_edges-requires c =
    let few : length (decimal c.args.sheet) ≤ 7 = decimal-most 6 c.args.sheet c.requires.sheet_bound (omega arith) in
    record { in_hundreds = c.requires.in_hundreds; at_in_bounds = omega (arith, c.requires.at_in_bounds, few, c.put_byte-a.ensures.end, c.put_byte-a.auto.out, c.put_long-b.ensures.end, c.put_long-b.auto.out) }

pub returns : goal.returns
returns c =
    let few : length (decimal c.args.sheet) ≤ 7 = decimal-most 6 c.args.sheet c.requires.sheet_bound (omega arith) in
    record { wrote = rw (ground-words c.args.sheet c.args.e) (then c.put_byte-a.ensures (then c.put_long-b.ensures c.put_edges.ensures.wrote)); upper_bound = omega (arith, few, c.put_byte-a.ensures.end, c.put_long-b.ensures.end, c.put_edges.ensures.value) }
