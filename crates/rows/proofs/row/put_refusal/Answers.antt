-- The word, the refusal's number behind it, and its value where it carries one. Assumes nothing.
use Rattle.std.proofs.Common.{◌≡◌, is_some}
use mathlib.Core.Path.{sym, ap, ◌∙◌}
use mathlib.Core.Bool.{true, false}
use Prim.Native.Nat.{◌≤◌}
use native.Mathlib.Omega.{arith}
use lib.ListN.{length}
use Rattle.refusal.specs.Numbers.{carries}
use Rattle.refusal.proofs.WroteLaws.{then}
use Rattle.label.specs.Text.{text, decimal}
use Rattle.label.proofs.DecimalLaws.{decimal-most}
use Rattle.rows.proofs.WordLaws.{bare-words, carried-words}
use Rattle.rows.proofs.row.put_refusal.Goals as goal

pub put_spaced-b-requires : goal.put_spaced-b-requires
put_spaced-b-requires c =
    let few : length (decimal c.numbered-told.result.number) ≤ 10 = decimal-most 9 c.numbered-told.result.number (omega arith) (omega arith) in
    omega (arith, few, c.put-a.ensures.end, c.put-a.auto.out)

pub put_spaced-requires : goal.put_spaced-requires
put_spaced-requires c =
    let few : length (decimal c.numbered-told.result.number) ≤ 10 = decimal-most 9 c.numbered-told.result.number (omega arith) (omega arith) in
    let few-digits : length (decimal c.in-Some.value) ≤ 20 = decimal-most 19 c.in-Some.value (grind arith) (grind arith) in
    omega (arith, few, few-digits, c.put-a.ensures.end, c.put-a.auto.out, c.put_spaced-b.ensures.end, c.put_spaced-b.auto.out)

pub returns-in-Some : goal.returns-in-Some
unfolding text
returns-in-Some c =
    let few : length (decimal c.numbered-told.result.number) ≤ 10 = decimal-most 9 c.numbered-told.result.number (omega arith) (omega arith) in
    let few-digits : length (decimal c.in-Some.value) ≤ 20 = decimal-most 19 c.in-Some.value (grind arith) (grind arith) in
    let n = c.numbered-told in
    let e : carries n.result.number ≡ true = sym n.ensures.carried ∙ ap is_some c.in-Some.is in
    let told = rw c.in-Some.is at n.ensures.told in
    record { wrote = rw (← told, carried-words n.result.number c.in-Some.value e) (then c.put-a.ensures (then c.put_spaced-b.ensures c.put_spaced.ensures)); upper_bound = omega (arith, c.put-a.ensures.end, c.put_spaced-b.ensures.end, c.put_spaced.ensures.end, few, few-digits) }

pub returns-in-None : goal.returns-in-None
unfolding text
returns-in-None c =
    let few : length (decimal c.numbered-told.result.number) ≤ 10 = decimal-most 9 c.numbered-told.result.number (omega arith) (omega arith) in
    let n = c.numbered-told in
    let e : carries n.result.number ≡ false = sym n.ensures.carried ∙ ap is_some c.in-None.is in
    let told = rw c.in-None.is at n.ensures.told in
    record { wrote = rw (← told, bare-words n.result.number 0 e) (then c.put-a.ensures c.put_spaced-b.ensures); upper_bound = omega (arith, c.put-a.ensures.end, c.put_spaced-b.ensures.end, few) }
