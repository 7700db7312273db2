-- Past the test it is a line of a 1:250 000 sheet, and what stands behind its first space is the name. Assumes nothing.
use mathlib.Core.Path.{◌≡◌, refl, sym, ◌∙◌}
use mathlib.Core.Bool.{true, cond}
use mathlib.Core.List.{List}
use Prim.Native.Nat.{ℕ, ◌+◌, ◌<◌}
use native.Mathlib.Omega.{arith}
use lib.ListN.{length}
use Rattle.refusal.specs.Paper.{answer}
use Rattle.refusal.proofs.WroteLaws.{rest-is}
use Rattle.catalogue.specs.Line.{label_in}
use Rattle.catalogue.proofs.LineLaws.{label-within}
use Rattle.official.specs.Lookup.{is250000}
use Rattle.official.specs.Verdict.{agrees, differs, check_at}
use Rattle.official.proofs.VerdictLaws.{nothing-listed, bare-differs, named-judged}
use Rattle.official.proofs.verdict.check_at.Goals as goal

-- where the label is not the whole line, there is a space behind it
behind : {end : ℕ} (line : List ℕ) → end ≡ length (label_in line) → (end ≡ length line → ⊥) → end < length line
behind line label more = omega (arith, label, label-within line, more)

pub returns-then-not-is_250000 : goal.returns-then-not-is_250000
unfolding check_at
returns-then-not-is_250000 c = rw (sym c.is_250000.ensures ∙ c.if-not-is_250000.true) refl

pub returns-in_default : goal.returns-in_default
returns-in_default c =
    let a = c.args in
    let scale : is250000 a.sheet ≡ true = sym c.is_250000.ensures ∙ c.if-not-is_250000.false in
    nothing-listed a.line.now a.sheet scale (sym c.in_default.ensures)

pub returns-then-end-line : goal.returns-then-end-line
unfolding label_in
returns-then-end-line c =
    let a = c.args in
    let scale : is250000 a.sheet ≡ true = sym c.is_250000.ensures ∙ c.if-not-is_250000.false in
    bare-differs a.line.now a.sheet scale (sym c.in-Some.ensures) (sym c.piece_end-end.ensures ∙ c.if-end-line.true)

pub overflow_add-end : goal.overflow_add-end
unfolding label_in
overflow_add-end c = omega (arith, behind c.args.line.now c.piece_end-end.ensures c.if-end-line.false)

pub slice_bounds-same_name-count : goal.slice_bounds-same_name-count
unfolding label_in
slice_bounds-same_name-count c = omega (arith, behind c.args.line.now c.piece_end-end.ensures c.if-end-line.false)

pub slice_bounds-same_name-start : goal.slice_bounds-same_name-start
unfolding label_in
slice_bounds-same_name-start c = omega (arith, behind c.args.line.now c.piece_end-end.ensures c.if-end-line.false)

pub returns-then-same_name : goal.returns-then-same_name
unfolding label_in
returns-then-same_name c =
    let a = c.args in
    let scale : is250000 a.sheet ≡ true = sym c.is_250000.ensures ∙ c.if-not-is_250000.false in
    let label : c.piece_end-end.result ≡ length (label_in a.line.now) = c.piece_end-end.ensures in
    let more : c.piece_end-end.result < length a.line.now = behind a.line.now label c.if-end-line.false in
    let judged : answer (cond c.same_name.result agrees differs) ≡ check_at a.line.now a.sheet =
    named-judged a.line.now a.sheet scale (sym c.in-Some.ensures) (omega (arith, label, more))
    (rw (rest-is a.line.now (c.piece_end-end.result + 1), label) at c.same_name.ensures) in
    rw c.if-same_name.true at judged

pub returns : goal.returns
unfolding label_in
returns c =
    let a = c.args in
    let scale : is250000 a.sheet ≡ true = sym c.is_250000.ensures ∙ c.if-not-is_250000.false in
    let label : c.piece_end-end.result ≡ length (label_in a.line.now) = c.piece_end-end.ensures in
    let more : c.piece_end-end.result < length a.line.now = behind a.line.now label c.if-end-line.false in
    let judged : answer (cond c.same_name.result agrees differs) ≡ check_at a.line.now a.sheet =
    named-judged a.line.now a.sheet scale (sym c.in-Some.ensures) (omega (arith, label, more))
    (rw (rest-is a.line.now (c.piece_end-end.result + 1), label) at c.same_name.ensures) in
    rw c.if-same_name.false at judged
