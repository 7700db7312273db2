-- The three kinds of line: refused, accepted without a name, and accepted with one. Assumes nothing.
use mathlib.Core.Path.{◌≡◌, ◌∙◌, sym}
use mathlib.Core.Bool.{true, false}
use mathlib.Core.List.{List}
use Prim.Native.Nat.{ℕ, ◌+◌, ◌<◌}
use native.Mathlib.Omega.{arith}
use borrow.Author.Tests.{lt-ltb, le-ltb}
use lib.ListN.{length}
use Rattle.catalogue.specs.declared.parts.Spans.{Spans}
use Rattle.catalogue.specs.Line.{label_in}
use Rattle.catalogue.specs.Parts.{is_accepted, label_part, name_part}
use Rattle.catalogue.specs.Given.{spans_of}
use Rattle.catalogue.proofs.LineLaws.{label-within, short-label}
use Rattle.catalogue.proofs.parts.spans_of.Goals as goal

-- an accepted line's parts, with a name and without one
module _ (line : List ℕ) (a : is_accepted line ≡ true) where
  of-named : (label : ℕ) → label ≡ length (label_in line) → label < length line → ◌≡◌ {A = Spans} (record { label = label; start = label + 1; end = length line; bare = false }) (spans_of line)
  unfolding label_part name_part
  of-named label e h = rw (e, a, lt-ltb (length (label_in line)) (length line) (omega arith))

  of_bare : (label : ℕ) → label ≡ length (label_in line) → label ≡ length line → ◌≡◌ {A = Spans} (record { label = label; start = length line; end = length line; bare = true }) (spans_of line)
  unfolding label_part name_part
  of_bare label e h = rw (h, a, le-ltb (length (label_in line)) (length line) (omega arith))

pub returns-then-not-accepted : goal.returns-then-not-accepted
unfolding label_part name_part
returns-then-not-accepted c = rw (sym c.accepted.ensures ∙ c.if-not-accepted.true)

pub returns-then-label-end : goal.returns-then-label-end
returns-then-label-end c =
    let is-accepted : is_accepted c.args.line.now ≡ true = sym c.accepted.ensures ∙ c.if-not-accepted.false in
    let label_is : c.label_end-label.result ≡ length (label_in c.args.line.now) = c.label_end-label.ensures ∙ omega (arith, short-label c.args.line.now is-accepted) in
    of_bare c.args.line.now is-accepted c.label_end-label.result label_is c.if-label-end.true

pub returns : goal.returns
returns c =
    let is-accepted : is_accepted c.args.line.now ≡ true = sym c.accepted.ensures ∙ c.if-not-accepted.false in
    let label_is : c.label_end-label.result ≡ length (label_in c.args.line.now) = c.label_end-label.ensures ∙ omega (arith, short-label c.args.line.now is-accepted) in
    let behind : c.label_end-label.result < length c.args.line.now = omega (arith, label_is, label-within c.args.line.now, c.if-label-end.false) in
    of-named c.args.line.now is-accepted c.label_end-label.result label_is behind
