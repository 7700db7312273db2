-- A strange byte comes before the label's end exactly if there is one; and where there is none, a field is faulty. Assumes nothing.
use mathlib.Core.Path.{◌≡◌, sym, ap, ◌∙◌}
use mathlib.Core.Bool.{true, false}
use mathlib.Core.List.{List}
use Prim.Native.Nat.{ℕ, ◌≤◌, ◌<◌}
use native.Mathlib.Omega.{arith}
use borrow.Author.Tests.{eqb-true, eqb-false}
use lib.ListN.{length}
use Rattle.refusal.specs.Paper.{refused}
use Rattle.label.specs.Text.{every, first_not}
use Rattle.label.specs.Label.{is_label_byte}
use Rattle.label.proofs.PlaceLaws.{cannot, must, first-none, first_some}
use Rattle.label.proofs.FormLaws.{empty-form, strange-form, field-form, field-wrong}
use Rattle.reading.proofs.labels.form_fault.Goals as goal

some-strange : (l : List ℕ) → first_not is_label_byte l < length l → every is_label_byte l ≡ false
some-strange l h = cannot (every is_label_byte l) (λ e. omega (arith, first-none is_label_byte l e))

none-strange : (l : List ℕ) → length l ≤ first_not is_label_byte l → every is_label_byte l ≡ true
none-strange l h = must (every is_label_byte l) (λ e. omega (arith, first_some is_label_byte l e))

pub returns-then-is_empty : goal.returns-then-is_empty
returns-then-is_empty c = let l = c.args.bytes.now in sym (empty-form l (eqb-true _ 0 (sym c.is_empty.ensures ∙ c.if-is_empty.true)))

pub returns-then-strange-bytes : goal.returns-then-strange-bytes
returns-then-strange-bytes c =
    let few : let l = c.args.bytes.now in (1 ≤ length l) × (length l ≤ 16) = (omega (arith, eqb-false _ 0 (sym c.is_empty.ensures ∙ c.if-is_empty.false)), c.requires.bytes_len_bound) in
    let l = c.args.bytes.now in
    let h = few in
    let e = c.strange_byte-strange.ensures in
    ap (refused 19) e ∙ sym (strange-form l h.0 h.1 (some-strange l (omega (arith, e, c.if-strange-bytes.true))))

pub returns : goal.returns
returns c =
    let few : let l = c.args.bytes.now in (1 ≤ length l) × (length l ≤ 16) = (omega (arith, eqb-false _ 0 (sym c.is_empty.ensures ∙ c.if-is_empty.false)), c.requires.bytes_len_bound) in
    let l = c.args.bytes.now in
    let h = few in
    let plain = none-strange l (omega (arith, c.strange_byte-strange.ensures, c.if-strange-bytes.false)) in
    ap (refused 20) c.faulty_field.ensures ∙ sym (field-form l h.0 h.1 plain (field-wrong l h.0 h.1 c.requires.bytes_value plain))
