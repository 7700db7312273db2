-- A label without a fault of form is read by what its numbers name. Of one with a fault the second pass tells which. Assumes nothing.
use Rattle.std.proofs.Common.{◌≡◌, sym, ap, ◌∙◌, ℕ, ◌+◌, arith}
use Rattle.refusal.specs.declared.Refusal.TheVariants.{LabelLength}
use Rattle.refusal.specs.Paper.{answer}
use Rattle.label.specs.Label.{numbers_in}
use Rattle.label.proofs.FormLaws.{long-form}
use Rattle.label.proofs.NamedLaws.{read-unformed}
use Rattle.reckoning.specs.Reckoning.{named}
use Rattle.reckoning.proofs.ReckonLaws.{few-sheet, named-reach, label-named}
use Rattle.reading.proofs.FrontLaws.{label-read, label-faulty}
use Rattle.reading.proofs.labels.read_label.Goals as goal

pub returns-then-bytes-gt16 : goal.returns-then-bytes-gt16
returns-then-bytes-gt16 c =
    let l = c.args.bytes.now in sym (read-unformed l (LabelLength 16) (long-form l c.if-bytes-gt16.true))

pub form_fault-requires : goal.form_fault-requires
form_fault-requires c =
    record {
      bytes_len_bound = c.if-bytes-gt16.false;
      bytes_value = label-faulty c.args.bytes.now c.numbers_in.new.numbers.items c.numbers_in.result c.numbers_in.ensures c.ne.ensures c.if-ne.true;
    }

pub returns-then-ne : goal.returns-then-ne
returns-then-ne c = sym (read-unformed c.args.bytes.now c.form_fault.result (sym c.form_fault.ensures))

pub overflow_add-result : goal.overflow_add-result
overflow_add-result c =
    let bytes = c.args.bytes.now in
    let read = label-read bytes c.numbers_in.new.numbers.items c.numbers_in.result c.numbers_in.ensures c.ne.ensures c.if-ne.false in
    let told : named (numbers_in bytes) ≡ c.sheet_named.result = sym (c.sheet_named.ensures ∙ ap named (c.as_slice.ensures.value ∙ read.are)) in
    rw c.first.ensures (record { fits = omega (arith, few-sheet (named-reach (numbers_in bytes) (told ∙ c.in-Ok.is))) })

pub returns-in-Ok : goal.returns-in-Ok
returns-in-Ok c =
    let bytes = c.args.bytes.now in
    let read = label-read bytes c.numbers_in.new.numbers.items c.numbers_in.result c.numbers_in.ensures c.ne.ensures c.if-ne.false in
    let told : named (numbers_in bytes) ≡ c.sheet_named.result = sym (c.sheet_named.ensures ∙ ap named (c.as_slice.ensures.value ∙ read.are)) in
    ap (λ (k : ℕ). answer (k + c.in-Ok.named.reach.index)) c.first.ensures ∙ label-named bytes read.formed (told ∙ c.in-Ok.is)

pub returns-in-Err : goal.returns-in-Err
returns-in-Err c =
    let bytes = c.args.bytes.now in
    let read = label-read bytes c.numbers_in.new.numbers.items c.numbers_in.result c.numbers_in.ensures c.ne.ensures c.if-ne.false in
    let told : named (numbers_in bytes) ≡ c.sheet_named.result = sym (c.sheet_named.ensures ∙ ap named (c.as_slice.ensures.value ∙ read.are)) in
    c.not_named.ensures ∙ label-named bytes read.formed (told ∙ c.in-Err.is)
