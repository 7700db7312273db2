-- What the line begins with is its label where it ends with it, and is read by what its numbers name; where it does not, the label has a fault.
-- Assumes nothing.
use Rattle.std.proofs.Common.{◌≡◌, sym, ap, ◌∙◌, ℕ, List, length, take, true, false, arith}
use lib.Seq.{length-take-le}
use Rattle.refusal.specs.Paper.{answer}
use Rattle.label.specs.Label.{formed, numbers_in}
use Rattle.label.proofs.PieceLaws.{piece}
use Rattle.label.proofs.NamedLaws.{read-unformed}
use Rattle.reckoning.specs.Reckoning.{named}
use Rattle.reckoning.proofs.ReckonLaws.{named-reach, named-corners, label-named}
use Rattle.reading.proofs.FrontLaws.{first-bytes, end-there, front_read, front-faulty, same-fault, front-refused, front-sheet}
use Rattle.reading.proofs.at_front.read_front.Goals as goal

pub is_end-requires : goal.is_end-requires
is_end-requires c =
    let line = c.args.line.now in
    let bytes : take c.min.result line ≡ take 17 line = ap (λ (n : ℕ). take n line) c.min.ensures ∙ first-bytes line in
    end-there line bytes c.in-Some.ensures

pub front_fault-requires : goal.front_fault-requires
front_fault-requires c =
    let line = c.args.line.now in
    let bytes : take c.min.result line ≡ take 17 line = ap (λ (n : ℕ). take n line) c.min.ensures ∙ first-bytes line in
    front-faulty line bytes c.numbers_in.new.numbers.items c.numbers_in.result c.numbers_in.ensures
    (λ end e f. let z : ◌≡◌ {A = ℕ} 0 1 = cc (sym e ∙ c.in_default.is) in omega arith)

pub returns-in_default : goal.returns-in_default
returns-in_default c =
    let line = c.args.line.now in
    let bytes : take c.min.result line ≡ take 17 line = ap (λ (n : ℕ). take n line) c.min.ensures ∙ first-bytes line in
    let e = c.front_fault.ensures ∙ ap (λ (s : List ℕ). formed (piece 32 s)) bytes ∙ same-fault line in
    front-refused line c.front_fault.result (read-unformed (piece 32 line) c.front_fault.result (sym e))

pub front_fault-requires-then-not-is_end : goal.front_fault-requires-then-not-is_end
front_fault-requires-then-not-is_end c =
    let line = c.args.line.now in
    let bytes : take c.min.result line ≡ take 17 line = ap (λ (n : ℕ). take n line) c.min.ensures ∙ first-bytes line in
    front-faulty line bytes c.numbers_in.new.numbers.items c.numbers_in.result c.numbers_in.ensures
    (λ end e f. let q : end ≡ c.in-Some.end = cc (sym e ∙ c.in-Some.is) in
    let no : false ≡ true = sym (sym c.is_end.ensures ∙ c.if-not-is_end.true) ∙ rw q at f in
    let z : ◌≡◌ {A = ℕ} 0 1 = cc in omega arith)

pub returns-then-not-is_end : goal.returns-then-not-is_end
returns-then-not-is_end c =
    let line = c.args.line.now in
    let bytes : take c.min.result line ≡ take 17 line = ap (λ (n : ℕ). take n line) c.min.ensures ∙ first-bytes line in
    let e = c.front_fault-then-not-is_end.ensures ∙ ap (λ (s : List ℕ). formed (piece 32 s)) bytes ∙ same-fault line in
    front-refused line c.front_fault-then-not-is_end.result (read-unformed (piece 32 line) c.front_fault-then-not-is_end.result (sym e))

pub front_at-requires : goal.front_at-requires
front_at-requires c =
    let line = c.args.line.now in
    let bytes : take c.min.result line ≡ take 17 line = ap (λ (n : ℕ). take n line) c.min.ensures ∙ first-bytes line in
    let read = front_read line bytes c.in-Some.ensures (sym c.is_end.ensures ∙ c.if-not-is_end.false) in
    let told : named (numbers_in (piece 32 line)) ≡ c.sheet_named.result = sym (c.sheet_named.ensures ∙ ap named (c.as_slice.ensures.value ∙ read.0.are)) in
    named-reach (numbers_in (piece 32 line)) (told ∙ c.in-Ok.is)

pub returns-in-Ok : goal.returns-in-Ok
returns-in-Ok c =
    let line = c.args.line.now in
    let bytes : take c.min.result line ≡ take 17 line = ap (λ (n : ℕ). take n line) c.min.ensures ∙ first-bytes line in
    let read = front_read line bytes c.in-Some.ensures (sym c.is_end.ensures ∙ c.if-not-is_end.false) in
    let told : named (numbers_in (piece 32 line)) ≡ c.sheet_named.result = sym (c.sheet_named.ensures ∙ ap named (c.as_slice.ensures.value ∙ read.0.are)) in
    let long : c.in-Some.end ≡ length (take c.in-Some.end line) = sym (length-take-le c.in-Some.end line (end-there line bytes c.in-Some.ensures)) in
    let t = told ∙ c.in-Ok.is in
    ap answer c.front_at.ensures
    ∙ front-sheet line c.in-Ok.named (named-corners (numbers_in (piece 32 line)) t) (long ∙ ap length read.1) (label-named (piece 32 line) read.0.formed t)

pub returns-in-Err : goal.returns-in-Err
returns-in-Err c =
    let line = c.args.line.now in
    let bytes : take c.min.result line ≡ take 17 line = ap (λ (n : ℕ). take n line) c.min.ensures ∙ first-bytes line in
    let read = front_read line bytes c.in-Some.ensures (sym c.is_end.ensures ∙ c.if-not-is_end.false) in
    let told : named (numbers_in (piece 32 line)) ≡ c.sheet_named.result = sym (c.sheet_named.ensures ∙ ap named (c.as_slice.ensures.value ∙ read.0.are)) in
    front-refused line c.not_named.result (sym (rw read.1 at c.not_named.ensures ∙ label-named (piece 32 line) read.0.formed (told ∙ c.in-Err.is)))
