-- Past the tests it is a 1:250 000 sheet, and its name is laid if it has one. Assumes nothing.
use Rattle.std.proofs.Common.{◌≡◌, refl, sym, ◌∙◌, true, Some}
use Rattle.std.proofs.lemmas.Result.{err_from_is_err_and}
use Rattle.refusal.specs.Paper.{answer}
use Rattle.refusal.proofs.PaperLaws.{asked-on}
use Rattle.division.specs.Sheet.{is_sheet}
use Rattle.official.specs.Lookup.{is250000, write_name, name_told}
use Rattle.official.proofs.LookupLaws.{none_written, name-written}
use Rattle.official.proofs.lookup.official_name.Goals as goal

pub returns-then-not-is_sheet : goal.returns-then-not-is_sheet
unfolding name_told write_name
returns-then-not-is_sheet c =
    rw (sym c.is_sheet.ensures ∙ c.if-not-is_sheet.true) (record { result_value = refl; room_after = refl })

pub returns-then-not-is_250000 : goal.returns-then-not-is_250000
unfolding name_told write_name
returns-then-not-is_250000 c =
    let sheet : is_sheet c.args.sheet ≡ true = sym c.is_sheet.ensures ∙ c.if-not-is_sheet.false in
    rw (sheet, sym c.is_250000.ensures ∙ c.if-not-is_250000.true) (record { result_value = refl; room_after = refl })

pub returns-in_default : goal.returns-in_default
returns-in_default c =
    let sheet : is_sheet c.args.sheet ≡ true = sym c.is_sheet.ensures ∙ c.if-not-is_sheet.false in
    let scale : is250000 c.args.sheet ≡ true = sym c.is_250000.ensures ∙ c.if-not-is_250000.false in
    let owed = none_written c.args.sheet c.args.room.now sheet scale (sym c.in_default.ensures) in
    record { result_value = owed.0; room_after = owed.1 }

pub returns-in_err-len : goal.returns-in_err-len
returns-in_err-len c =
    let sheet : is_sheet c.args.sheet ≡ true = sym c.is_sheet.ensures ∙ c.if-not-is_sheet.false in
    let scale : is250000 c.args.sheet ≡ true = sym c.is_250000.ensures ∙ c.if-not-is_250000.false in
    let w = name-written c.args.sheet c.args.room.now sheet scale (sym c.in-Some.ensures) (c.in_err-len.ensures.result_value, c.in_err-len.ensures.room_after) in
    let p = err_from_is_err_and c.from_residual.result c.from_residual.ensures.1 in
    rw (p.1, p.2) (record { result_value = asked-on c.in_err-len.field-0.0 (λ n. answer (Some n)) refl ∙ w.0; room_after = w.1 })

pub returns : goal.returns
returns c =
    let sheet : is_sheet c.args.sheet ≡ true = sym c.is_sheet.ensures ∙ c.if-not-is_sheet.false in
    let scale : is250000 c.args.sheet ≡ true = sym c.is_250000.ensures ∙ c.if-not-is_250000.false in
    let w = name-written c.args.sheet c.args.room.now sheet scale (sym c.in-Some.ensures) (c.in_ok-len.ensures.result_value, c.in_ok-len.ensures.room_after) in
    record { result_value = w.0; room_after = w.1 }
