-- A sheet of no scale from 7 on has no local numbers. Assumes nothing.
use mathlib.Core.Path.{sym, ◌∙◌}
use native.Mathlib.Omega.{arith}
use Rattle.local.proofs.NumberLaws.{numbers-at-none}
use Rattle.local.proofs.sheets.Municipality.numbers_of.Goals as goal

pub returns-in_default : goal.returns-in_default
returns-in_default c =
    let a = c.args in
    sym (numbers-at-none a.self.now.sheets.now a.sheet (sym c.is_sheet.ensures ∙ c.if-not-is_sheet.false) (λ e. omega arith) (λ e. omega arith) (λ e. omega arith))
