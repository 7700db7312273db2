-- What a caller in C is told says all that the answer says: the answer can be had back from it, so no two are told the same. Assumes nothing.
use mathlib.Core.Path.{◌≡◌, refl}
use mathlib.Core.Bool.{Bool, true, false, cond}
use mathlib.Core.List.{List, []}
use Rattle.std.specs.Prelude.{Option, None, Some, option_map, unwrap_or, Result, Ok, Err}
use Prim.Native.Nat.{ℕ}
use native.Mathlib.Omega.{arith}
use borrow.Author.Tests.{ne_eqb}
use lib.Dec.{leb}
use lib.ListN.{length}
use Rattle.refusal.specs.declared.Refusal.{Refusal}
use Rattle.refusal.specs.Paper.{Paper, answer, refused, refuse◌at◌unless◌, refuse◌unless◌, ◌>>◌, ◌>>=◌}
use Rattle.refusal.specs.Numbers.{on_paper, paper}
use Rattle.division.specs.Words.{◌=?◌}
use Rattle.division.specs.Sheet.{is_sheet}
use Rattle.catalogue.specs.Parts.{part, label_part, Caption, of_line, of_fallback}
use Rattle.catalogue.proofs.PartLaws.{label-first}
use Rattle.label.proofs.LabelTheorems.{was-written}
use Rattle.official.specs.Lookup.{name_of, sheet_called, is250000, write_name, name_told}
use Rattle.official.specs.declared.verdict.Verdict.{Verdict}
use Rattle.official.specs.declared.verdict.Verdict.TheVariants.{Agrees, Differs, NotListed}
use Rattle.official.specs.Theorems.{row_at}
use Rattle.official.proofs.LookupTheorems.{name-bytes, called-iff}
use Rattle.telling.specs.Plain.{mark, source, part_of, byte_count, sheet_or_none, verdict_as}
use Rattle.telling.specs.Told.{status, carried}
use Rattle.refusal.proofs.PaperLaws.{on-paper}

-- ---- an answer of one number

-- what a caller makes of a status and a value
abbrev pub heard : ℕ → ℕ → Paper ℕ
heard number value = cond (number =? 0) (answer value) (refused number value)

refusal-heard : (why : Refusal) → heard (status (on_paper {A = ℕ} why)) (carried (on_paper why)) ≡ on_paper why
refusal-heard why = rw ((on-paper why).is ℕ, (on-paper why).some)

pub answer-heard : (a : Result ℕ Refusal) → heard (status (paper a)) (carried (paper a)) ≡ paper a
answer-heard (Ok n) = refl
answer-heard (Err why) = refusal-heard why

-- ---- neighbours, parts and captions

-- the mark of none is not to be taken for a sheet
pub none-is-no-sheet : is_sheet (mark None) ≡ false
none-is-no-sheet = refl

-- a label begins at the line's start, so where it ends tells its part
pub label-heard : (line : List ℕ) → label_part line ≡ part 0 (label_part line).end
label-heard line = label-first line

-- what a caller makes of a source, a start and an end
abbrev pub caption_heard : ℕ → ℕ → ℕ → Caption
caption_heard source start end = cond (source =? 0) (of_line (part start end)) (of_fallback (part start end))

pub caption-heard : (c : Caption) → caption_heard (source c) (part_of c).start (part_of c).end ≡ c
caption-heard (of_line p) = refl
caption-heard (of_fallback p) = refl

-- ---- official names

-- what a caller makes of a status and a count of bytes: none of "not listed", since every name has a byte
abbrev pub name_heard : ℕ → ℕ → Paper (Option ℕ)
name_heard number value = cond (number =? 0) (answer (cond (value =? 0) None (Some value))) (refused number value)

pub name-heard : (n room : ℕ) → name_heard (status (name_told n room)) (carried (byte_count (name_told n room))) ≡ name_told n room
unfolding name_told write_name
name-heard n room = by (is_sheet n) (is250000 n) (name_of n) refl (leb (length (unwrap_or (name_of n) [])) room)
  where
    asked : Bool → Bool → Option (List ℕ) → Bool → Paper (Option ℕ)
    asked sheet scale name fits =
        ((refuse 3 unless sheet) >> ((refuse 22 unless scale) >> ((refuse 10 at length (unwrap_or name []) unless fits) >> answer (unwrap_or name []))))
        >>= λ written. answer (option_map length name)

    by : (sheet scale : Bool) (name : Option (List ℕ)) → name_of n ≡ name → (fits : Bool) → name_heard (status (asked sheet scale name fits)) (carried (byte_count (asked sheet scale name fits))) ≡ asked sheet scale name fits
    by false scale name e fits = refl
    by true false name e fits = refl
    by true true name e false = refl
    by true true None e true = refl
    by true true (Some name) e true = rw (ne_eqb (length name) 0 (λ z. omega (arith, z, (name-bytes n name e).0)))

-- of a number: the mark of none is no sheet, and what is found is one
abbrev pub sheet_heard : ℕ → Option ℕ
sheet_heard value = cond (is_sheet value) (Some value) None

pub listing-heard : (name : List ℕ) → sheet_heard (sheet_or_none (sheet_called name)) ≡ sheet_called name
listing-heard name = by (sheet_called name) refl
  where
    by : (sheet : Option ℕ) → sheet_called name ≡ sheet → sheet_heard (sheet_or_none sheet) ≡ sheet
    by None e = refl
    by (Some n) e = let c = (called-iff name n).0 e in rw (was-written (row_at c.place).label n c.label).sheet

-- and of a verdict's number
abbrev pub verdict_heard : ℕ → Verdict
verdict_heard n = cond (n =? 0) Agrees (cond (n =? 1) Differs NotListed)

pub verdict-heard : (v : Verdict) → verdict_heard (verdict_as v) ≡ v
verdict-heard Agrees = refl
verdict-heard Differs = refl
verdict-heard NotListed = refl
