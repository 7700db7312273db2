-- What the laws of lists ask of a kind, and that both kinds have it: its numbers are small, and a count and its first number tell each
-- other. And the first number tells the kind. Assumes nothing.
use mathlib.Core.Path.{◌≡◌, ap}
use mathlib.Core.Bool.{true, and-false}
use Prim.Native.Nat.{ℕ, ◌+◌, ◌-◌, ◌^◌, ◌≤◌, ◌<◌}
use native.Mathlib.Omega.{arith}
use borrow.Author.Tests.{le-leb, lt-leb, leb-true}
use Rattle.refusal.specs.Paper.{answer, refused}
use Rattle.refusal.proofs.PaperLaws.{passed, passed-test, same_answer}
use Rattle.division.specs.Words.{◌≤?◌, between}
use Rattle.division.specs.Sheet.{is_sheet}
use Rattle.division.proofs.TestLaws.{between_in, in_between}
use Rattle.holding.proofs.HoldingLaws.{fine, is-fine}
use Rattle.shelf.specs.Kind.{Kind, of_sheets, of_holdings, KindName, Sheets, Holdings, kind_of}
use Rattle.shelf.specs.Reading.{kind_told}

pub record Works (kind : Kind) : Type 0 where
  -- a first number takes at most four groups, and tells its count; no other number tells a count
  pub begins-small : (n : ℕ) → n ≤ 4_096 → kind.begins n < 2 ^ 28
  pub counts : (n : ℕ) → n ≤ 4_096 → kind.count (kind.begins n) ≡ answer n
  pub counted : (v n : ℕ) → kind.count v ≡ answer n → (v ≡ kind.begins n) × (n ≤ 4_096)
  -- so does a number that is fine; and what is fine in writing is fine in reading, and the other way round
  pub fine-small : (past n : ℕ) → kind.judge past n ≡ answer tt → n < 2 ^ 28
  pub alike : (a b n : ℕ) → kind.judge a n ≡ answer tt → kind.judge b n ≡ answer tt

-- ---- sheets

pub sheet-fine : (past n : ℕ) → is_sheet n ≡ true → of_sheets.judge past n ≡ answer tt
sheet-fine past n is = rw is

pub sheets-count : (n : ℕ) → n ≤ 4_096 → of_sheets.count n ≡ answer n
sheets-count n few = rw (le-leb n 4_096 few)

pub sheets-over : (n : ℕ) → 4_096 < n → of_sheets.count n ≡ refused 12 0
sheets-over n over = rw (lt-leb n 4_096 over)

pub sheets-work : Works of_sheets
sheets-work = record {
  begins-small = λ n few. omega arith;
  counts = sheets-count;
  counted = λ v n e. let p = passed 12 (v ≤? 4_096) (answer v) e in let same = same_answer p.1 in (same, omega (arith, leb-true v 4_096 p.0));
  fine-small = λ past n e. omega (arith, leb-true n 7_953_173 (passed-test past (is_sheet n) e));
  alike = λ a b n e. sheet-fine b n (passed-test a (is_sheet n) e);
}

-- ---- holdings

pub holdings-over : (n : ℕ) → 12_288 < n → of_holdings.count n ≡ refused 12 0
holdings-over n over = rw (lt-leb n 12_288 over, and-false (8_192 ≤? n))

pub holdings-work : Works of_holdings
holdings-work = record {
  begins-small = λ n few. omega arith;
  counts = λ n few. rw (in_between 8_192 12_288 (8_192 + n) (omega arith) (omega arith)) (ap answer (omega arith));
  counted = λ v n e.
      let p = passed 12 (between 8_192 12_288 v) (answer (v - 8_192)) e in
      let b = between_in 8_192 12_288 v p.0 in
      let same = same_answer p.1 in
      (omega arith, omega arith);
  fine-small = λ past n e. omega (arith, (fine past n e).upto);
  alike = λ a b n e. is-fine b n (fine a n e);
}

-- ---- each kind, by its name

pub works : (kind : KindName) → Works (kind_of kind)
works Sheets = sheets-work
works Holdings = holdings-work

-- ---- the kind that a first number tells

pub told-old : (first : ℕ) → first < 8_192 → kind_told first ≡ of_sheets
unfolding kind_told
told-old first l = rw (lt-leb 8_192 first l)

pub told-new : (first : ℕ) → 8_192 ≤ first → kind_told first ≡ of_holdings
unfolding kind_told
told-new first l = rw (le-leb 8_192 first l)

pub kind-told : (kind : KindName) (n : ℕ) → n ≤ 4_096 → kind_told ((kind_of kind).begins n) ≡ kind_of kind
kind-told Sheets n few = told-old n (omega arith)
kind-told Holdings n few = told-new (8_192 + n) (omega arith)
