-- The form with what is wrong with it: nothing exactly if the label is well formed, and otherwise the first of 4, 19 and 20 that holds, by
-- kind and not by place. Assumes nothing.
use mathlib.Core.Path.{◌≡◌}
use mathlib.Core.Bool.{true, false, ◌&&◌}
use mathlib.Core.List.{List}
use Prim.Native.Nat.{ℕ, ◌≤◌, ◌<◌}
use native.Mathlib.Omega.{arith}
use borrow.Author.Tests.{le-leb, lt-leb}
use lib.ListN.{length}
use Rattle.refusal.specs.Paper.{answer, refused}
use Rattle.refusal.proofs.PaperLaws.{passed-at, passed-test-at}
use Rattle.division.specs.Words.{◌≤?◌, between}
use Rattle.division.proofs.TestLaws.{both}
use Rattle.label.specs.Text.{every, first_not, split}
use Rattle.label.specs.Label.{is_label_byte, is_field, well_formed, start_of, formed}

-- ---- something is wrong

pub empty-form : (l : List ℕ) → length l ≡ 0 → formed l ≡ refused 4 0
unfolding formed
empty-form l e = rw (lt-leb 1 (length l) (omega arith))

pub long-form : (l : List ℕ) → 16 < length l → formed l ≡ refused 4 16
unfolding formed
long-form l h = rw (le-leb 1 (length l) (omega arith), lt-leb (length l) 16 h)

module _ (l : List ℕ) (some : 1 ≤ length l) (few : length l ≤ 16) where
  pub strange-form : every is_label_byte l ≡ false → formed l ≡ refused 19 (first_not is_label_byte l)
  unfolding formed
  strange-form e = rw (le-leb 1 (length l) some, le-leb (length l) 16 few, e)

  pub field-form : every is_label_byte l ≡ true → every is_field (split 45 l) ≡ false → formed l ≡ refused 20 (start_of (first_not is_field (split 45 l)) (split 45 l))
  unfolding formed
  field-form e f = rw (le-leb 1 (length l) some, le-leb (length l) 16 few, e, f)

  -- a label of plain bytes that is not well formed has a faulty field
  pub field-wrong : well_formed l ≡ false → every is_label_byte l ≡ true → every is_field (split 45 l) ≡ false
  unfolding well_formed
  field-wrong n e = rw (le-leb 1 (length l) some, le-leb (length l) 16 few, e) at n

-- ---- nothing is wrong

pub well-formed : (l : List ℕ) → well_formed l ≡ true → formed l ≡ answer tt
unfolding well_formed formed
well-formed l e =
    let a = both (between 1 16 (length l) && every is_label_byte l) (every is_field (split 45 l)) e in
    let b = both (between 1 16 (length l)) (every is_label_byte l) a.0 in
    let c = both (1 ≤? length l) (length l ≤? 16) b.0 in
    rw (c.0, c.1, b.1, a.1)

pub formed-well : (l : List ℕ) → formed l ≡ answer tt → well_formed l ≡ true
unfolding well_formed formed
formed-well l e =
    let a = passed-at 4 0 (1 ≤? length l) _ e in
    let b = passed-at 4 16 (length l ≤? 16) _ a.1 in
    let c = passed-at 19 (first_not is_label_byte l) (every is_label_byte l) _ b.1 in
    let d = passed-test-at 20 (start_of (first_not is_field (split 45 l)) (split 45 l)) (every is_field (split 45 l)) c.1 in
    rw (a.0, b.0, c.0, d)
