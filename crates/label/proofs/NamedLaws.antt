-- The scale that a first number and a count of fields name has them. What a label gets is decided by its form, and then by its scale. Assumes
-- nothing.
use mathlib.Core.Path.{◌≡◌, refl, sym, ap, ◌∙◌}
use mathlib.Core.Bool.{Bool, true, ◌&&◌}
use mathlib.Core.List.{List, [], ◌∷◌, Memᴰ}
use Prim.Native.Nat.{ℕ, ◌+◌}
use native.Mathlib.Omega.{arith}
use borrow.Author.Tests.{eqb-true}
use lib.ListN.{length, get_or}
use Rattle.refusal.specs.declared.Refusal.{Refusal}
use Rattle.refusal.specs.Paper.{Paper, answer, ◌>>=◌}
use Rattle.refusal.specs.Numbers.{on_paper}
use Rattle.refusal.proofs.PaperLaws.{passed, same_answer, judge-refuses, asked-on}
use Rattle.division.specs.Words.{◌=?◌, from, keep}
use Rattle.division.specs.Table.{is_scale, made, table, table_row}
use Rattle.division.specs.Given.{IsScale}
use Rattle.division.proofs.TestLaws.{both}
use Rattle.division.proofs.TableLaws.{Each, each, scale}
use Rattle.division.proofs.MemberLaws.{from-has, keep-has}
use Rattle.label.specs.Label.{mark_of, count_of, scale_with, scale_named, well_formed, formed, numbers_in, sheet_named, read_label}
use Rattle.label.specs.Theorems.{Named}
use Rattle.label.proofs.FormLaws.{well-formed}

-- ---- the scale

first-in : (l : List ℕ) → (get_or l 0 0 ≡ 0 → ⊥) → Memᴰ (get_or l 0 0) l
first-in [] n = absurd (n refl)
first-in (x ∷ l) n = Memᴰ.head refl

with : (mark count : ℕ) → (scale_with mark count ≡ 0 → ⊥) → Named mark count (scale_with mark count)
unfolding scale_with
with mark count n =
    let test : ℕ → Bool = λ s. mark_of s =? mark && 1 + count_of (made s) =? count in
    let s = scale_with mark count in
    let k = keep-has test (from 1 9) (first-in (keep test (from 1 9)) n) in
    let m = from-has 1 9 k.0 in
    let b = both (mark_of s =? mark) (1 + count_of (made s) =? count) k.1 in
    record {
      scale = record { one = m.0; nine = omega (arith, m.1) };
      mark = eqb-true (mark_of s) mark b.0;
      count = eqb-true (1 + count_of (made s)) count b.1;
    }

pub named : (mark count s : ℕ) → scale_named mark count ≡ answer s → Named mark count s
named mark count s e =
    let p = passed 21 (is_scale (scale_with mark count)) _ e in
    rw (same_answer p.1) at (with mark count (λ z. omega (arith, scale (scale_with mark count) p.0)))

-- the nine scales: the first number and the count of fields name the scale
pub record Marked (s : ℕ) : Type 0 where
  pub named : scale_with (mark_of s) (1 + count_of (made s)) ≡ s

nine : Each Marked 9
unfolding table table_row mark_of count_of scale_with keep from
nine = search tt

pub marked : {s : ℕ} → IsScale s → Marked s
marked {s} h = each Marked 9 nine s h.one h.nine

-- ---- the label

abbrev pub scale_from : List ℕ → Paper ℕ
scale_from vs = scale_named (get_or vs 0 0) (length vs)

-- a fault of form decides, and then a scale that is not named
pub read-unformed : (bytes : List ℕ) (why : Refusal) → formed bytes ≡ on_paper why → read_label bytes ≡ on_paper why
unfolding read_label
read-unformed bytes why e = judge-refuses why (scale_from (numbers_in bytes) >>= λ s. sheet_named s bytes) e

module _ (bytes : List ℕ) (f : well_formed bytes ≡ true) where
  read-formed : read_label bytes ≡ (scale_from (numbers_in bytes) >>= λ s. sheet_named s bytes)
  unfolding read_label
  read-formed = rw (well-formed bytes f)

  pub read_none : (why : Refusal) → scale_from (numbers_in bytes) ≡ on_paper why → read_label bytes ≡ on_paper why
  read_none why e = read-formed ∙ sym (asked-on why (λ s. sheet_named s bytes) (sym e))

  pub read_named : (s : ℕ) → scale_from (numbers_in bytes) ≡ answer s → read_label bytes ≡ sheet_named s bytes
  read_named s e = read-formed ∙ ap (λ (p : Paper ℕ). p >>= λ s. sheet_named s bytes) e
