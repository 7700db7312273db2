-- Which of the 36 pairs nest: where the smaller sheets go into the larger ones without a remainder a pair nests, and where they leave one it
-- overlaps. No pair does both: two sheets that overlap have a point in both, and the smaller one has a point outside the larger. Assumes nothing.
use mathlib.Core.Path.{◌≡◌, refl, sym, ◌∙◌}
use mathlib.Core.Bool.{Bool, true, false, true≢false}
use mathlib.Core.List.{flat_map}
use mathlib.Core.Logic.{◌⊎◌, ◌↔◌, inl, inr, ⊎_elim}
use Prim.Native.Nat.{ℕ}
use borrow.Author.Tests.{eqb-true, eqb-false}
use Rattle.division.specs.Words.{◌=?◌, from, keep}
use Rattle.division.specs.Table.{table, table_row, is_scale}
use Rattle.division.proofs.PointTheorems.{each-point-in-one-sheet, holder, one-sheet}
use Rattle.division.proofs.GroundTheorems.{corner-owned}
use Rattle.nests.specs.Nesting.{SheetOf, Has, Share, LiesIn, Nests, Overlaps, IsPair, is_one_of_four, WhichScalesNest}
use Rattle.nests.proofs.HoldLaws.{has-holds, holds_has}
use Rattle.nests.proofs.NestLaws.{nests}
use Rattle.nests.proofs.OverlapLaws.{overlaps}
use Rattle.nests.proofs.PairLaws.{any-two, fits-or-not}

never_both : (s t : ℕ) → Nests s t → Overlaps s t → ⊥
never_both s t n o =
    let alone = o.smaller-alone in
    ⊎_elim (λ none. none o.both) (λ lies. alone.not-in-other (lies alone.east alone.north alone.in_one))
    (n o.larger o.smaller o.is-larger o.is-smaller)

-- of two things that exclude each other, one for each value of a test
exactly : {A B : Type 0} {b : Bool} → (A → B → ⊥) → ((b ≡ false) × A) ⊎ ((b ≡ true) × B) → (A ↔ (b ≡ false)) × (B ↔ (b ≡ true))
exactly not-both (inl v) = ((λ a. v.0, λ e. v.1), (λ b. absurd (not-both v.1 b), λ e. absurd (true≢false (sym e ∙ v.0))))
exactly not-both (inr v) = ((λ a. absurd (not-both a v.1), λ e. absurd (true≢false (sym v.0 ∙ e))), (λ b. v.0, λ e. v.1))

judged : {s t : ℕ} → IsPair s t → ((is_one_of_four s t ≡ false) × Nests s t) ⊎ ((is_one_of_four s t ≡ true) × Overlaps s t)
judged p = ⊎_elim (λ v. inl (v.0, nests v.1)) (λ v. inr (v.0, overlaps v.1)) (fits-or-not p)

-- the larger sheet that has the corner of a smaller one shares a point with it, and so has all of it
each-in-one : (s t k : ℕ) → is_scale s ≡ true → Nests s t → SheetOf t k → (j : ℕ) × SheetOf s j × LiesIn k j
each-in-one s t k a n l =
    let corner : Has k _ _ = record { sheet = l.sheet; scale = refl; ground = corner-owned k l.sheet } in
    let p = each-point-in-one-sheet s _ _ a (holder corner).in_area in
    let h : SheetOf s p.0 = record { sheet = p.2.sheet; scale = p.2.scale } in
    (p.0, h, ⊎_elim (λ none. absurd (none (record { east = _; north = _; in_one = holds_has p.2; in-other = corner }))) (λ lies. lies) (n p.0 k h l))

one-scale : (s j k : ℕ) → SheetOf s j → SheetOf s k → (Share j k → ⊥) ⊎ (j ≡ k)
one-scale s j k h l = by (j =? k) refl
  where
    by : (b : Bool) → (j =? k) ≡ b → (Share j k → ⊥) ⊎ (j ≡ k)
    by true e = inr (eqb-true j k e)
    by false e = inl (λ x. eqb-false j k e (one-sheet (has-holds h x.in_one) (has-holds l x.in-other)))

pub which-scales-nest : WhichScalesNest
unfolding flat_map from keep table table_row
which-scales-nest = record {
  any-two = any-two;
  thirty-six = refl;
  nest = λ s t p. (exactly (never_both s t) (judged p)).0;
  thirty_two = refl;
  overlap = λ s t p. (exactly (never_both s t) (judged p)).1;
  exactly-four = refl;
  one-or-other = λ s t p. ⊎_elim (λ v. inl v.1) (λ v. inr v.1) (judged p);
  never_both = never_both;
  each-in-one = each-in-one;
  one-scale = one-scale;
}
