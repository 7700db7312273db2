-- A point in floats gets the sheet in which its exact value lies, whichever scale, and 1 where that lies in none: it is rounded the way in
-- which sheets own their edges, and no edge lies between a value and the whole millimetre that it is rounded to. Assumes nothing.
use mathlib.Core.Path.{◌≡◌, refl, sym, ◌∙◌, subst}
use mathlib.Core.Logic.{◌↔◌, ◌⊎◌, ⊎_elim}
use mathlib.Core.Bool.{Bool, true, false, ◌&&◌}
use Prim.Native.Nat.{ℕ, ◌<◌}
use native.Mathlib.Omega.{arith}
use lib.IntN.{ℤ}
use lib.Ieee.{Float, nan, inf, fin}
use lib.Ieee.Fits.{down_pos}
use Rattle.refusal.specs.Paper.{Paper, answer, refused, is_answer, refuse◌unless◌, ◌>>◌}
use Rattle.refusal.proofs.PaperLaws.{same_answer, some-answer, differs, passed}
use Rattle.division.specs.Table.{is_scale}
use Rattle.division.specs.Grid.{area, owns, column_at, row_at}
use Rattle.division.specs.Sheet.{ground_of, sheet_of, sheet_at}
use Rattle.division.specs.Theorems.{Holds}
use Rattle.division.proofs.TestLaws.{both}
use Rattle.division.proofs.PointTheorems.{answers-holds, each-point-in-one-sheet, outside-in-none}
use Rattle.frame.specs.Exact.{Fraction, exactly, floor, ceiling, downward, upward}
use Rattle.frame.specs.Metres.{sheet_at_metres}
use Rattle.frame.specs.Theorems.{owns_exactly, HoldsExactly, TooLarge}
use Rattle.frame.proofs.FractionLaws.{rounded-owned}
use Rattle.frame.proofs.FarLaws.{far-east, far-north, far-down, far-up}

-- ---- in their order: 2, 18, 1

pub no-scale : (s : ℕ) (e n : Float) → is_scale s ≡ false → sheet_at_metres s e n ≡ refused 2 0
unfolding sheet_at_metres
no-scale s e n h = rw h

-- whatever the other value is
pub no_number : (s : ℕ) (e n : Float) → is_scale s ≡ true → (is_answer (exactly e) && is_answer (exactly n)) ≡ false → sheet_at_metres s e n ≡ refused 18 0
unfolding sheet_at_metres downward upward exactly
no_number s nan n h l = rw h
no_number s (inf a) n h l = rw h
no_number s (fin a b c) nan h l = rw h
no_number s (fin a b c) (inf d) h l = rw h
no_number s (fin a b c) (fin p q r) h l = let z : ◌≡◌ {A = ℕ} 0 1 = cc in absurd (omega arith)

-- ---- numbers

-- a scale is tested once and again
scale-again : (s : ℕ) (e n : ℤ) → ((refuse 2 unless is_scale s) >> sheet_at s e n) ≡ sheet_at s e n
unfolding sheet_at
scale-again s e n = by (is_scale s) ((refuse 1 unless owns area e n) >> answer (sheet_of s (record { row = row_at s n; column = column_at s e })))
  where
    by : (b : Bool) (next : Paper ℕ) → ((refuse 2 unless b) >> ((refuse 2 unless b) >> next)) ≡ ((refuse 2 unless b) >> next)
    by true next = refl
    by false next = refl

pub some-under : (x : Float) {v : Fraction} → exactly x ≡ answer v → 0 < v.under
unfolding exactly
some-under nan h = absurd (differs (sym h))
some-under (inf s) h = absurd (differs (sym h))
some-under (fin s m p) h = subst (λ (v : Fraction). 0 < v.under) (same_answer h) (down_pos p)

module _ (e n : Float) {x y : Fraction} (E : exactly e ≡ answer x) (N : exactly n ≡ answer y) where
  -- the rounded point is asked
  pub rounded : (s : ℕ) → sheet_at_metres s e n ≡ sheet_at s (floor x) (ceiling y)
  unfolding sheet_at_metres downward upward
  rounded s = rw (E, N) (scale-again s (floor x) (ceiling y))

  holds : {s k : ℕ} → Holds s (floor x) (ceiling y) k → HoldsExactly s x y k
  holds {s} {k} h = record { sheet = h.sheet; scale = h.scale; ground = sym (rounded-owned (ground_of k) x y (some-under e E) (some-under n N)) ∙ h.ground }

  holds-back : {s k : ℕ} → HoldsExactly s x y k → Holds s (floor x) (ceiling y) k
  holds-back {s} {k} h = record { sheet = h.sheet; scale = h.scale; ground = rounded-owned (ground_of k) x y (some-under e E) (some-under n N) ∙ h.ground }

  -- "the rounded point is in the same sheet as the float's exact value"
  pub in-the-same-sheet : (s k : ℕ) → Holds s (floor x) (ceiling y) k ↔ HoldsExactly s x y k
  in-the-same-sheet s k = (holds, holds-back)

  -- in the area that is one sheet of each scale, the one that is answered
  pub inside : (s : ℕ) → is_scale s ≡ true → owns_exactly area x y ≡ true → (k : ℕ) × (sheet_at_metres s e n ≡ answer k) × HoldsExactly s x y k × ((j : ℕ) → HoldsExactly s x y j → j ≡ k)
  inside s h o =
      let p = each-point-in-one-sheet s (floor x) (ceiling y) h (rounded-owned area x y (some-under e E) (some-under n N) ∙ o) in
      (p.0, rounded s ∙ p.1, holds p.2, λ j g. p.3 j (holds-back g))

  -- and outside it none
  pub outside : (s : ℕ) → is_scale s ≡ true → owns_exactly area x y ≡ false → (sheet_at_metres s e n ≡ refused 1 0) × ((k : ℕ) → HoldsExactly s x y k → ⊥)
  unfolding sheet_at
  outside s h o =
      let out : owns area (floor x) (ceiling y) ≡ false = rounded-owned area x y (some-under e E) (some-under n N) ∙ o in
      (rounded s ∙ rw (h, out), λ k g. outside-in-none s (floor x) (ceiling y) k out (holds-back g))

  -- "A float too large for 64-bit millimetres gives 1"
  pub too_large : (s : ℕ) → is_scale s ≡ true → TooLarge x ⊎ TooLarge y → sheet_at_metres s e n ≡ refused 1 0
  unfolding sheet_at
  too_large s h =
      ⊎_elim (λ l. let out = far-east (floor x) (ceiling y) (far-down x (some-under e E) (omega (arith, l))) in rounded s ∙ rw (h, out)) (λ l. let out = far-north (floor x) (ceiling y) (far-up y (some-under n N) (omega (arith, l))) in rounded s ∙ rw (h, out))

-- what is answered is a sheet of the scale that holds the exact point
pub answered : (s : ℕ) (e n : Float) {k : ℕ} → sheet_at_metres s e n ≡ answer k → (x y : Fraction) × (exactly e ≡ answer x) × (exactly n ≡ answer y) × HoldsExactly s x y k
unfolding sheet_at_metres
answered s e n {k} a = by (is_answer (exactly e) && is_answer (exactly n)) refl
  where
    by : (b : Bool) → (is_answer (exactly e) && is_answer (exactly n)) ≡ b → (x y : Fraction) × (exactly e ≡ answer x) × (exactly n ≡ answer y) × HoldsExactly s x y k
    by true h =
        let t = both (is_answer (exactly e)) (is_answer (exactly n)) h in
        let x = some-answer (exactly e) t.0 in
        let y = some-answer (exactly n) t.1 in
        (x.0, y.0, x.1, y.1, holds e n x.1 y.1 (answers-holds (floor x.0) (ceiling y.0) (sym (rounded e n x.1 y.1 s) ∙ a)))
    by false h = absurd (differs (sym a ∙ no_number s e n (passed 2 (is_scale s) _ a).0 h))
