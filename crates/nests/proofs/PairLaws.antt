-- What the table says of two scales is computed of all of them: where the smaller width goes into the larger one, so does the height, and the
-- four are the pairs where it leaves a remainder. Assumes nothing.
use mathlib.Core.Path.{◌≡◌, refl, sym, ◌∙◌, subst}
use mathlib.Core.Bool.{Bool, true, false, true≢false, ◌&&◌, not}
use mathlib.Core.List.{List, [], ◌∷◌, map, Memᴰ}
use mathlib.Core.Logic.{◌⊎◌, inl, inr}
use Prim.Native.Nat.{ℕ, ◌*◌, ◌/◌, ◌%◌, ◌<◌}
use native.Mathlib.Nat.{div-add-mod', mul_comm}
use native.Mathlib.Omega.{arith}
use borrow.Author.Tests.{eqb-true, eqb-false, ltb-true, lt-ltb}
use Rattle.division.specs.Words.{◌<?◌, ◌=?◌, from, keep}
use Rattle.division.specs.Table.{table, table_row, is_scale, width, height}
use Rattle.division.specs.Grid.{millimetres}
use Rattle.division.specs.Given.{IsScale}
use Rattle.division.proofs.TestLaws.{both}
use Rattle.division.proofs.TableLaws.{Each, each, scale}
use Rattle.division.proofs.MemberLaws.{has-from, keep-has, has-keep}
use Rattle.nests.specs.Nesting.{are_smaller, IsPair, is_one_of_four}
use Rattle.nests.proofs.NestLaws.{Fits}
use Rattle.nests.proofs.OverlapLaws.{Remainder}

-- ---- tests of two scales, compared by lists, so that where two differ the error names the scale

-- for each scale the scales that pass a test with it
abbrev passing : (ℕ → ℕ → Bool) → List (List ℕ)
passing test = map (λ s. keep (test s) (from 1 9)) (from 1 9)

map-alike : (f g : ℕ → List ℕ) (l : List ℕ) {s : ℕ} → map f l ≡ map g l → Memᴰ s l → f s ≡ g s
map-alike f g [] e m = elim m [ ]
map-alike f g (x ∷ l) e (Memᴰ.head h) = let p : f x ≡ g x = cc in rw h p
map-alike f g (x ∷ l) e (Memᴰ.tail m) = let p : map f l ≡ map g l = cc in map-alike f g l p m

keep-alike : (f g : ℕ → Bool) (l : List ℕ) {t : ℕ} → keep f l ≡ keep g l → Memᴰ t l → f t ≡ g t
keep-alike f g l {t} e m = by (f t) refl (g t) refl
  where
    by : (x : Bool) → f t ≡ x → (y : Bool) → g t ≡ y → x ≡ y
    by true p true q = refl
    by true p false q = absurd (true≢false (sym (keep-has g l (subst (Memᴰ t) e (has-keep f p m))).1 ∙ q))
    by false p true q = absurd (true≢false (sym (keep-has f l (subst (Memᴰ t) (sym e) (has-keep g q m))).1 ∙ p))
    by false p false q = refl

one-of-nine : {s : ℕ} → IsScale s → Memᴰ s (from 1 9)
one-of-nine {s} h = has-from 1 9 s h.one (omega (arith, h.nine))

-- two tests that the same scales pass say the same of any two scales
alike : (f g : ℕ → ℕ → Bool) {s t : ℕ} → passing f ≡ passing g → IsScale s → IsScale t → f s t ≡ g s t
alike f g {s} e h l =
    keep-alike (f s) (g s) (from 1 9) (map-alike (λ s. keep (f s) (from 1 9)) (λ s. keep (g s) (from 1 9)) (from 1 9) e (one-of-nine h)) (one-of-nine l)

-- ---- the table

-- a length goes into another without a remainder
abbrev goes_into : ℕ → ℕ → Bool
goes_into a b = (millimetres b % millimetres a) =? 0

abbrev wide_fits : ℕ → ℕ → Bool
wide_fits s t = goes_into (width t) (width s)

abbrev high_fits : ℕ → ℕ → Bool
high_fits s t = goes_into (height t) (height s)

-- a height goes into another exactly if the width does
high-as-wide : passing high_fits ≡ passing wide_fits
unfolding from keep table table_row
high-as-wide = refl

-- the four are the pairs that leave a remainder
abbrev leaves_remainder : ℕ → ℕ → Bool
leaves_remainder s t = are_smaller t s && not (wide_fits s t)

four-remain : passing is_one_of_four ≡ passing leaves_remainder
unfolding from keep table table_row
four-remain = refl

-- the scale with the lower number has the larger sheets
by_number : passing (λ s t. are_smaller t s) ≡ passing (λ s t. s <? t)
unfolding from keep table table_row
by_number = refl

-- and none is as wide as the area
all_short : Each (λ s. width s < 600_000) 9
unfolding table table_row
all_short = search arith

-- ---- two scales

pub any-two : (s t : ℕ) → is_scale s ≡ true → is_scale t ≡ true → s < t → IsPair s t
any-two s t a b h =
    record { larger = a; smaller = b; sizes = alike (λ s t. are_smaller t s) (λ s t. s <? t) by_number (scale s a) (scale t b) ∙ lt-ltb s t h }

-- what goes in without a remainder goes in so many times
times : (a b : ℕ) → goes_into a b ≡ true → millimetres b ≡ millimetres a * (millimetres b / millimetres a)
times a b e =
    omega (arith, div-add-mod' (millimetres b) (millimetres a), eqb-true (millimetres b % millimetres a) 0 e, mul_comm (millimetres a) (millimetres b / millimetres a))

module _ {s t : ℕ} (p : IsPair s t) where
  larger : IsScale s
  larger = scale s p.larger

  smaller : IsScale t
  smaller = scale t p.smaller

  abbrev across : ℕ
  across = millimetres (width s) / millimetres (width t)

  abbrev down : ℕ
  down = millimetres (height s) / millimetres (height t)

  fits : wide_fits s t ≡ true → Fits s t across down
  fits e = record {
    larger = larger;
    wide = times (width t) (width s) e;
    high = times (height t) (height s) (alike high_fits wide_fits high-as-wide larger smaller ∙ e);
  }

  remainder : wide_fits s t ≡ false → Remainder s t
  remainder e = record {
    larger = larger;
    smaller = smaller;
    less = ltb-true (width t) (width s) (both (width t <? width s) (height t <? height s) p.sizes).0;
    left = omega (arith, eqb-false (millimetres (width s) % millimetres (width t)) 0 e);
    short = each (λ s. width s < 600_000) 9 all_short s larger.one larger.nine;
  }

  -- a pair fits and is none of the four, or it leaves a remainder and is one of them
  pub fits-or-not : ((is_one_of_four s t ≡ false) × Fits s t across down) ⊎ ((is_one_of_four s t ≡ true) × Remainder s t)
  fits-or-not = by (wide_fits s t) refl
    where
      listed : is_one_of_four s t ≡ leaves_remainder s t
      listed = alike is_one_of_four leaves_remainder four-remain larger smaller

      by : (b : Bool) → wide_fits s t ≡ b → ((is_one_of_four s t ≡ false) × Fits s t across down) ⊎ ((is_one_of_four s t ≡ true) × Remainder s t)
      by true e = inl (listed ∙ rw (p.sizes, e), fits e)
      by false e = inr (listed ∙ rw (p.sizes, e), remainder e)
