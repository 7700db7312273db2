-- Which scales nest. Document 02, l): "Staff keep assuming that small sheets lie inside larger ones. Prove it over all 36 pairs of scales".
-- The claim is `WhichScalesNest`, at the end; the theorem is `which-scales-nest` in proofs/NestingTheorems. Nothing here is part of a promise:
-- it speaks of points and sheets in the definitions that promises cite (`Holds`: division/specs/Theorems).
use Rattle.std.specs.Prelude.{ℕ, ◌<◌, ◌≡◌, Bool, true, false, ◌&&◌, ◌||◌, not, ◌⊎◌, ◌↔◌, ℤ, length}
use mathlib.Core.List.{flat_map}
use Rattle.division.specs.Words.{◌<?◌, ◌=?◌, from, keep}
use Rattle.division.specs.Table.{is_scale, width, height}
use Rattle.division.specs.Sheet.{is_sheet, scale_of}
use Rattle.division.specs.Theorems.{Holds}

-- ---- two sheets

-- sheet k is of scale s
pub record SheetOf (s k : ℕ) : Type 0 where
  pub sheet : is_sheet k ≡ true
  pub scale : scale_of k ≡ s

-- sheet k has the point, whichever its scale
abbrev pub Has : ℕ → ℤ → ℤ → Type 0
Has k e n = Holds (scale_of k) e n k

-- a point in both sheets
pub record Share (j k : ℕ) : Type 0 where
  pub east : ℤ
  pub north : ℤ
  pub in_one : Has j east north
  pub in-other : Has k east north

-- a point in the one and not in the other
pub record Beyond (j k : ℕ) : Type 0 where
  pub east : ℤ
  pub north : ℤ
  pub in_one : Has j east north
  pub not-in-other : Has k east north → ⊥

-- sheet k lies in sheet j
abbrev pub LiesIn : ℕ → ℕ → Type 0
LiesIn k j = (e n : ℤ) → Has k e n → Has j e n

-- ---- two scales, the first with the larger sheets

-- "two sheets either share no point or the smaller lies in the larger"
abbrev pub Nests : ℕ → ℕ → Type 0
Nests s t = (j k : ℕ) → SheetOf s j → SheetOf t k → (Share j k → ⊥) ⊎ LiesIn k j

-- "some pair of sheets overlaps in part": a point in both, a point in the one and not in the other, and the other way round
pub record Overlaps (s t : ℕ) : Type 0 where
  pub larger : ℕ
  pub smaller : ℕ
  pub is-larger : SheetOf s larger
  pub is-smaller : SheetOf t smaller
  pub both : Share larger smaller
  pub larger-alone : Beyond larger smaller
  pub smaller-alone : Beyond smaller larger

-- ---- all pairs of scales

-- the sheets of scale t are smaller than those of scale s
abbrev pub are_smaller : ℕ → ℕ → Bool
are_smaller t s = width t <? width s && height t <? height s

-- two scales, the first with the larger sheets
pub record IsPair (s t : ℕ) : Type 0 where
  pub larger : is_scale s ≡ true
  pub smaller : is_scale t ≡ true
  pub sizes : are_smaller t s ≡ true

-- how many pairs pass a test
abbrev pub how_many : (ℕ → ℕ → Bool) → ℕ
how_many test = length (flat_map (λ s. keep (λ t. are_smaller t s && test s t) (from 1 9)) (from 1 9))

-- "1:250 000 with 1:100 000, 1:25 000 with 1:10 000, 1:25 000 with 1:2 000, 1:5 000 with 1:2 000". Scales 1 to 9 are 1:250 000, 1:100 000,
-- 1:50 000, 1:25 000, 1:10 000, 1:5 000, 1:2 000, 1:1 000 and 1:500
abbrev pub is_one_of_four : ℕ → ℕ → Bool
is_one_of_four s t = (s =? 1 && t =? 2) || (s =? 4 && t =? 5) || (s =? 4 && t =? 7) || (s =? 6 && t =? 7)

pub record WhichScalesNest : Type 0 where
  -- "all 36 pairs of scales": of any two scales the one with the lower number has the larger sheets
  pub any-two : (s t : ℕ) → is_scale s ≡ true → is_scale t ≡ true → s < t → IsPair s t
  pub thirty-six : how_many (λ s t. true) ≡ 36
  -- "for 32 of them two sheets either share no point or the smaller lies in the larger", and for no other
  pub nest : (s t : ℕ) → IsPair s t → Nests s t ↔ (is_one_of_four s t ≡ false)
  pub thirty_two : how_many (λ s t. not (is_one_of_four s t)) ≡ 32
  -- "and for exactly four .. some pair of sheets overlaps in part"
  pub overlap : (s t : ℕ) → IsPair s t → Overlaps s t ↔ (is_one_of_four s t ≡ true)
  pub exactly-four : how_many is_one_of_four ≡ 4
  -- a pair nests or overlaps, never both
  pub one-or-other : (s t : ℕ) → IsPair s t → Nests s t ⊎ Overlaps s t
  pub never_both : (s t : ℕ) → Nests s t → Overlaps s t → ⊥
  -- so where a pair nests, each of the smaller sheets lies in one of the larger
  pub each-in-one : (s t k : ℕ) → is_scale s ≡ true → Nests s t → SheetOf t k → (j : ℕ) × SheetOf s j × LiesIn k j
  -- and of one scale two sheets share no point, or they are the same
  pub one-scale : (s j k : ℕ) → SheetOf s j → SheetOf s k → (Share j k → ⊥) ⊎ (j ≡ k)
