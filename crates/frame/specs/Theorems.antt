-- The words of the theorems that tie the formulas to document 02's sentences. Nothing here is part of a promise.
use Rattle.std.specs.Prelude.{ℕ, ◌*◌, ◌^◌, ◌≤◌, ◌≡◌, Bool, true, ◌&&◌, ℤ, pos, nat_abs, ◌+ℤ◌, ◌*ℤ◌, Float}
use Rattle.refusal.specs.Paper.{answer}
use Rattle.division.specs.declared.Edges.{Edges}
use Rattle.division.specs.Words.{◌≤ᶻ◌, ◌<ᶻ◌}
use Rattle.division.specs.Grid.{millimetres}
use Rattle.division.specs.Sheet.{is_sheet, scale_of, ground_of}
use Rattle.frame.specs.declared.Frame.{Frame}
use Rattle.frame.specs.Exact.{Fraction, exactly}

-- a whole number in a fraction's parts, to be held against its over
infix 60 ◌in-parts-of◌
abbrev pub ◌in-parts-of◌ : ℤ → Fraction → ℤ
z in-parts-of x = z *ℤ pos x.under

-- the fraction is a whole number
abbrev pub IsWhole : Fraction → ℤ → Type 0
IsWhole x z = x.over ≡ z in-parts-of x

-- "House rule", for exact values: west ≤ e < east and south < n ≤ north, as `owns` has it for whole millimetres
abbrev pub owns_exactly : Edges → Fraction → Fraction → Bool
owns_exactly w e n =
    (w.west in-parts-of e ≤ᶻ e.over && e.over <ᶻ w.east in-parts-of e) &&
    (w.south in-parts-of n <ᶻ n.over && n.over ≤ᶻ w.north in-parts-of n)

-- "too large for 64-bit millimetres"
abbrev pub TooLarge : Fraction → Type 0
TooLarge x = 2 ^ 63 * x.under ≤ nat_abs x.over

-- "in the same sheet as the float's exact value": sheet k is of scale s, and the exact point lies in it
pub record HoldsExactly (s : ℕ) (e n : Fraction) (k : ℕ) : Type 0 where
  pub sheet : is_sheet k ≡ true
  pub scale : scale_of k ≡ s
  pub ground : owns_exactly (ground_of k) e n ≡ true

-- the float is a whole number of metres, exactly, and these are the millimetres
pub record IsExactly (x : Float) (mm : ℤ) : Type 0 where
  pub metres : ℕ
  pub is : mm ≡ pos (millimetres metres)
  pub value : Fraction
  pub number : exactly x ≡ answer value
  pub same : IsWhole value mm

-- "with the middle as half the sum of the edges, all exact": so is each field of a frame, and twice the middle is the sum
pub record ExactFrame (ground : Edges) (f : Frame) : Type 0 where
  pub west : IsExactly f.west ground.west
  pub east : IsExactly f.east ground.east
  pub south : IsExactly f.south ground.south
  pub north : IsExactly f.north ground.north
  pub middle-e : (z : ℤ) × IsExactly f.middle_e z × (z +ℤ z ≡ ground.west +ℤ ground.east)
  pub middle-n : (z : ℤ) × IsExactly f.middle_n z × (z +ℤ z ≡ ground.south +ℤ ground.north)
