-- The words of the theorems that tie the formulas to document 01's sentences. Nothing here is part of a promise.
use Rattle.std.specs.Prelude.{ℕ, ◌≡◌, true, ℤ}
use Rattle.division.specs.declared.Edges.{Edges}
use Rattle.division.specs.Grid.{owns}
use Rattle.division.specs.Sheet.{is_sheet, scale_of, ground_of}

-- sheet k is of scale s, and the point lies in it
pub record Holds (s : ℕ) (e n : ℤ) (k : ℕ) : Type 0 where
  pub sheet : is_sheet k ≡ true
  pub scale : scale_of k ≡ s
  pub ground : owns (ground_of k) e n ≡ true

-- sheet k of scale s shares a point with the window
pub record Shares (s : ℕ) (w : Edges) (k : ℕ) : Type 0 where
  pub east : ℤ
  pub north : ℤ
  pub window : owns w east north ≡ true
  pub sheet : Holds s east north k

-- two sheets stand for the same ground: the same set of points
abbrev pub SameGround : ℕ → ℕ → Type 0
SameGround j k = (e n : ℤ) → owns (ground_of j) e n ≡ owns (ground_of k) e n
