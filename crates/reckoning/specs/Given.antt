-- What the inner functions take for granted and give, and what a reach tells.
use Rattle.std.specs.Prelude.{ℕ, ◌+◌, ◌-◌, ◌*◌, ◌/◌, ◌≤◌, ◌<◌, cond, List, pos, length, Option, Some, None}
use Rattle.division.specs.declared.Edges.{Edges}
use Rattle.division.specs.Table.{is_scale, made, width, height, sheets}
use Rattle.division.specs.Given.{IsScale}
use Rattle.label.specs.Label.{count_of, scale_with}
use Rattle.reckoning.specs.declared.Reach.{Reach}

-- the scale that a first number and a count of fields name, if they name one
abbrev pub marked : ℕ → ℕ → Option ℕ
marked mark count = cond (is_scale (scale_with mark count)) (Some (scale_with mark count)) None

-- a scale, and at least as many fields as its labels have behind the first number
pub record Fields (s : ℕ) (fields : List ℕ) : Type 0 where
  pub scale : IsScale s
  pub enough : count_of (made s) ≤ length fields

-- an index of a scale, and a sheet of it within the area
pub record InReach (s : ℕ) (at : Reach) : Type 0 where
  pub scale : IsScale s
  pub indexed : at.index < sheets s
  pub wide : at.right + width s / 100 ≤ 6_000
  pub high : at.down + height s / 100 ≤ 6_000

-- the corners of the sheet of a scale that reaches so far
abbrev pub corners_at : ℕ → Reach → Edges
corners_at s at = record {
  west = pos ((2_000 + at.right) * 100_000);
  east = pos ((2_000 + at.right + width s / 100) * 100_000);
  south = pos ((51_700 - at.down - height s / 100) * 100_000);
  north = pos ((51_700 - at.down) * 100_000);
}
