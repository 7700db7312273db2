-- What the laws on sheets of a municipality take for granted.
use Rattle.std.specs.Prelude.{ℕ, ◌≡◌, true}
use Rattle.division.specs.Sheet.{is_sheet, scale_of}

-- a sheet of a scale
pub record OfScale (s k : ℕ) : Type 0 where
  pub sheet : is_sheet k ≡ true
  pub scale : scale_of k ≡ s
