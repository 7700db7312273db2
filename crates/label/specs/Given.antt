-- What the functions of crates/labelling and crates/rows take for granted, and give.
use Rattle.std.specs.Prelude.{ℕ, ◌+◌, ◌≤◌, ◌<◌}
use Prim.Native.Char.{code}
use mathlib.Core.List.{List, ◌∷◌, map, flat_map}
use Rattle.division.specs.Table.{made}
use Rattle.division.specs.Sheet.{place_at}
use Rattle.label.specs.Text.{decimal}
use Rattle.label.specs.Label.{fields_of}

-- a number below so many, and room for so many bytes
pub record Small (most v size at room : ℕ) : Type 0 where
  pub few : v < most
  pub fits : at + size ≤ room

-- fields, each behind a hyphen
abbrev pub behind : List ℕ → List ℕ
behind fs = flat_map (λ other. code "-" ∷ other) (map decimal fs)

-- the fields of an index of a scale
abbrev pub index_fields : ℕ → ℕ → List ℕ
index_fields s i = fields_of (made s) (place_at (made s) i)
