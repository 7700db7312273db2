-- Places, windows and blocks as plain numbers. Document 01, "Relations".
use Rattle.std.specs.Prelude.{ℕ, ℤ, get_or, Option, Some}
use mathlib.Core.List.{List, [], ◌∷◌, map, flat_map}
use Rattle.refusal.specs.Paper.{Paper, laid}
use Rattle.division.specs.declared.Place.{Place}
use Rattle.division.specs.declared.Edges.{Edges}
use Rattle.relations.specs.Relations.{neighbours}
use Rattle.telling.specs.Plain.{mark}

abbrev pub place : ℕ → ℕ → Place
place row column = record { row = row; column = column }

-- "A window has west, east, south, north"
abbrev pub window : ℤ → ℤ → ℤ → ℤ → Edges
window west east south north = record { west = west; east = east; south = south; north = north }

-- the nine places, "rows from the north, each from the west", laid into lent room
unfoldable pub neighbours_in : ℕ → ℕ → Paper (List ℕ)
neighbours_in sheet room = laid (flat_map (map mark) (neighbours sheet)) room

-- the marks of a row, place by place; it has all three places, so none is taken for sheet 0
abbrev pub marks : List (Option ℕ) → List ℕ
marks row = mark (get_or row 0 (Some 0)) ∷ mark (get_or row 1 (Some 0)) ∷ mark (get_or row 2 (Some 0)) ∷ []
