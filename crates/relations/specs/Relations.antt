-- Parent, child, step, offset and neighbours. Document 01, "Relations".
use Rattle.std.specs.Prelude.{ℕ, ◌+◌, ◌/◌, Bool, ◌&&◌, List, [], ◌∷◌, ℤ, pos, negsuc, nat_abs, ◌+ℤ◌, ◌-ℤ◌, Option, Some, None}
use Rattle.refusal.specs.Paper.{Paper, answer, refused, refuse◌unless◌, ◌>>◌}
use Rattle.division.specs.declared.Place.{Place}
use Rattle.division.specs.declared.Spot.{Spot}
use Rattle.relations.specs.declared.Offset.{Offset}
use Rattle.division.specs.Words.{◌≤?◌, ◌=?◌, ◌≤ᶻ◌, ◌<ᶻ◌, between}
use Rattle.division.specs.Table.{is_scale, rows, columns, first, parent_scale, parts}
use Rattle.division.specs.Sheet.{is_sheet, scale_of, index_of, part_index, place_of, spot_of, sheet_of}

-- "Parent is as in 'made by'; scales 1 to 3 have none"
unfoldable pub parent : ℕ → Paper ℕ
parent n = do
  let s = scale_of n
  refuse 3 unless is_sheet n
  refuse 6 unless 1 ≤? parent_scale s
  answer (first (parent_scale s) + index_of n / parts s)

-- a sheet of a scale has at scale s a part of that number
abbrev pub is_part : ℕ → ℕ → ℕ → Bool
is_part s above number = parent_scale s =? above && between 1 (parts s) number

-- "A child is asked by scale and number"; "Child: 3, 2, 6"
unfoldable pub child : ℕ → ℕ → ℕ → Paper ℕ
child n s number = do
  refuse 3 unless is_sheet n
  refuse 2 unless is_scale s
  refuse 6 unless is_part s (scale_of n) number
  answer (first s + part_index (parts s) (index_of n) number)

-- a place of a line of `count` places, moved by a signed amount, is still on the line
abbrev pub moved : ℕ → ℤ → ℤ
moved at by = pos at +ℤ by

abbrev pub stays : ℕ → ℤ → ℕ → Bool
stays at by count = pos 0 ≤ᶻ moved at by && moved at by <ᶻ pos count

-- "A step goes a signed number of columns east and rows south on the whole grid of the scale"
unfoldable pub walk : Spot → ℤ → ℤ → Paper ℕ
walk at east south = do
  let s = at.scale
  let p = at.place
  refuse 6 unless stays p.column east (columns s)
  refuse 6 unless stays p.row south (rows s)
  answer (sheet_of s (record { row = nat_abs (moved p.row south); column = nat_abs (moved p.column east) }))

unfoldable pub step : ℕ → ℤ → ℤ → Paper ℕ
step n east south = do
  refuse 3 unless is_sheet n
  walk (spot_of n) east south

-- "The offset from one sheet to another of its scale is the signed pair, east then south"
abbrev pub apart : Place → Place → Offset
apart a b = record { east = pos b.column -ℤ pos a.column; south = pos b.row -ℤ pos a.row }

abbrev pub offset_from : Spot → ℕ → Paper Offset
offset_from at b = do
  refuse 3 unless is_sheet b
  refuse 6 unless at.scale =? scale_of b
  answer (apart at.place (place_of b))

unfoldable pub offset : ℕ → ℕ → Paper Offset
offset a b = do
  refuse 3 unless is_sheet a
  offset_from (spot_of a) b

-- "places off the grid marked as none. For a refused sheet all nine are none"
abbrev pub or_none : Paper ℕ → Option ℕ
or_none (answer n) = Some n
or_none (refused number value) = None

-- "a block of three rows of three, the sheet itself in the middle, rows from the north, each from the west"
abbrev pub neighbour_row : ℕ → ℤ → List (Option ℕ)
neighbour_row n south = or_none (step n (negsuc 0) south) ∷ or_none (step n (pos 0) south) ∷ or_none (step n (pos 1) south) ∷ []

unfoldable pub neighbours : ℕ → List (List (Option ℕ))
neighbours n = neighbour_row n (negsuc 0) ∷ neighbour_row n (pos 0) ∷ neighbour_row n (pos 1) ∷ []
