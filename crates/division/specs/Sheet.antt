-- Sheet numbers and places, the sheet of a point, the corners of a sheet. Document 01, "The grid".
use Rattle.std.specs.Prelude.{ℕ, ◌+◌, ◌-◌, ◌*◌, ◌/◌, ◌%◌, Bool, ◌&&◌, ℤ}
use Rattle.refusal.specs.Paper.{Paper, answer, refuse◌unless◌, ◌>>◌}
use Rattle.division.specs.declared.Edges.{Edges}
use Rattle.division.specs.declared.Place.{Place}
use Rattle.division.specs.declared.Spot.{Spot}
use Rattle.division.specs.Words.{◌≤?◌, ◌<?◌, between}
use Rattle.division.specs.Table.{Made, of_area, of_scale, is_scale, the_scale, made, rows, columns, first, last}
use Rattle.division.specs.Grid.{area, owns, column_at, row_at, edges_of}

-- "Within a parent, sheets are numbered from 1, row by row from the upper left", for a parent in k × k
abbrev pub number_in : ℕ → Place → ℕ
number_in k p = p.row % k * k + p.column % k + 1

abbrev pub parent_place : ℕ → Place → Place
parent_place k p = record { row = p.row / k; column = p.column / k }

abbrev pub child_place : ℕ → Place → ℕ → Place
child_place k p number = record { row = p.row * k + (number - 1) / k; column = p.column * k + (number - 1) % k }

-- "row × columns + column, counted from 0", for the area in c columns
abbrev pub area_index : ℕ → Place → ℕ
area_index c p = p.row * c + p.column

abbrev pub area_place : ℕ → ℕ → Place
area_place c i = record { row = i / c; column = i % c }

-- "For the others it is parent index × sheets per parent + number − 1"
abbrev pub part_index : ℕ → ℕ → ℕ → ℕ
part_index parts up number = up * parts + (number - 1)

-- the index of a place, and back, the place of an index
unfoldable pub index_at : Made → Place → ℕ
index_at (of_area r c) p = area_index c p
index_at (of_scale s m k) p = part_index (k * k) (index_at m (parent_place k p)) (number_in k p)

unfoldable pub place_at : Made → ℕ → Place
place_at (of_area r c) i = area_place c i
place_at (of_scale s m k) i = child_place k (place_at m (i / (k * k))) (i % (k * k) + 1)

-- "The sheet number, 0 to 7 953 173"
abbrev pub is_sheet : ℕ → Bool
is_sheet n = n ≤? 7_953_173

-- "first number of the scale plus an index"
abbrev pub sheet_of : ℕ → Place → ℕ
sheet_of s p = first s + index_at (made s) p

-- and back: the scale whose first and last number it lies between; of no sheet 0
unfoldable pub scale_of : ℕ → ℕ
scale_of n = the_scale λ s. between (first s) (last s) n

abbrev pub index_of : ℕ → ℕ
index_of n = n - first (scale_of n)

abbrev pub place_of : ℕ → Place
place_of n = place_at (made (scale_of n)) (index_of n)

-- "rows from the north, each row from the west": the places of a scale's sheets in the order in which they are read
abbrev pub reading_order : ℕ → ℕ
reading_order n = area_index (columns (scale_of n)) (place_of n)

-- scale and place of a sheet, and the sheet at a place of a scale; a place off the grid gets 6, as a step off the grid does
abbrev pub spot_of : ℕ → Spot
spot_of n = record { scale = scale_of n; place = place_of n }

unfoldable pub locate : ℕ → Paper Spot
locate n = do
  refuse 3 unless is_sheet n
  answer (spot_of n)

abbrev pub on_grid : ℕ → Place → Bool
on_grid s p = p.row <? rows s && p.column <? columns s

unfoldable pub sheet_on : ℕ → Place → Paper ℕ
sheet_on s p = do
  refuse 2 unless is_scale s
  refuse 6 unless on_grid s p
  answer (sheet_of s p)

-- point to sheet. "Points: 2, 1"
unfoldable pub sheet_at : ℕ → ℤ → ℤ → Paper ℕ
sheet_at s e n = do
  refuse 2 unless is_scale s
  refuse 1 unless owns area e n
  answer (sheet_of s (record { row = row_at s n; column = column_at s e }))

-- sheet to corners
abbrev pub ground_of : ℕ → Edges
ground_of n = edges_of (scale_of n) (place_of n)

unfoldable pub corners_of : ℕ → Paper Edges
corners_of n = do
  refuse 3 unless is_sheet n
  answer (ground_of n)
