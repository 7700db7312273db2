-- The nine scales. Document 01, "The grid".
use Rattle.std.specs.Prelude.{ℕ, ◌+◌, ◌-◌, ◌*◌, Bool, List, [], ◌∷◌, get_or, Option, None, Some}
use Rattle.division.specs.declared.table.Row.{Row}
use Rattle.division.specs.Words.{between, from, keep}

-- "made by": the area in rows and columns, or a scale (its number, and how it is made) in k × k
pub data Made : Type 0 where
  of_area : ℕ → ℕ → Made
  of_scale : ℕ → Made → ℕ → Made

abbrev made3 : Made
made3 = of_area 30 20

abbrev made4 : Made
made4 = of_scale 3 made3 2

abbrev made7 : Made
made7 = of_scale 3 made3 25

abbrev made8 : Made
made8 = of_scale 7 made7 2

pub record TableRow : Type 0 where
  pub width : ℕ
  pub height : ℕ
  pub made : Made
  pub first : ℕ

abbrev row : ℕ → ℕ → Made → ℕ → TableRow
row w h m f = record { width = w; height = h; made = m; first = f }

abbrev no_row : TableRow
no_row = row 0 0 (of_area 0 0) 0

-- the table: width m, height m, made by, first sheet number
unfoldable pub table : List TableRow
table =
    row 150_000 100_000 (of_area 6 4) 0 ∷
    row 60_000 40_000 (of_area 15 10) 24 ∷
    row 30_000 20_000 made3 174 ∷
    row 15_000 10_000 made4 774 ∷
    row 6_000 4_000 (of_scale 3 made3 5) 3_174 ∷
    row 3_000 2_000 (of_scale 4 made4 5) 18_174 ∷
    row 1_200 800 made7 78_174 ∷
    row 600 400 made8 453_174 ∷
    row 300 200 (of_scale 8 made8 2) 1_953_174 ∷ []

-- "2: scale not 1 to 9"
abbrev pub is_scale : ℕ → Bool
is_scale s = between 1 9 s

-- the scale that passes a test, the first if several do; 0 for none
abbrev pub the_scale : (ℕ → Bool) → ℕ
the_scale test = get_or (keep test (from 1 9)) 0 0

-- the table's row for a scale, and a row of zeros for no scale
unfoldable pub table_row : ℕ → TableRow
unfolding table
table_row s = get_or (no_row ∷ table) s no_row

-- rows and columns of the whole grid, by how the scale is made
unfoldable pub rows_of : Made → ℕ
rows_of (of_area r c) = r
rows_of (of_scale s m k) = rows_of m * k

unfoldable pub columns_of : Made → ℕ
columns_of (of_area r c) = c
columns_of (of_scale s m k) = columns_of m * k

-- the parent's scale, as a number and by itself, and how many parts of a parent lie each way; 0 for none
abbrev pub parent_of : Made → ℕ
parent_of (of_area r c) = 0
parent_of (of_scale s m k) = s

abbrev pub parent_in : Made → Option ℕ
parent_in (of_area r c) = None
parent_in (of_scale s m k) = Some s

abbrev pub side_of : Made → ℕ
side_of (of_area r c) = 0
side_of (of_scale s m k) = k

-- "What belongs to a scale is asked of the scale itself"
abbrev pub width : ℕ → ℕ
width s = (table_row s).width

abbrev pub height : ℕ → ℕ
height s = (table_row s).height

abbrev pub made : ℕ → Made
made s = (table_row s).made

abbrev pub rows : ℕ → ℕ
rows s = rows_of (made s)

abbrev pub columns : ℕ → ℕ
columns s = columns_of (made s)

abbrev pub parent_scale : ℕ → ℕ
parent_scale s = parent_of (made s)

abbrev pub side : ℕ → ℕ
side s = side_of (made s)

-- "parts per parent"
abbrev pub parts : ℕ → ℕ
parts s = side s * side s

abbrev pub sheets : ℕ → ℕ
sheets s = rows s * columns s

abbrev pub first : ℕ → ℕ
first s = (table_row s).first

abbrev pub last : ℕ → ℕ
last s = first s + sheets s - 1

-- the same row as the code has it, with all that follows from "made by" written out
abbrev pub code_row : ℕ → Row
code_row s = record {
  width = width s;
  height = height s;
  rows = rows s;
  columns = columns s;
  parts = parts s;
  side = side s;
  parent = parent_in (made s);
  first = first s;
}
