-- A municipality's sheets by rows. Document 02, f); source document 000, section 3.11.
use Rattle.std.specs.Prelude.{ℕ, ◌+◌, cond, List, [], ◌∷◌}
use Rattle.refusal.specs.Numbers.{is_in}
use Rattle.division.specs.Words.{◌=?◌, keep}
use Rattle.division.specs.Grid.{area}
use Rattle.division.specs.Cover.{sheets_in}

-- "by rows, left to right, starting with the first sheet of the top row"; "Rows are rows of the whole grid": of all 1:2 000 sheets of the
-- area, "rows from the north, each row from the west", those of the municipality
unfoldable pub by_rows : List ℕ → List ℕ
by_rows sheets = keep (is_in sheets) (sheets_in 7 area)

-- the place of a sheet in a list that has it, counted from 0
unfoldable pub place_in : ℕ → List ℕ → ℕ
place_in sheet [] = 0
place_in sheet (x ∷ sheets) = cond (sheet =? x) 0 (1 + place_in sheet sheets)
