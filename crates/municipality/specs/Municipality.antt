-- The list of a cadastral municipality. Document 02, f).
use Rattle.std.specs.Prelude.{ℕ, List, length}
use Rattle.refusal.specs.Paper.{Paper, refuse◌unless◌, ◌>>◌}
use Rattle.rising.specs.Rising.{rising_from}
use Rattle.division.specs.Words.{◌=?◌, between}
use Rattle.division.specs.Sheet.{is_sheet, scale_of}

-- "with 3, 23 (a sheet of another scale)": what is wrong with a number of the list, if it is not that of a 1:2 000 sheet
abbrev pub of2000 : ℕ → Paper Unit
of2000 sheet = do
  refuse 3 unless is_sheet sheet
  refuse 23 unless scale_of sheet =? 7

-- "a rising list of 1 to 400 sheet numbers"; "23 for an empty or too long list; then its first faulty place, with 3, 23 .. and 15 in that
-- order"
unfoldable pub municipality : List ℕ → Paper Unit
municipality sheets = do
  refuse 23 unless between 1 400 (length sheets)
  rising_from of2000 0 sheets
