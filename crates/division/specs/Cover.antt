-- Window covers. Document 01, "Relations".
use Rattle.std.specs.Prelude.{ℕ, ◌+◌, Bool, ◌&&◌, length, get_or}
use mathlib.Core.List.{List, map, flat_map}
use Rattle.refusal.specs.Paper.{Paper, answer, refuse◌unless◌, ◌>>◌, laid}
use Rattle.division.specs.declared.Edges.{Edges}
use Rattle.division.specs.declared.cover.Span.{Span}
use Rattle.division.specs.declared.cover.Block.{Block}
use Rattle.division.specs.Words.{◌≤?◌, ◌<ᶻ◌, from, keep}
use Rattle.division.specs.Table.{is_scale, rows, columns}
use Rattle.division.specs.Grid.{area, within, west_of, north_of}
use Rattle.division.specs.Sheet.{sheet_of}

-- the columns of the scale, from the west, that share a point with the window, and the rows, from the north
unfoldable pub columns_in : ℕ → Edges → List ℕ
columns_in s w = keep (λ c. west_of s c <ᶻ w.east && w.west <ᶻ west_of s (c + 1)) (from 0 (columns s))

unfoldable pub rows_in : ℕ → Edges → List ℕ
rows_in s w = keep (λ r. north_of s (r + 1) <ᶻ w.north && w.south <ᶻ north_of s r) (from 0 (rows s))

-- "every sheet sharing a point with it, each once, rows from the north, each row from the west"
unfoldable pub block : ℕ → List ℕ → List ℕ → List ℕ
block s rs cs = flat_map (λ r. map (λ c. sheet_of s (record { row = r; column = c })) cs) rs

abbrev pub sheets_in : ℕ → Edges → List ℕ
sheets_in s w = block s (rows_in s w) (columns_in s w)

-- "7: window with east not above west or north not above south"
abbrev pub is_window : Edges → Bool
is_window w = w.west <ᶻ w.east && w.south <ᶻ w.north

-- "Cover: 2, 7, 8, 9", whatever its sheets are asked for
unfoldable pub coverable : ℕ → Edges → Paper Unit
coverable s w = do
  refuse 2 unless is_scale s
  refuse 7 unless is_window w
  refuse 8 unless within area w
  refuse 9 unless length (sheets_in s w) ≤? 4_096

-- ", 10"
unfoldable pub cover : ℕ → Edges → ℕ → Paper (List ℕ)
cover s w room = do
  coverable s w
  laid (sheets_in s w) room

-- the rows and the columns by themselves: they follow one another, so the first of each and their count tell them
abbrev pub spanned : List ℕ → Span
spanned l = record { first = get_or l 0 0; count = length l }

unfoldable pub block_in : ℕ → Edges → Paper Block
block_in s w = do
  coverable s w
  answer (record { down = spanned (rows_in s w); across = spanned (columns_in s w) })
