-- What the inner functions take for granted: the public ones test it first.
use Rattle.std.specs.Prelude.{ℕ, ◌+◌, ◌-◌, ◌*◌, ◌/◌, ◌≤◌, ◌<◌, ◌≡◌, true, ℤ, pos}
use Rattle.division.specs.declared.Edges.{Edges}
use Rattle.division.specs.declared.Place.{Place}
use Rattle.division.specs.declared.cover.Span.{Span}
use Rattle.division.specs.Table.{rows, columns, sheets}
use Rattle.division.specs.Grid.{area, owns, within, column_at, row_at}
use Rattle.division.specs.Sheet.{sheet_of}
use Rattle.refusal.specs.Paper.{Paper, refuse◌unless◌, ◌>>◌}
use Rattle.division.specs.Cover.{is_window}

-- a scale
pub record IsScale (s : ℕ) : Type 0 where
  pub one : 1 ≤ s
  pub nine : s ≤ 9

-- a place on the grid of a scale
pub record OnGrid (s : ℕ) (p : Place) : Type 0 where
  pub scale : IsScale s
  pub in_rows : p.row < rows s
  pub in-columns : p.column < columns s

-- an index of a scale
pub record Indexed (s i : ℕ) : Type 0 where
  pub scale : IsScale s
  pub in-sheets : i < sheets s

-- a parent in k × k
pub record Parted (k : ℕ) : Type 0 where
  pub some : 0 < k
  pub few : k ≤ 25

-- part number `number` of a parent at a place
pub record PartPlace (k : ℕ) (up : Place) (number : ℕ) : Type 0 where
  pub parted : Parted k
  pub one : 1 ≤ number
  pub last : number ≤ k * k
  pub rows : (up.row + 1) * k ≤ 3_000
  pub columns : (up.column + 1) * k ≤ 2_000

-- a scale, and a point of the area; and the sheet under it
pub record Inside (s : ℕ) (e n : ℤ) : Type 0 where
  pub scale : IsScale s
  pub point : owns area e n ≡ true

abbrev pub sheet_under : ℕ → ℤ → ℤ → ℕ
sheet_under s e n = sheet_of s (record { row = row_at s n; column = column_at s e })

-- the cells of a size that the stretch from a up to b of a line meets
abbrev pub span_of : ℕ → ℕ → ℕ → Span
span_of a b size = record { first = a / size; count = (b - 1) / size - a / size + 1 }

-- a window in the area: "7, 8"
abbrev pub window_in : Edges → Paper Unit
window_in w = do
  refuse 7 unless is_window w
  refuse 8 unless within area w

-- a scale, and a window in the area
pub record Seen (s : ℕ) (w : Edges) : Type 0 where
  pub scale : IsScale s
  pub window : is_window w ≡ true
  pub inside : within area w ≡ true

-- rows and columns on the grid of a scale, for whose sheets there is room
pub record BlockRoom (s : ℕ) (down across : Span) (room : ℕ) : Type 0 where
  pub scale : IsScale s
  pub in_rows : down.first + down.count ≤ rows s
  pub in-columns : across.first + across.count ≤ columns s
  pub few : down.count * across.count ≤ 4_096
  pub fits : down.count * across.count ≤ room

-- an edge in millimetres that is so many hundred metres, from low to high
pub record Hundreds (low high : ℕ) (x : ℤ) : Type 0 where
  pub count : ℕ
  pub is : x ≡ pos (count * 100_000)
  pub from : low ≤ count
  pub to : count ≤ high

-- four of them within the area: E from 200 000 m to 800 000 m, N from 4 570 000 m to 5 170 000 m
pub record InHundreds (e : Edges) : Type 0 where
  pub west : Hundreds 2_000 8_000 e.west
  pub east : Hundreds 2_000 8_000 e.east
  pub south : Hundreds 45_700 51_700 e.south
  pub north : Hundreds 45_700 51_700 e.north
