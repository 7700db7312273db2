-- Frames and points in metres. Document 02, a).
use Rattle.std.specs.Prelude.{ℕ, ℤ, ◌+ℤ◌, Float}
use Rattle.std.specs.Int.Signed.{shr_z}
use Rattle.std.specs.Float.{binary64}
use Rattle.std.specs.Float.Ieee.{of_int}
use Rattle.refusal.specs.Paper.{Paper, answer, refuse◌unless◌, ◌>>◌, ◌>>=◌}
use Rattle.division.specs.declared.Edges.{Edges}
use Rattle.division.specs.Table.{is_scale}
use Rattle.division.specs.Sheet.{sheet_at, corners_of}
use Rattle.frame.specs.declared.Frame.{Frame}
use Rattle.frame.specs.Exact.{downward, upward}

-- millimetres as a float of whole metres, and half a sum; of a sheet's edges neither leaves anything over (proofs/FrameTheorems,
-- `frame-exact`)
abbrev pub metres : ℤ → Float
metres millimetres = of_int binary64 (shr_z millimetres 1_000)

abbrev pub half : ℤ → ℤ
half sum = shr_z sum 2

-- "a sheet's frame as west, east, south and north in metres, with the middle as half the sum of the edges"
abbrev pub frame_on : Edges → Frame
frame_on edges = record {
  west = metres edges.west;
  east = metres edges.east;
  south = metres edges.south;
  north = metres edges.north;
  middle_e = metres (half (edges.west +ℤ edges.east));
  middle_n = metres (half (edges.south +ℤ edges.north));
}

-- "The answer is either the frame with its middle or a refusal number"
unfoldable pub frame_of : ℕ → Paper Frame
frame_of sheet = do
  edges ← corners_of sheet
  answer (frame_on edges)

-- "It also sends points as floats in metres": "18 .. stands after 2 and before 1"
unfoldable pub sheet_at_metres : ℕ → Float → Float → Paper ℕ
sheet_at_metres scale e n = do
  refuse 2 unless is_scale scale
  east ← downward e
  north ← upward n
  sheet_at scale east north

unfoldable pub frame_at_metres : ℕ → Float → Float → Paper Frame
frame_at_metres scale e n = do
  sheet ← sheet_at_metres scale e n
  frame_of sheet
