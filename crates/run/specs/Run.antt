-- A run of the program, turn by turn in bounded room: what it goes by between two turns, and what a turn makes of it. Document 01 has no
-- sentence on this; what a run prints is in Program.antt, and the promise of `print` is that.
use Rattle.std.specs.Prelude.{ℕ, ◌+◌, ◌-◌, ◌/◌, ◌^◌, min, Bool, true, false, cond, ◌&&◌, List, [], ◌++◌, length, take, drop}
use Prim.Native.Char.{code}
use Rattle.std.proofs.Math.Seq.{slice}
use Rattle.division.specs.Words.{◌≤?◌, ◌=?◌}
use Rattle.label.specs.Text.{join}
use Rattle.run.specs.declared.turn.State.{State}
use Rattle.run.specs.declared.print.Took.{Took}
use Rattle.run.specs.Program.{pieces, line_feeds, line_of, output_from}

abbrev pub state : ℕ → ℕ → ℕ → ℕ → Bool → Bool → State
state from end number written wants over = record { from = from; end = end; number = number; written = written; wants = wants; over = over }

-- "the line's number from 1": nothing is held, and input is wanted
abbrev pub start : State
start = state 0 0 1 0 true false

-- there is room to keep 66 bytes of a line and read one more, room for any row, and a number for every line that the buffer can
-- hold; where not, the run is over
abbrev pub goes_on : ℕ → ℕ → ℕ → Bool
goes_on size room number = (67 ≤? size && 64 ≤? room) && number ≤? 2 ^ 64 - 1 - size

-- of some bytes how many lines are done, those that a line feed ends as many as find room with 64 bytes for each; their rows;
-- and what is left behind them
abbrev pub done_in : ℕ → List ℕ → ℕ
done_in room bytes = min (room / 64) (line_feeds bytes)

abbrev pub rows_in : ℕ → ℕ → List ℕ → List ℕ
rows_in room number bytes = output_from number (take (done_in room bytes) (pieces bytes))

abbrev pub left_in : ℕ → List ℕ → List ℕ
left_in room bytes = join (code "\n") (drop (done_in room bytes) (pieces bytes))

-- what a turn makes: the rows that are to be written, what is kept at the buffer's front, and what the next turn goes by
pub record Turn : Type 0 where
  pub rows : List ℕ
  pub kept : List ℕ
  pub next : State

-- the run is over; or the lines are done that are ended, and input is wanted; or the room is full, and what is left stays where it is
abbrev pub stopped : ℕ → List ℕ → Turn
stopped number rows = record { rows = rows; kept = []; next = state 0 0 number (length rows) false true }

abbrev pub waiting : ℕ → List ℕ → List ℕ → Turn
waiting number rows kept = record { rows = rows; kept = kept; next = state 0 (length kept) number (length rows) true false }

abbrev pub full : ℕ → List ℕ → ℕ → ℕ → Turn
full number rows from end = record { rows = rows; kept = []; next = state from end number (length rows) false false }

-- what is held, with so many bytes more that were read behind it
abbrev pub held_with : State → ℕ → List ℕ → List ℕ
held_with s got buf = slice s.from (s.end + got) buf

-- some bytes are held, up to end. Of a line that is not ended the first 66 bytes are kept, since no more decide its answer
abbrev pub mid_turn : ℕ → ℕ → List ℕ → ℕ → Turn
mid_turn room number held end =
    cond (room / 64 ≤? line_feeds held)
    (full (number + done_in room held) (rows_in room number held) (end - length (left_in room held)) end)
    (waiting (number + done_in room held) (rows_in room number held) (take 66 (left_in room held)))

-- none read, where some were wanted, is the end of the input, and what is held is a last line
unfoldable pub turn_of : List ℕ → ℕ → State → ℕ → Turn
turn_of buf room s got =
    cond (goes_on (length buf) room s.number)
    (cond (s.wants && got =? 0)
    (stopped s.number (output_from s.number (line_of (held_with s got buf))))
    (mid_turn room s.number (held_with s got buf) (length (take (s.end + got) buf))))
    (stopped s.number [])

-- a sink takes as many bytes as it has room for; how many those are, and whether they are all
abbrev pub poured : List ℕ → List ℕ → List ℕ
poured bytes sink = take (length sink) bytes ++ drop (length bytes) sink

abbrev pub tally : List ℕ → ℕ → Took
tally bytes room = record { written = length (take room bytes); whole = length bytes ≤? room }
