-- The row of a line. Document 01, "The program".
use Rattle.std.specs.Prelude.{ℕ, ◌/◌, cond, List, [], ◌∷◌, ◌++◌, ℤ, nat_abs}
use Prim.Native.Char.{code}
use Rattle.refusal.specs.Paper.{Paper, answer, refused, room_for, ◌>>◌}
use Rattle.refusal.specs.Numbers.{carries}
use Rattle.division.specs.declared.Edges.{Edges}
use Rattle.division.specs.Sheet.{ground_of}
use Rattle.label.specs.Text.{text, join, decimal}
use Rattle.catalogue.specs.Line.{read_line}

abbrev pub metres : ℤ → List ℕ
metres x = decimal (nat_abs x / 1_000)

abbrev pub frame_words : Edges → List (List ℕ)
frame_words f = metres f.west ∷ metres f.east ∷ metres f.south ∷ metres f.north ∷ []

-- "the sheet number, west, east, south, north in metres, or "refused" and the refusal"; document 02, b): "the program repeat[s] the place
-- after the number", where the refusal carries one
abbrev pub words : Paper ℕ → List (List ℕ)
words (answer n) = decimal n ∷ frame_words (ground_of n)
words (refused number value) = text "refused" ∷ decimal number ∷ cond (carries number) (decimal value ∷ []) []

-- "For each it prints the line's number from 1, then ..; single spaces"
unfoldable pub output_line : ℕ → List ℕ → List ℕ
output_line number line = join (code " ") (decimal number ∷ words (read_line line)) ++ (code "\n" ∷ [])

-- a row asks for 64 bytes of room, which are enough for any, however long it is itself
abbrev pub lay_row : ℕ → List ℕ → ℕ → Paper (List ℕ)
lay_row number line room = room_for 64 room >> answer (output_line number line)
