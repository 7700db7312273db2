-- What the program prints. Document 01, "The program".
use Rattle.std.specs.Prelude.{ℕ, ◌+◌, ◌-◌, List, [], ◌∷◌, ◌++◌, length, get_or, take}
use Prim.Native.Char.{code}
use Rattle.label.specs.Text.{split}
use Rattle.rows.specs.Row.{output_line}

-- the pieces between line feeds; all but the last are ended by one
abbrev pub pieces : List ℕ → List (List ℕ)
pieces input = split (code "\n") input

abbrev pub line_feeds : List ℕ → ℕ
line_feeds input = length (pieces input) - 1

-- nothing is no line
abbrev pub line_of : List ℕ → List (List ℕ)
line_of [] = []
line_of (b ∷ line) = (b ∷ line) ∷ []

-- "A last line without a line feed counts. Empty input prints nothing"
unfoldable pub lines_of : List ℕ → List (List ℕ)
lines_of input = take (line_feeds input) (pieces input) ++ line_of (get_or (pieces input) (line_feeds input) [])

unfoldable pub output_from : ℕ → List (List ℕ) → List ℕ
output_from number [] = []
output_from number (line ∷ lines) = output_line number line ++ output_from (number + 1) lines

-- the whole output, "the line's number from 1"
unfoldable pub printed : List ℕ → List ℕ
printed input = output_from 1 (lines_of input)
