-- The label at the front of a line. Document 01, "Catalogue lines" and "The program".
use Prim.Native.Char.{code}
use Rattle.std.specs.Prelude.{ℕ, List, [], length, get_or}
use Rattle.refusal.specs.Paper.{Paper, answer, ◌>>=◌}
use Rattle.division.specs.Sheet.{ground_of}
use Rattle.label.specs.Text.{split}
use Rattle.label.specs.Label.{read_label}
use Rattle.reading.specs.declared.Front.{Front}

-- "The label is everything before the first space, or all of the line": the sheet that it names, its corners, and where it ends
unfoldable pub read_front : List ℕ → Paper Front
read_front line = do
  let label = get_or (split (code " ") line) 0 []
  n ← read_label label
  answer (record { sheet = n; corners = ground_of n; end = length label })
