-- The check of a catalogue line. Document 02, d).
use Rattle.std.specs.Prelude.{ℕ, cond, ◌&&◌, List}
use Rattle.std.specs.Prelude.{Option, Some, None}
use Rattle.refusal.specs.Paper.{Paper, answer, refuse◌unless◌, ◌>>◌, ◌>>=◌}
use Rattle.names.specs.Name.{is_same_name}
use Rattle.catalogue.specs.Line.{has_name, name_in, read_line}
use Rattle.official.specs.declared.verdict.Verdict.{Verdict}
use Rattle.official.specs.declared.verdict.Verdict.TheVariants.{Agrees, Differs, NotListed}
use Rattle.official.specs.Lookup.{name_of, is250000}

-- "a check of a catalogue line that answers agrees, differs or not listed"
abbrev pub agrees : Verdict
agrees = Agrees

abbrev pub differs : Verdict
differs = Differs

abbrev pub not_listed : Verdict
not_listed = NotListed

-- "A line is not listed exactly when its sheet has no name there; at a listed sheet any other name, or none, differs"
abbrev pub verdict : Option (List ℕ) → List ℕ → Verdict
verdict None line = not_listed
verdict (Some name) line = cond (has_name line && is_same_name (name_in line) name) agrees differs

unfoldable pub check_at : List ℕ → ℕ → Paper Verdict
check_at line n = do
  refuse 22 unless is250000 n
  answer (verdict (name_of n) line)

-- "22 .. for a line after 16": after all that the line reader refuses, and with its places
unfoldable pub check_line : List ℕ → Paper Verdict
check_line line = do
  n ← read_line line
  check_at line n
