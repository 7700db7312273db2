-- Neighbours, captions, official names and readings as plain numbers. Document 01, "Relations", "Catalogue lines" and "Shelf list";
-- document 02, d).
use Rattle.std.specs.Prelude.{ℕ, cond, length, Option, None, Some, unwrap_or}
use Rattle.refusal.specs.Paper.{Paper, answer, ◌>>◌, ◌>>=◌}
use Rattle.catalogue.specs.declared.parts.Spans.{Spans}
use Rattle.catalogue.specs.Parts.{Part, part, Caption, of_line, of_fallback}
use Rattle.official.specs.declared.verdict.Verdict.{Verdict}
use Rattle.official.specs.declared.verdict.Verdict.TheVariants.{Agrees, Differs, NotListed}
use Rattle.shelf.specs.Reading.{Reading}

-- "places off the grid marked as none": a number that is no sheet
abbrev pub mark : Option ℕ → ℕ
mark (Some n) = n
mark None = 4_294_967_295

-- the caption of a line, by where its parts lie and how long the fallback is
abbrev pub caption_at : Spans → ℕ → Caption
caption_at at fallback = cond at.bare (of_fallback (part 0 fallback)) (of_line (part at.start at.end))

-- "it is a part of one or the other": 0 for the line, 1 for the fallback
abbrev pub source : Caption → ℕ
source (of_line p) = 0
source (of_fallback p) = 1

abbrev pub part_of : Caption → Part
part_of (of_line p) = p
part_of (of_fallback p) = p

-- how many bytes of an official name were laid: 0 for "not listed"
abbrev pub byte_count : Paper (Option ℕ) → Paper ℕ
byte_count named = named >>= λ count. answer (unwrap_or count 0)

-- the sheet that has a name, and the mark of none for "not listed"
abbrev pub sheet_or_none : Option ℕ → ℕ
sheet_or_none sheet = unwrap_or sheet (mark None)

-- what is said of the name in a line
abbrev pub verdict_as : Verdict → ℕ
verdict_as Agrees = 0
verdict_as Differs = 1
verdict_as NotListed = 2

abbrev pub verdict_number : Paper Verdict → Paper ℕ
verdict_number said = said >>= λ verdict. answer (verdict_as verdict)

-- how many sheets a list has that is read whole, by how its reading ended and how many it placed
abbrev pub counting : Paper Unit → ℕ → Paper ℕ
counting ended count = ended >> answer count

abbrev pub read_count : Reading → Paper ℕ
read_count reading = counting reading.ended (length reading.placed)
