-- Whether the sheets that a scanning firm delivers are the cover of a window. Document 02, j).
use Rattle.std.specs.Prelude.{ℕ, not, List, [], ◌∷◌, length, get_or, take}
use Rattle.refusal.specs.Paper.{Paper, answer, refuse◌at◌unless◌, ◌>>◌}
use Rattle.refusal.specs.Numbers.{is_in}
use Rattle.division.specs.declared.Edges.{Edges}
use Rattle.division.specs.Words.{from}
use Rattle.division.specs.Cover.{sheets_in, coverable}

-- "25 a sheet not of the cover and 26 a sheet seen before": what is wrong at a place of the delivery, if anything
unfoldable pub good_place : List ℕ → List ℕ → ℕ → Paper Unit
good_place cover sheets place = do
  let sheet = get_or sheets place 0
  refuse 25 at place unless is_in cover sheet
  refuse 26 at place unless not (is_in (take place sheets) sheet)

-- "27 a sheet missing"
abbrev pub delivered : List ℕ → ℕ → Paper Unit
delivered sheets sheet = refuse 27 at sheet unless is_in sheets sheet

-- "whichever place comes first", "the first missing sheet": things are judged one after the other, and the first refusal decides
unfoldable pub in_turn : (ℕ → Paper Unit) → List ℕ → Paper Unit
in_turn judge [] = answer tt
in_turn judge (x ∷ xs) = do
  judge x
  in_turn judge xs

-- "Accept exactly when each sheet of the cover occurs once and nothing else does. Say the first bad place, or the first missing sheet in
-- cover order"; what is accepted has as many sheets as the cover
unfoldable pub against : List ℕ → List ℕ → Paper ℕ
against cover sheets = do
  in_turn (good_place cover sheets) (from 0 (length sheets))
  in_turn (delivered sheets) cover
  answer (length cover)

-- "Refusals: cover's 2, 7, 8, 9 first; then 25 .. and 26 ..; then 27 .."
unfoldable pub check_delivery : ℕ → Edges → List ℕ → Paper ℕ
check_delivery s w sheets = do
  coverable s w
  against (sheets_in s w) sheets
