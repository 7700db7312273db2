-- What the inner functions take for granted and give: the public one asks for the rows and columns of the cover first.
use Rattle.std.specs.Prelude.{ℕ, ◌+◌, ◌-◌, ◌*◌, ◌≤◌, ◌<◌, ◌≡◌, Bool, false, cond, ◌&&◌, List, length, get_or, Option, Some, None}
use Rattle.refusal.specs.Paper.{Paper, answer, refuse◌at◌unless◌, ◌>>◌}
use Rattle.refusal.specs.Numbers.{is_in}
use Rattle.division.specs.declared.Place.{Place}
use Rattle.division.specs.declared.cover.Span.{Span}
use Rattle.division.specs.declared.cover.Block.{Block}
use Rattle.division.specs.Words.{◌≤?◌, ◌<?◌, from}
use Rattle.division.specs.Table.{parent_scale}
use Rattle.division.specs.Cover.{block}
use Rattle.division.specs.Given.{IsScale, Indexed, BlockRoom}
use Rattle.delivery.specs.Delivery.{in_turn}

-- a scale that is made from the area, and an index of one that is made from another
pub record OfArea (s : ℕ) : Type 0 where
  pub scale : IsScale s
  pub area : parent_scale s ≡ 0

pub record OfParent (s i : ℕ) : Type 0 where
  pub indexed : Indexed s i
  pub parent : parent_scale s ≡ 0 → ⊥

-- rows and columns on the grid of a scale, of at most 4 096 sheets, and these in cover order
abbrev pub InGrid : ℕ → Block → Type 0
InGrid s b = BlockRoom s b.down b.across 4_096

abbrev pub sheets_of : ℕ → Block → List ℕ
sheets_of s b = block s (from b.down.first b.down.count) (from b.across.first b.across.count)

abbrev pub count_of : Block → ℕ
count_of b = b.down.count * b.across.count

-- a row or a column is one of those
abbrev pub has_line : Span → ℕ → Bool
has_line span line = span.first ≤? line && line <? span.first + span.count

-- a place is of the cover, and where it stands in it: rows from the north, each row from the west; behind the last if it is none of it
abbrev pub has_place : Block → Place → Bool
has_place b p = has_line b.down p.row && has_line b.across p.column

abbrev pub block_place : Block → Place → ℕ
block_place b p = (p.row - b.down.first) * b.across.count + (p.column - b.across.first)

abbrev pub place_in : Block → Place → ℕ
place_in b p = cond (has_place b p) (block_place b p) (count_of b)

-- the same where a place that is none of it has none
abbrev pub IsPlaceIn : Block → Place → Option ℕ → Type 0
IsPlaceIn b p r = r ≡ cond (has_place b p) (Some (block_place b p)) None

-- r is the place of a sheet in the cover, the only one, or behind the last if there is none
pub record Stands (cover : List ℕ) (sheet r : ℕ) : Type 0 where
  pub few : r ≤ length cover
  pub is : r < length cover → get_or cover r 0 ≡ sheet
  pub only : (i : ℕ) → i < length cover → get_or cover i 0 ≡ sheet → i ≡ r

-- and here too
abbrev pub IsPlaceOf : List ℕ → ℕ → Option ℕ → Type 0
IsPlaceOf cover sheet (Some r) = (r < length cover) × Stands cover sheet r
IsPlaceOf cover sheet None = Stands cover sheet (length cover)

-- there is a mark for each place of the cover, which is set if its sheet is one of these
pub record Marked (cover sheets : List ℕ) (marks : List Bool) : Type 0 where
  pub room : length cover ≤ length marks
  pub each : (i : ℕ) → i < length cover → get_or marks i false ≡ is_in sheets (get_or cover i 0)

-- the sheet of a place that has no mark is missing; if each of n places has one, the delivery is whole
abbrev pub marked_place : List ℕ → List Bool → ℕ → Paper Unit
marked_place cover marks place = refuse 27 at get_or cover place 0 unless get_or marks place false

unfoldable pub all_marked : List ℕ → List Bool → ℕ → Paper ℕ
all_marked cover marks n = do
  in_turn (marked_place cover marks) (from 0 n)
  answer n
