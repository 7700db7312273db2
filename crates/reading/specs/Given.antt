-- What the inner functions take for granted and give: the public ones test it first.
use Rattle.std.specs.Prelude.{ℕ, ◌+◌, ◌*◌, ◌^◌, ◌≤◌, ◌<◌, ◌≡◌, Bool, cond, List, [], ◌∷◌, length, drop, Option, Some, None}
use Prim.Native.Char.{code}
use Rattle.division.specs.Words.{between}
use Rattle.division.specs.Table.{first}
use Rattle.label.specs.Text.{value}
use Rattle.label.specs.Label.{is_label_byte, is_field, well_formed, numbers_in}
use Rattle.reckoning.specs.declared.Named.{Named}
use Rattle.reckoning.specs.Given.{corners_at}
use Rattle.reading.specs.declared.Front.{Front}
use Rattle.reading.specs.declared.numbers.Run.{Run}

abbrev pub is_digit : ℕ → Bool
is_digit b = between (code "0") (code "9") b

-- what bytes begin with, as long as each passes a test
unfoldable pub beginning : (ℕ → Bool) → List ℕ → List ℕ
beginning test [] = []
beginning test (b ∷ bytes) = cond (test b) (b ∷ beginning test bytes) []

-- the digits from a place on, behind those of a number: the number that all of them make, and the place behind them
abbrev pub digits_from : List ℕ → ℕ → ℕ → Run
digits_from bytes at front =
    let ds = beginning is_digit (drop at bytes) in
    record { value = front * 10 ^ length ds + value ds; end = at + length ds }

-- a field by its first digit and the digits from a place on; where it has a leading zero, a place beyond any label
abbrev pub field_from : List ℕ → ℕ → ℕ → Run
field_from bytes first at =
    let ds = beginning is_digit (drop at bytes) in
    cond (is_field (first ∷ ds)) (record { value = value (first ∷ ds); end = at + length ds }) (record { value = 0; end = 17 })

-- the numbers of a label that is well formed, and none of any other
unfoldable pub numbers_of : List ℕ → List ℕ
numbers_of bytes = cond (well_formed bytes) (numbers_in bytes) []

-- the digits and hyphens that bytes begin with were read as a label, which ends at a place
pub record Found (bytes numbers : List ℕ) (end : ℕ) : Type 0 where
  pub are : numbers ≡ numbers_of (beginning is_label_byte bytes)
  pub some : 0 < length numbers
  pub within : end ≤ length bytes
  pub ends : end ≡ length (beginning is_label_byte bytes)

-- or they are no label
abbrev pub IsScanned : List ℕ → List ℕ → Option ℕ → Type 0
IsScanned bytes numbers (Some end) = Found bytes numbers end
IsScanned bytes numbers None = numbers_of (beginning is_label_byte bytes) ≡ []

-- the sheet that is named, its corners, and where its label ends
abbrev pub front_at : Named → ℕ → Front
front_at named end = record { sheet = first named.scale + named.reach.index; corners = corners_at named.scale named.reach; end = end }
