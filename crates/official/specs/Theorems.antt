-- The words of the theorems that tie the list and the answers to document 02's sentences. Nothing here is part of a promise.
use Rattle.std.specs.Prelude.{ℕ, ◌≤◌, ◌<◌, ◌≡◌, true, List, [], ◌∷◌, ◌++◌, length, get_or}
use Prim.Native.Char.{code}
use Rattle.std.specs.Prelude.{Some, None}
use Rattle.refusal.specs.Paper.{answer}
use Rattle.division.specs.Sheet.{scale_of}
use Rattle.label.specs.Label.{read_label}
use Rattle.names.specs.Name.{SameName}
use Rattle.catalogue.specs.Line.{has_name, name_in, is_name, read_line}
use Rattle.official.specs.List.{Row, official}
use Rattle.official.specs.Lookup.{name_of}

-- a row of the list, counted from 0, and one without a byte where there is none
abbrev pub no_row : Row
no_row = record { label = []; name = [] }

abbrev pub row_at : ℕ → Row
row_at i = get_or official i no_row

-- a row as a catalogue line
abbrev pub line_of : Row → List ℕ
line_of row = row.label ++ (code " " ∷ row.name)

-- what each row is: its label names a 1:250 000 sheet, its name could stand in a line, and the line of both has that sheet and that name
pub record Sound (row : Row) : Type 0 where
  pub sheet : ℕ
  pub reads : read_label row.label ≡ answer sheet
  pub scale : scale_of sheet ≡ 1
  pub stands : is_name row.name ≡ true
  pub line : read_line (line_of row) ≡ answer sheet
  pub named : has_name (line_of row) ≡ true
  pub name : name_in (line_of row) ≡ row.name

-- the list has a name under a sheet's label
pub record Under (n : ℕ) (name : List ℕ) : Type 0 where
  pub place : ℕ
  pub listed : place < 15
  pub label : read_label (row_at place).label ≡ answer n
  pub is : (row_at place).name ≡ name

-- .. of so many bytes, for which there is room
pub record Written (n room count : ℕ) : Type 0 where
  pub name : List ℕ
  pub under : Under n name
  pub long : length name ≡ count
  pub fits : count ≤ room

-- the list has a name that is the same as this one, by the comparison of c), under a sheet's label
pub record Called (name : List ℕ) (n : ℕ) : Type 0 where
  pub place : ℕ
  pub listed : place < 15
  pub same : SameName name (row_at place).name
  pub label : read_label (row_at place).label ≡ answer n

-- the three answers of the check. The line is of a sheet, and
-- .. has its official name
pub record Agrees (line : List ℕ) : Type 0 where
  pub sheet : ℕ
  pub read : read_line line ≡ answer sheet
  pub name : List ℕ
  pub listed : name_of sheet ≡ Some name
  pub named : has_name line ≡ true
  pub same : SameName (name_in line) name

-- .. which is listed, has another name or none
pub record Differs (line : List ℕ) : Type 0 where
  pub sheet : ℕ
  pub read : read_line line ≡ answer sheet
  pub name : List ℕ
  pub listed : name_of sheet ≡ Some name
  pub other : has_name line ≡ true → SameName (name_in line) name → ⊥

-- .. which is of 1:250 000, has no official name
pub record NotListed (line : List ℕ) : Type 0 where
  pub sheet : ℕ
  pub read : read_line line ≡ answer sheet
  pub scale : scale_of sheet ≡ 1
  pub listed : name_of sheet ≡ None
