-- Local numbers to sheet, and sheet to local numbers. Document 02, f).
use Rattle.std.specs.Prelude.{ℕ, ◌+◌, ◌-◌, cond, List, length, get_or}
use Rattle.refusal.specs.Paper.{Paper, answer, refuse◌unless◌, ◌>>◌, ◌>>=◌}
use Rattle.refusal.specs.Numbers.{is_in}
use Rattle.division.specs.Words.{◌≤?◌, ◌=?◌, between}
use Rattle.division.specs.Table.{side}
use Rattle.division.specs.Sheet.{is_sheet, scale_of, place_of, number_in}
use Rattle.relations.specs.Relations.{parent, child}
use Rattle.local.specs.declared.Local.{Local}
use Rattle.local.specs.declared.Local.TheVariants.{One, Two, Three}
use Rattle.local.specs.declared.Triple.{Triple}
use Rattle.municipality.specs.Municipality.{municipality}
use Rattle.local.specs.Rows.{by_rows, place_in}

-- ---- local numbers to sheet

-- "1:2 000 sheets are numbered from 1 to n"; "a local number that none of its sheets has, gets 6"
unfoldable pub sheet_numbered : List ℕ → ℕ → Paper ℕ
sheet_numbered sheets n = do
  refuse 6 unless between 1 (length sheets) n
  answer (get_or (by_rows sheets) (n - 1) 0)

-- "a 1:1 000 sheet adds its number in that sheet, a 1:500 sheet one more"
abbrev pub part : Paper ℕ → ℕ → ℕ → Paper ℕ
part above scale number = do
  k ← above
  child k scale number

-- the sheet that local numbers stand for
unfoldable pub stands_for : List ℕ → Local → Paper ℕ
stands_for sheets (One n) = sheet_numbered sheets n
stands_for sheets (Two n a) = part (sheet_numbered sheets n) 8 a
stands_for sheets (Three n a b) = part (part (sheet_numbered sheets n) 8 a) 9 b

-- "Refusals: 23 for an empty or too long list; then its first faulty place, ..; then 3 and 6 for what is asked"
unfoldable pub local_to_sheet : List ℕ → Local → Paper ℕ
local_to_sheet sheets local = do
  municipality sheets
  stands_for sheets local

-- ---- sheet to local numbers

-- "numbered from 1 to n by rows"; "A sheet outside it .. gets 6"
unfoldable pub number_of : List ℕ → ℕ → Paper ℕ
number_of sheets k = do
  refuse 6 unless is_in sheets k
  answer (1 + place_in k (by_rows sheets))

-- "its number in that sheet"
abbrev pub part_number : ℕ → ℕ
part_number k = number_in (side (scale_of k)) (place_of k)

-- the local numbers of a 1:2 000 sheet; of a 1:1 000 sheet, which "adds its number in that sheet"; of a 1:500 sheet, which adds "one more"
unfoldable pub one_number : List ℕ → ℕ → Paper Local
one_number sheets k = do
  n ← number_of sheets k
  answer (One n)

unfoldable pub two_numbers : List ℕ → ℕ → Paper Local
two_numbers sheets k = do
  up ← parent k
  n ← number_of sheets up
  answer (Two n (part_number k))

unfoldable pub three_numbers : List ℕ → ℕ → Paper Local
three_numbers sheets k = do
  up ← parent k
  top ← parent up
  n ← number_of sheets top
  answer (Three n (part_number up) (part_number k))

-- "then 3 and 6 for what is asked": local numbers are had "at scales 7, 8 and 9", and a sheet of another is none of the municipality
unfoldable pub numbers_of : List ℕ → ℕ → Paper Local
numbers_of sheets k = do
  let s = scale_of k
  refuse 3 unless is_sheet k
  refuse 6 unless 7 ≤? s
  cond (s =? 7) (one_number sheets k) (cond (s =? 8) (two_numbers sheets k) (three_numbers sheets k))

-- the list first, as above
unfoldable pub sheet_to_local : List ℕ → ℕ → Paper Local
sheet_to_local sheets k = do
  municipality sheets
  numbers_of sheets k

-- ---- local numbers as three, absent ones 0

abbrev pub from_three : ℕ → ℕ → ℕ → Local
from_three n a b = cond (b =? 0) (cond (a =? 0) (One n) (Two n a)) (Three n a b)

abbrev pub as_three : Local → Triple
as_three (One n) = record { n = n; a = 0; b = 0 }
as_three (Two n a) = record { n = n; a = a; b = 0 }
as_three (Three n a b) = record { n = n; a = a; b = b }
