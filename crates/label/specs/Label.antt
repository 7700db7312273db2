-- Labels. Document 01, "Labels"; document 02, b), for the refusals and their places.
use Rattle.std.specs.Prelude.{ℕ, ◌+◌, ◌-◌, ◌*◌, Bool, true, false, not, ◌&&◌, ◌||◌, length, get_or, take, drop}
use Prim.Native.Char.{code}
use mathlib.Core.List.{List, [], ◌∷◌, ◌++◌, map, flat_map}
use Rattle.refusal.specs.Paper.{Paper, answer, refuse◌at◌unless◌, refuse◌unless◌, ◌>>◌, ◌>>=◌, laid}
use Rattle.division.specs.declared.Place.{Place}
use Rattle.division.specs.Words.{◌≤?◌, ◌=?◌, between}
use Rattle.division.specs.Table.{Made, of_area, of_scale, is_scale, the_scale, made}
use Rattle.division.specs.Sheet.{number_in, parent_place, child_place, is_sheet, sheet_of, scale_of, place_of}
use Rattle.label.specs.Text.{every, first_not, split, join, value, decimal}

-- "Fields": the first number of a scale's labels, for scales 1 to 9; there is no scale 0
abbrev pub marks : List ℕ
marks = 0 ∷ 250 ∷ 100 ∷ 50 ∷ 25 ∷ 10 ∷ 5 ∷ 2 ∷ 1 ∷ 5 ∷ []

unfoldable pub mark_of : ℕ → ℕ
mark_of s = get_or marks s 0

-- the fields after it: the row counted from 101 and the column from 1; before them the number in the parent, and the parent's fields
unfoldable pub fields_of : Made → Place → List ℕ
fields_of (of_area r c) p = (101 + p.row) ∷ (1 + p.column) ∷ []
fields_of (of_scale s m k) p = number_in k p ∷ fields_of m (parent_place k p)

-- how many they are
unfoldable pub count_of : Made → ℕ
count_of (of_area r c) = 2
count_of (of_scale s m k) = 1 + count_of m

-- of each of them, whether it is in range
unfoldable pub ranges : Made → List ℕ → List Bool
ranges (of_area r c) fields = between 101 (100 + r) (get_or fields 0 0) ∷ between 1 c (get_or fields 1 0) ∷ []
ranges (of_scale s m k) fields = between 1 (k * k) (get_or fields 0 0) ∷ ranges m (drop 1 fields)

-- "5: a label field out of range"; and the first such field, counted from 0
unfoldable pub in_range : Made → List ℕ → Bool
in_range m fields = every (λ good. good) (ranges m fields)

unfoldable pub first_out : Made → List ℕ → ℕ
first_out m fields = first_not (λ good. good) (ranges m fields)

-- the place that they name
unfoldable pub place_from : Made → List ℕ → Place
place_from (of_area r c) fields = record { row = get_or fields 0 0 - 101; column = get_or fields 1 0 - 1 }
place_from (of_scale s m k) fields = child_place k (place_from m (drop 1 fields)) (get_or fields 0 0)

-- "The first number and the count of fields together decide the scale"
unfoldable pub scale_with : ℕ → ℕ → ℕ
scale_with mark count = the_scale λ s. mark_of s =? mark && 1 + count_of (made s) =? count

-- "21 an unknown first number or count of fields": "0 for .. 21"
abbrev pub scale_named : ℕ → ℕ → Paper ℕ
scale_named mark count = do
  refuse 21 at 0 unless is_scale (scale_with mark count)
  answer (scale_with mark count)

-- "only digits and hyphens"
abbrev pub is_label_byte : ℕ → Bool
is_label_byte b = between (code "0") (code "9") b || b =? code "-"

-- "no empty field, no leading zero (a field "0" alone is well formed)"
abbrev pub is_field : List ℕ → Bool
is_field [] = false
is_field (d ∷ []) = true
is_field (d ∷ e ∷ ds) = not (d =? code "0")

-- "1 to 16 bytes, only digits and hyphens, no empty field, no leading zero"
unfoldable pub well_formed : List ℕ → Bool
well_formed bytes = (between 1 16 (length bytes) && every is_label_byte bytes) && every is_field (split (code "-") bytes)

-- where a field begins, counted from 0: behind those in front of it, each with its hyphen. An empty field begins at the hyphen or label end
-- that closes it
unfoldable pub start_of : ℕ → List (List ℕ) → ℕ
start_of k fields = length (flat_map (λ field. field ++ (code "-" ∷ [])) (take k fields))

-- what is wrong with the form, and "the place of the first offending byte". "4 stays for empty or over 16 bytes": "0 for an empty label ..,
-- 16 for one too long"; "19 a byte that is neither digit nor hyphen; 20 an empty field or leading zero": "the hyphen or label end that
-- closes an empty field", or the zero
unfoldable pub formed : List ℕ → Paper Unit
formed bytes = do
  let fields = split (code "-") bytes
  refuse 4 at 0 unless 1 ≤? length bytes
  refuse 4 at 16 unless length bytes ≤? 16
  refuse 19 at first_not is_label_byte bytes unless every is_label_byte bytes
  refuse 20 at start_of (first_not is_field fields) fields unless every is_field fields

-- the numbers of the fields, the first number first
abbrev pub numbers_in : List ℕ → List ℕ
numbers_in bytes = map value (split (code "-") bytes)

-- the sheet of a scale that a label names by the fields behind its first. "Then ranges": "for 5 the start of the first field out of range"
unfoldable pub sheet_named : ℕ → List ℕ → Paper ℕ
sheet_named s bytes = do
  let fields = drop 1 (numbers_in bytes)
  refuse 5 at start_of (1 + first_out (made s) fields) (split (code "-") bytes) unless in_range (made s) fields
  answer (sheet_of s (place_from (made s) fields))

-- label to sheet. "Form first: .., a known first number with its count of fields". "Refusals: 4, 19, 20, 21, 5"
unfoldable pub read_label : List ℕ → Paper ℕ
read_label bytes = do
  let numbers = numbers_in bytes
  formed bytes
  s ← scale_named (get_or numbers 0 0) (length numbers)
  sheet_named s bytes

-- sheet to label
unfoldable pub label_of : ℕ → List ℕ
label_of n = join (code "-") (map decimal (mark_of (scale_of n) ∷ fields_of (made (scale_of n)) (place_of n)))

-- "Label writing: 3, 10"
unfoldable pub write_label : ℕ → ℕ → Paper (List ℕ)
write_label n room = do
  refuse 3 unless is_sheet n
  laid (label_of n) room

-- the length of a sheet's label by itself
unfoldable pub label_length : ℕ → Paper ℕ
label_length n = do
  refuse 3 unless is_sheet n
  answer (length (label_of n))
