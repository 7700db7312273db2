-- What is wrong with a label, in the words of document 02, b), over its bytes and fields and without any reading: for the theorems on
-- refusals and their places.
use Rattle.std.specs.Prelude.{ℕ, ◌+◌, ◌-◌, ◌*◌, ◌<◌, ◌≡◌, Bool, true, false, not, cond, ◌&&◌, ◌||◌, List, length, get_or, drop}
use Prim.Native.Char.{code}
use Rattle.refusal.specs.Paper.{Paper, answer, refused, refuse◌unless◌, ◌>>◌}
use Rattle.division.specs.Words.{◌<?◌, ◌=?◌, between}
use Rattle.division.specs.Table.{Made, of_area, of_scale, is_scale, made}
use Rattle.division.specs.Sheet.{sheet_of}
use Rattle.division.specs.Given.{IsScale}
use Rattle.label.specs.Text.{every, split}
use Rattle.label.specs.Label.{mark_of, count_of, ranges, place_from, scale_with, is_label_byte, well_formed, start_of, numbers_in}

-- "the first" place with a property
pub record First (test : ℕ → Bool) (place : ℕ) : Type 0 where
  pub there : test place ≡ true
  pub before : (k : ℕ) → k < place → test k ≡ false

-- a place of a list whose entry fails a test
abbrev pub fails_at : {A : Type 0} → (A → Bool) → A → List A → ℕ → Bool
fails_at test none xs k = k <? length xs && not (test (get_or xs k none))

-- "a byte that is neither digit nor hyphen"
abbrev pub is_strange : List ℕ → ℕ → Bool
is_strange label k = fails_at is_label_byte 0 label k

-- a field begins at the label's start or behind a hyphen, and it is closed by a "hyphen or label end"
abbrev pub begins : List ℕ → ℕ → Bool
begins label k = k =? 0 || get_or label (k - 1) 0 =? code "-"

abbrev pub closes : List ℕ → ℕ → Bool
closes label k = k =? length label || get_or label k 0 =? code "-"

-- "an empty field or leading zero": what begins here is closed here, or begins with a zero and is not closed behind it
abbrev pub is_faulty : List ℕ → ℕ → Bool
is_faulty label k = begins label k && (closes label k || get_or label k 0 =? code "0" && not (closes label (k + 1)))

-- a scale that has this first number and this count of fields
pub record Named (m n s : ℕ) : Type 0 where
  pub scale : IsScale s
  pub mark : mark_of s ≡ m
  pub count : 1 + count_of (made s) ≡ n

abbrev pub NamedBy : List ℕ → ℕ → Type 0
NamedBy label s = Named (get_or (numbers_in label) 0 0) (length (numbers_in label)) s

-- a field out of range, counted from 0 behind the first number
abbrev pub is_out : ℕ → List ℕ → ℕ → Bool
is_out s label k = fails_at (λ good. good) true (ranges (made s) (drop 1 (numbers_in label))) k

-- the refusals with their places, by kind: 4, 19, 20, 21, 5
pub data Wrong (label : List ℕ) : ℕ → ℕ → Type 0 where
  -- "4 stays for empty or over 16 bytes": "0 for an empty label .., 16 for one too long"
  empty : length label ≡ 0 → Wrong label 4 0
  long : 16 < length label → Wrong label 4 16
  -- "19 a byte that is neither digit nor hyphen"
  strange : {place : ℕ} → between 1 16 (length label) ≡ true → First (is_strange label) place → Wrong label 19 place
  -- "20 an empty field or leading zero": "the hyphen or label end that closes an empty field"
  faulty : {place : ℕ} → between 1 16 (length label) ≡ true → every is_label_byte label ≡ true → First (is_faulty label) place → Wrong label 20 place
  -- "21 an unknown first number or count of fields": "0 for .. 21"
  unknown : well_formed label ≡ true → ((s : ℕ) → NamedBy label s → ⊥) → Wrong label 21 0
  -- "for 5 the start of the first field out of range"
  out : {s k : ℕ} → well_formed label ≡ true → NamedBy label s → First (is_out s label) k → Wrong label 5 (start_of (1 + k) (split (code "-") label))

-- "Which labels are accepted does not change": document 01's reading, with 4 for every fault of form, one test for all ranges and no place,
-- and what is read now told in its numbers
unfoldable pub in_range_before : Made → List ℕ → Bool
in_range_before (of_area r c) fields = between 101 (100 + r) (get_or fields 0 0) && between 1 c (get_or fields 1 0)
in_range_before (of_scale s m k) fields = between 1 (k * k) (get_or fields 0 0) && in_range_before m (drop 1 fields)

unfoldable pub read_before : List ℕ → Paper ℕ
read_before bytes = do
  let numbers = numbers_in bytes
  let s = scale_with (get_or numbers 0 0) (length numbers)
  refuse 4 unless well_formed bytes
  refuse 4 unless is_scale s
  refuse 5 unless in_range_before (made s) (drop 1 numbers)
  answer (sheet_of s (place_from (made s) (drop 1 numbers)))

abbrev pub as_before : Paper ℕ → Paper ℕ
as_before (answer n) = answer n
as_before (refused number place) = refused (cond (number =? 5) 5 4) 0
