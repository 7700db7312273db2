-- Holdings: sheets with a product, and their numbers. Document 02, g).
use Rattle.std.specs.Prelude.{ℕ, ◌+◌, ◌*◌, ◌/◌, ◌%◌, ◌<◌, ◌≡◌, Bool, ◌&&◌, ◌||◌, List, length, get_or}
use Rattle.refusal.specs.Paper.{Paper, answer, refuse◌unless◌, ◌>>◌}
use Rattle.division.specs.Words.{◌≤?◌, ◌=?◌, between}
use Rattle.division.specs.Sheet.{is_sheet, scale_of}
use Rattle.holding.specs.declared.Task.{Task}
use Rattle.holding.specs.declared.Task.TheVariants.{Writing, Reading}
use Rattle.holding.specs.declared.Parts.{Parts}

-- "A holding becomes a sheet with a product: 0 unstated, 1 the first product of the scale, 2 the second, which only scales 6 and 7 have"
abbrev pub has_product : ℕ → ℕ → Bool
has_product scale product = product ≤? 1 || (product =? 2 && between 6 7 scale)

-- "each holding's number is three times the sheet number plus the product", and back
abbrev pub holding_of : ℕ → ℕ → ℕ
holding_of sheet product = 3 * sheet + product

abbrev pub sheet_in : ℕ → ℕ
sheet_in number = number / 3

abbrev pub product_in : ℕ → ℕ
product_in number = number % 3

-- "a set with product 0 throughout"
abbrev pub Unstated : List ℕ → Type 0
Unstated set = (i : ℕ) → i < length set → product_in (get_or set i 0) ≡ 0

-- "Holdings are lent and placed as these numbers; for them 3 and 13 mean above 23 859 521": 3 in writing, and 13 in reading
abbrev pub past : Task → ℕ
past Writing = 3
past Reading = 13

-- "Refusals: 24, a product the scale doesn't have, after 13 in reading and after 3 in writing": one above the last gets the refusal that is
-- handed in, 3 or 13
unfoldable pub judge : ℕ → ℕ → Paper Unit
judge above number = do
  refuse above unless number ≤? 23_859_521
  refuse 24 unless has_product (scale_of (sheet_in number)) (product_in number)

-- sheet and product to the holding's number
unfoldable pub holding : ℕ → ℕ → Paper ℕ
holding sheet product = do
  refuse 3 unless is_sheet sheet
  refuse 24 unless has_product (scale_of sheet) product
  answer (holding_of sheet product)

-- and back
unfoldable pub parts_of : ℕ → Paper Parts
parts_of number = do
  judge 3 number
  answer (record { sheet = sheet_in number; product = product_in number })
