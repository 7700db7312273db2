-- The kinds of shelf list: what they differ in, and nothing else. Document 01, "Shelf list", has lists of sheets, and document 02, g), lists
-- of holdings.
use Rattle.std.specs.Prelude.{ℕ, ◌+◌, ◌-◌}
use Rattle.refusal.specs.Paper.{Paper, answer, refuse◌unless◌, ◌>>◌}
use Rattle.division.specs.Words.{◌≤?◌, between}
use Rattle.division.specs.Sheet.{is_sheet}
use Rattle.holding.specs.Holding as h

pub record Kind : Type 0 where
  -- the number with which a list of so many begins
  pub begins : ℕ → ℕ
  -- and back: the count that a first number tells, or what is wrong with it
  pub count : ℕ → Paper ℕ
  -- what is wrong with a number of a set, if anything; one above the last gets the refusal that is handed in, 3 or 13
  pub judge : ℕ → ℕ → Paper Unit
  -- the holding that a number stands for
  pub holds : ℕ → ℕ

abbrev pub of_sheets : Kind
of_sheets = record {
  -- "First the count"
  begins = λ count. count;
  -- "a count over 4 096 gives 12"
  count = λ first. (refuse 12 unless first ≤? 4_096) >> answer first;
  -- "3: sheet number above 7 953 173", "13: list runs past the last sheet"
  judge = λ above sheet. refuse above unless is_sheet sheet;
  -- "an old list is that of a set with product 0 throughout"
  holds = λ sheet. h.holding_of sheet 0;
}

abbrev pub of_holdings : Kind
of_holdings = record {
  -- "The new list begins with 8 192 plus the count"
  begins = λ count. 8_192 + count;
  -- "8 192 to 12 288", which tell counts of 0 to 4 096, "and any other is 12"
  count = λ first. (refuse 12 unless between 8_192 12_288 first) >> answer (first - 8_192);
  -- "for them 3 and 13 mean above 23 859 521"; "24 .. after 13 in reading and after 3 in writing"
  judge = h.judge;
  holds = λ holding. holding;
}

-- the two by their names
pub data KindName : Type 0 where
  Sheets : KindName
  Holdings : KindName

abbrev pub kind_of : KindName → Kind
kind_of Sheets = of_sheets
kind_of Holdings = of_holdings
