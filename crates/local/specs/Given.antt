-- What the inner functions take for granted and give: the public ones test it first.
use Rattle.std.specs.Prelude.{ℕ, ◌+◌, ◌≤◌, ◌<◌, ◌≡◌, true, List, length}
use Rattle.refusal.specs.Paper.{answer}
use Rattle.division.specs.Words.{◌<?◌, keep}
use Rattle.division.specs.Sheet.{is_sheet, scale_of}
use Rattle.municipality.specs.Municipality.{municipality}

-- a 1:1 000 or a 1:500 sheet
pub record Part (k : ℕ) : Type 0 where
  pub sheet : is_sheet k ≡ true
  pub scale : 8 ≤ scale_of k

pub record Municipal (sheets : List ℕ) : Type 0 where
  pub is : municipality sheets ≡ answer tt

-- how many of a list are below a bound
abbrev pub count_below : ℕ → List ℕ → ℕ
count_below bound l = length (keep (λ x. x <? bound) l)

-- at most 400 numbers, at least n of them below a bound, n from 1
pub record Reaches (l : List ℕ) (n bound : ℕ) : Type 0 where
  pub few : length l ≤ 400
  pub one : 1 ≤ n
  pub enough : n ≤ count_below bound l

-- fewer than n are below x, and with x itself at least n
pub record IsNth (l : List ℕ) (n bound x : ℕ) : Type 0 where
  pub low : x < bound
  pub few : count_below x l < n
  pub enough : n ≤ count_below (x + 1) l
