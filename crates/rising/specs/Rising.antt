-- Strictly rising lists of numbers under a judge, who says of a number what is wrong with it, if anything. Document 01, "Shelf list" and
-- "Numbers of refusal"; document 02, f).
use Rattle.std.specs.Prelude.{ℕ, zero, suc, ◌+◌, ◌≤◌, ◌<◌, ◌≡◌, List, [], ◌∷◌, leb, length, get_or, take}
use Rattle.refusal.specs.Paper.{Paper, answer, refuse◌unless◌, ◌>>◌}

-- "the first faulty place from the front with 3 before 15": at a place the judge's refusal comes before 15. least is the least number that
-- may come next, 0 at first and then one more than the number before
unfoldable pub rising_from : (ℕ → Paper Unit) → ℕ → List ℕ → Paper Unit
rising_from judge least [] = answer tt
rising_from judge least (number ∷ numbers) = do
  judge number
  refuse 15 unless leb least number
  rising_from judge (number + 1) numbers

-- "A set of at most 4 096 sheets, strictly rising": of numbers that a judge finds fine, and for any limit
pub record IsSet (judge : ℕ → Paper Unit) (limit : ℕ) (numbers : List ℕ) : Type 0 where
  pub few : length numbers ≤ limit
  pub each : (i : ℕ) → i < length numbers → judge (get_or numbers i 0) ≡ answer tt
  pub rising : (i : ℕ) → i + 1 < length numbers → get_or numbers i 0 < get_or numbers (i + 1) 0

-- ---- without going from place to place: which lists pass, and which are refused

-- the least number that may stand at a place
abbrev pub least_at : ℕ → List ℕ → ℕ → ℕ
least_at least numbers zero = least
least_at least numbers (suc i) = get_or numbers i 0 + 1

-- each number is fine, and they rise
pub record Rises (judge : ℕ → Paper Unit) (least : ℕ) (numbers : List ℕ) : Type 0 where
  pub each : (i : ℕ) → i < length numbers → judge (get_or numbers i 0) ≡ answer tt
  pub rising : (i : ℕ) → i < length numbers → least_at least numbers i ≤ get_or numbers i 0

-- the first faulty place: what stands in front of it rises, and this is what is wrong with the number there
pub record FirstFault (judge : ℕ → Paper Unit) (least : ℕ) (numbers : List ℕ) (why : Paper Unit) : Type 0 where
  pub place : ℕ
  pub inside : place < length numbers
  pub front : Rises judge least (take place numbers)
  pub fault : (judge (get_or numbers place 0) >> refuse 15 unless leb (least_at least numbers place) (get_or numbers place 0)) ≡ why
