-- Bytes: quoted text, pieces between marks, decimal numbers.
use Rattle.std.specs.Prelude.{ℕ, zero, suc, ◌+◌, ◌-◌, ◌*◌, ◌/◌, ◌%◌, ◌^◌, Bool, true, cond, ◌&&◌, length}
use Prim.Native.Char.{code}
use Prim.Native.String as quoted
use Prim.Native.String.{String}
use mathlib.Core.List.{List, [], ◌∷◌, ◌++◌, flat_map}
use Rattle.division.specs.Words.{◌≤?◌, ◌=?◌}

-- the bytes of a quoted text of plain letters, digits and signs
unfoldable pub text : String → List ℕ
text quoted.[] = []
text (quoted.◌∷◌ c s) = code c ∷ text s

-- all of a list pass a test
unfoldable pub every : {A : Type 0} → (A → Bool) → List A → Bool
every test [] = true
every test (x ∷ xs) = test x && every test xs

-- where the first of a list stands that fails a test; behind the last where all pass
unfoldable pub first_not : {A : Type 0} → (A → Bool) → List A → ℕ
first_not test [] = 0
first_not test (x ∷ xs) = cond (test x) (1 + first_not test xs) 0

-- a byte in front of the first piece; where there is none, it begins one
abbrev pub on_first : ℕ → List (List ℕ) → List (List ℕ)
on_first b [] = (b ∷ []) ∷ []
on_first b (piece ∷ pieces) = (b ∷ piece) ∷ pieces

-- the pieces between the marks, one more than there are marks
unfoldable pub split : ℕ → List ℕ → List (List ℕ)
split mark [] = [] ∷ []
split mark (b ∷ bytes) = cond (b =? mark) ([] ∷ split mark bytes) (on_first b (split mark bytes))

-- the first piece, and each other behind a mark
unfoldable pub join : ℕ → List (List ℕ) → List ℕ
join mark [] = []
join mark (piece ∷ pieces) = piece ++ flat_map (λ other. mark ∷ other) pieces

-- the number that decimal digits stand for
unfoldable pub value : List ℕ → ℕ
value [] = 0
value (d ∷ ds) = (d - code "0") * 10 ^ length ds + value ds

-- the last k decimal digits of a number
unfoldable pub digits : ℕ → ℕ → List ℕ
digits zero n = []
digits (suc k) n = digits k (n / 10) ++ ((code "0" + n % 10) ∷ [])

-- no zero at the front with a digit behind it
unfoldable pub without_zeros : List ℕ → List ℕ
without_zeros [] = []
without_zeros (d ∷ ds) = cond (d =? code "0" && 1 ≤? length ds) (without_zeros ds) (d ∷ ds)

-- a number in decimal, without leading zeros; no number that is written has more than twenty digits
unfoldable pub decimal : ℕ → List ℕ
decimal n = without_zeros (digits 20 n)
