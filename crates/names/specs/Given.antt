-- Words of the contracts that the paper does not have.
use Rattle.std.specs.Prelude.{ℕ, ◌≡◌, Bool, true, false, ◌&&◌, List, [], ◌∷◌, Option, Some, None}
use Rattle.division.specs.Words.{◌=?◌}
use Rattle.names.specs.Name.{single}

-- the single letter of the first three bytes
abbrev pub letter_in : List ℕ → Option (ℕ × ℕ)
letter_in [] = None
letter_in (a ∷ []) = None
letter_in (a ∷ m ∷ []) = None
letter_in (a ∷ m ∷ n ∷ bytes) = single a m n

-- the first two bytes
abbrev pub pair_in : List ℕ → Option (ℕ × ℕ)
pair_in [] = None
pair_in (a ∷ []) = None
pair_in (a ∷ b ∷ bytes) = Some (a, b)

-- there are both, and they are the same
abbrev pub is_same : Option (ℕ × ℕ) → Option (ℕ × ℕ) → Bool
is_same (Some letter) (Some pair) = letter.0 =? pair.0 && letter.1 =? pair.1
is_same (Some letter) None = false
is_same None pair = false

-- the one begins with a letter and its mark, and the other with the single letter
abbrev pub is_apart : List ℕ → List ℕ → Bool
is_apart a b = is_same (letter_in a) (pair_in b)

-- r says whether P holds
pub record Tells (r : Bool) (P : Type 0) : Type 0 where
  pub yes : r ≡ true → P
  pub no : r ≡ false → P → ⊥
