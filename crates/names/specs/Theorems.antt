-- The spellings of a letter, over the bytes of a name and without any joining: for the theorems on names.
use Rattle.std.specs.Prelude.{ℕ, ◌≡◌}
use mathlib.Core.List.{List, [], ◌∷◌, ◌++◌, Memᴰ}
use Rattle.names.specs.Name.{Row, table}

-- the letter with its mark behind it, and the single letter
abbrev pub apart : Row → List ℕ
apart row = row.letter ∷ row.mark.0 ∷ row.mark.1 ∷ []

abbrev pub together : Row → List ℕ
together row = row.single.0 ∷ row.single.1 ∷ []

-- bytes that stand somewhere in a name
pub record StandsIn (part name : List ℕ) : Type 0 where
  pub before : List ℕ
  pub after : List ℕ
  pub is : name ≡ before ++ (part ++ after)

-- a name without a mark: neither CC 8C nor CC 81 stands in it
pub record Unmarked (name : List ℕ) : Type 0 where
  pub no-caron : StandsIn (0xCC ∷ 0x8C ∷ []) name → ⊥
  pub no-acute : StandsIn (0xCC ∷ 0x81 ∷ []) name → ⊥

-- one name made from another by typing letters in their other spelling, one after the other
pub data Respelt : List ℕ → List ℕ → Type 0 where
  unchanged : {a b : List ℕ} → a ≡ b → Respelt a b
  letter : {a b : List ℕ} (row : Row) → Memᴰ row table → (before after : List ℕ) → a ≡ before ++ (apart row ++ after) → b ≡ before ++ (together row ++ after) → Respelt a b
  back : {a b : List ℕ} → Respelt b a → Respelt a b
  onwards : {a b : List ℕ} (c : List ℕ) → Respelt a c → Respelt c b → Respelt a b
