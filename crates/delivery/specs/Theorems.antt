-- The words of the theorems on deliveries. Nothing here is part of a promise.
use Rattle.std.specs.Prelude.{ℕ, ◌+◌, ◌<◌, ◌≡◌, cond, length, get_or}
use mathlib.Core.List.{List, [], ◌∷◌, Memᴰ}
use Rattle.division.specs.Words.{◌=?◌}

-- how often a number occurs in a list
unfoldable pub occurs : ℕ → List ℕ → ℕ
occurs k [] = 0
occurs k (x ∷ l) = cond (k =? x) (1 + occurs k l) (occurs k l)

-- "each sheet of the cover occurs once and nothing else does"
pub record EachOnce (cover sheets : List ℕ) : Type 0 where
  pub each : (k : ℕ) → Memᴰ k cover → occurs k sheets ≡ 1
  pub nothing-else : (k : ℕ) → (Memᴰ k cover → ⊥) → occurs k sheets ≡ 0

-- no place before this one is bad: each sheet is of the cover, and none stands at two places
pub record GoodBefore (cover sheets : List ℕ) (place : ℕ) : Type 0 where
  pub of-cover : (i : ℕ) → i < place → Memᴰ (get_or sheets i 0) cover
  pub once : (i j : ℕ) → i < j → j < place → get_or sheets i 0 ≡ get_or sheets j 0 → ⊥

-- "25 a sheet not of the cover", at the first bad place
pub record NotOfCover (cover sheets : List ℕ) (place : ℕ) : Type 0 where
  pub inside : place < length sheets
  pub first : GoodBefore cover sheets place
  pub strange : Memᴰ (get_or sheets place 0) cover → ⊥

-- "26 a sheet seen before", at the first bad place
pub record SeenBefore (cover sheets : List ℕ) (place : ℕ) : Type 0 where
  pub inside : place < length sheets
  pub first : GoodBefore cover sheets place
  pub earlier : ℕ
  pub before : earlier < place
  pub same : get_or sheets earlier 0 ≡ get_or sheets place 0

-- "27 a sheet missing", "the first missing sheet in cover order": no place of the delivery is bad, this sheet of the cover is missing, and
-- none before it in the cover is
pub record FirstMissing (cover sheets : List ℕ) (sheet : ℕ) : Type 0 where
  pub good : GoodBefore cover sheets (length sheets)
  pub place : ℕ
  pub inside : place < length cover
  pub is : get_or cover place 0 ≡ sheet
  pub missing : Memᴰ sheet sheets → ⊥
  pub first : (i : ℕ) → i < place → Memᴰ (get_or cover i 0) sheets
