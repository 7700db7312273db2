-- When two names are the same. Document 02, c): "Document 01's rule that names are the same when their bytes are the same was wrong."
use Rattle.std.specs.Prelude.{ℕ, ◌≡◌, Bool, true, false, cond, ◌&&◌, List, [], ◌∷◌}
use Prim.Native.Char.{code}
use Rattle.std.specs.Prelude.{Option, Some, None}
use Rattle.division.specs.Words.{◌=?◌}

-- a letter, of one byte; the mark behind it and the single letter that they are joined into, of two bytes each
pub record Row : Type 0 where
  pub letter : ℕ
  pub mark : ℕ × ℕ
  pub single : ℕ × ℕ

infix 68 ◌with◌is◌
abbrev pub ◌with◌is◌ : ℕ → ℕ × ℕ → ℕ × ℕ → Row
a with mark is single = record { letter = a; mark = mark; single = single }

-- "joining c, s, z and C, S, Z with CC 8C, and c and C with CC 81, into the Unicode single letters: č C4 8D, š C5 A1, ž C5 BE, Č C4 8C,
-- Š C5 A0, Ž C5 BD, ć C4 87, Ć C4 86"
unfoldable pub table : List Row
table =
    code "c" with (0xCC, 0x8C) is (0xC4, 0x8D) ∷
    code "s" with (0xCC, 0x8C) is (0xC5, 0xA1) ∷
    code "z" with (0xCC, 0x8C) is (0xC5, 0xBE) ∷
    code "C" with (0xCC, 0x8C) is (0xC4, 0x8C) ∷
    code "S" with (0xCC, 0x8C) is (0xC5, 0xA0) ∷
    code "Z" with (0xCC, 0x8C) is (0xC5, 0xBD) ∷
    code "c" with (0xCC, 0x81) is (0xC4, 0x87) ∷
    code "C" with (0xCC, 0x81) is (0xC4, 0x86) ∷ []

-- the single letter of three bytes, by the first of these rows whose mark and letter they are
unfoldable pub single_in : List Row → ℕ → ℕ → ℕ → Option (ℕ × ℕ)
single_in [] a m n = None
single_in (row ∷ rows) a m n = cond (m =? row.mark.0 && (n =? row.mark.1 && a =? row.letter)) (Some row.single) (single_in rows a m n)

abbrev pub single : ℕ → ℕ → ℕ → Option (ℕ × ℕ)
single a m n = single_in table a m n

-- a single letter in front of what is joined behind it, or, where there is none, the bytes kept: "Nothing else is joined"
abbrev pub put : Option (ℕ × ℕ) → List ℕ → List ℕ → List ℕ
put (Some letter) behind kept = letter.0 ∷ letter.1 ∷ behind
put None behind kept = kept

-- from left to right
unfoldable pub joined : List ℕ → List ℕ
joined [] = []
joined (a ∷ []) = a ∷ []
joined (a ∷ m ∷ []) = a ∷ m ∷ []
joined (a ∷ m ∷ n ∷ bytes) = put (single a m n) (joined bytes) (a ∷ joined (m ∷ n ∷ bytes))

-- "Names are the same when they are equal after joining"
abbrev pub SameName : List ℕ → List ℕ → Type 0
SameName a b = joined a ≡ joined b

-- the same as a test, byte for byte (proofs/NameTheorems, `same-tested`)
unfoldable pub same_bytes : List ℕ → List ℕ → Bool
same_bytes [] [] = true
same_bytes [] (b ∷ y) = false
same_bytes (a ∷ x) [] = false
same_bytes (a ∷ x) (b ∷ y) = a =? b && same_bytes x y

abbrev pub is_same_name : List ℕ → List ℕ → Bool
is_same_name a b = same_bytes (joined a) (joined b)
