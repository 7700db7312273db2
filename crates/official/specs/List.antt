-- The fifteen official names. Document 02, d): "Put in the 1:250 000 names of source document 000 section 4.1, each under its label".
use Rattle.std.specs.Prelude.{ℕ, ◌+◌, ◌/◌, ◌%◌, cond, List, [], ◌∷◌, ◌++◌}
use Prim.Native.Char.{code}
use Prim.Native.String as quoted
use Prim.Native.String.{String}
use Rattle.division.specs.Words.{◌<?◌}
use Rattle.label.specs.Text.{text}

-- a letter below 0x800 in UTF-8: one byte below 0x80, and two from there on
abbrev pub in_bytes : ℕ → List ℕ
in_bytes c = cond (c <? 0x80) (c ∷ []) ((0xC0 + c / 64) ∷ (0x80 + c % 64) ∷ [])

-- the bytes of a quoted text of such letters
unfoldable pub utf8 : String → List ℕ
utf8 quoted.[] = []
utf8 (quoted.◌∷◌ c s) = in_bytes (code c) ++ utf8 s

-- a name under its label
pub record Row : Type 0 where
  pub label : List ℕ
  pub name : List ℕ

infix 68 ◌is◌
abbrev pub ◌is◌ : String → String → Row
label is name = record { label = text label; name = utf8 name }

-- "For 250-105-4 the name column, Prevlaka, decides over the misprint beside it"
unfoldable pub official : List Row
official =
    "250-101-2" is "Zagreb" ∷
    "250-101-3" is "Bjelovar" ∷
    "250-101-4" is "Beli Manastir" ∷
    "250-102-1" is "Rijeka" ∷
    "250-102-2" is "Karlovac" ∷
    "250-102-3" is "Slavonski Brod" ∷
    "250-102-4" is "Osijek" ∷
    "250-103-1" is "Otok Lošinj" ∷
    "250-103-2" is "Zadar" ∷
    "250-103-3" is "Jančag" ∷
    "250-104-2" is "Split" ∷
    "250-104-3" is "Makarska" ∷
    "250-105-2" is "Vis" ∷
    "250-105-3" is "Dubrovnik" ∷
    "250-105-4" is "Prevlaka" ∷ []
