-- Words of the contracts that the paper does not have.
use Rattle.std.specs.Prelude.{ℕ, ◌≡◌, List, map, Some}
use Rattle.official.specs.declared.list.Entry.{Entry}
use Rattle.official.specs.List.{official}
use Rattle.official.specs.Lookup.{sheet_in}

-- the name in an entry of the code's list
abbrev pub bytes_of : Entry → List ℕ
bytes_of e = e.name.now

-- the code's list is the paper's: the names, whole, and the sheets that the labels name
pub record AreOfficial (es : List Entry) : Type 0 where
  pub names : map bytes_of es ≡ map (λ row. row.name) official
  pub sheets : map (λ e. Some e.sheet) es ≡ map sheet_in official
