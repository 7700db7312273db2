-- What an entry of the code's list has of its row, and a loop over the list that looks for a sheet or a name: it asks of each entry what the
-- definition asks of its row. Assumes nothing.
use mathlib.Core.Path.{◌≡◌, refl, sym, ap, ◌∙◌}
use mathlib.Core.Bool.{Bool, true, false}
use mathlib.Core.List.{List, [], ◌∷◌, map}
use Rattle.std.specs.Prelude.{Option, Some, None, option_map, option_and_then}
use Prim.Native.Nat.{ℕ, zero, suc, ◌+◌, ◌≤◌, ◌<◌}
use native.Mathlib.Omega.{arith}
use borrow.Author.Tests.{eq-eqb, ne_eqb}
use lib.ListN.{length, get_or, drop, length-map}
use Rattle.names.specs.Name.{SameName}
use Rattle.names.specs.Given.{Tells}
use Rattle.names.proofs.NameTheorems.{one-saying, same-tested}
use Rattle.official.specs.declared.list.Entry.{Entry}
use Rattle.official.specs.List.{Row, official}
use Rattle.official.specs.Lookup.{find, sheet_in}
use Rattle.official.specs.Given.{bytes_of, AreOfficial}
use Rattle.official.specs.Theorems.{no_row, row_at}
use Rattle.official.proofs.FindLaws.{found_here, found-behind, found_nowhere}
use Rattle.official.proofs.ListTheorems.{fifteen}
use Rattle.official.proofs.LookupTheorems.{of_sheet, of_name}

-- ---- an entry is its row

get_d_map : {A B : Type 0} (f : A → B) (xs : List A) (a : A) (b : B) (i : ℕ) → i < length xs → get_or (map f xs) i b ≡ f (get_or xs i a)
get_d_map f [] a b i h = absurd (omega arith)
get_d_map f (x ∷ xs) a b zero h = refl
get_d_map f (x ∷ xs) a b (suc i) h = get_d_map f xs a b i (omega arith)

pub record IsRow (row : Row) (e : Entry) : Type 0 where
  pub sheet : sheet_in row ≡ Some e.sheet
  pub name : bytes_of e ≡ row.name

-- what stands behind the list
abbrev pub blank : Entry
blank = record { sheet = 0; name = record { ref_ptr = (0, 0); now = [] } }

module _ {es : List Entry} (o : AreOfficial es) (i : ℕ) (h : i < 15) where
  long : i < length es
  long = omega (arith, h, fifteen, sym (length-map es bytes_of) ∙ ap length o.names ∙ length-map official (λ row. row.name))

  -- a column of both lists, at a place
  column : {A : Type 0} (f : Entry → A) (g : Row → A) (a : A) → map f es ≡ map g official → f (get_or es i blank) ≡ g (row_at i)
  column {A} f g a e =
      sym (get_d_map f es blank a i long) ∙ ap (λ (l : List A). get_or l i a) e ∙ get_d_map g official no_row a i (omega (arith, h, fifteen))

  pub is_row : IsRow (row_at i) (get_or es i blank)
  is_row = record { sheet = sym (column (λ e. Some e.sheet) sheet_in None o.sheets); name = column bytes_of (λ row. row.name) [] o.names }

-- ---- a loop that looks for a row, and has come to place i: what is told of the first that passes

abbrev pub left_from : {B : Type 0} → (Row → Bool) → (Option Row → B) → ℕ → B
left_from test tell i = tell (find test (drop i official))

module _ {B : Type 0} (test : Row → Bool) (tell : Option Row → B) (i : ℕ) where
  pub none_left : 15 ≤ i → left_from test tell i ≡ tell None
  none_left h = ap tell (found_nowhere test no_row official i (omega (arith, fifteen)))

  found_at : i < 15 → test (row_at i) ≡ true → left_from test tell i ≡ tell (Some (row_at i))
  found_at h e = ap tell (found_here test no_row official i (omega (arith, fifteen)) e)

  passed-by : i < 15 → test (row_at i) ≡ false → left_from test tell i ≡ left_from test tell (i + 1)
  passed-by h e = ap tell (found-behind test no_row official i (omega (arith, fifteen)) e)

-- for a sheet, its name
abbrev pub name_in : Option Row → Option (List ℕ)
name_in row = option_map (λ r. r.name) row

module _ (n i : ℕ) {e : Entry} (h : i < 15) (r : IsRow (row_at i) e) where
  pub name-here : e.sheet ≡ n → Some (bytes_of e) ≡ left_from (of_sheet n) name_in i
  name-here s = sym (found_at (of_sheet n) name_in i h (rw r.sheet (eq-eqb e.sheet n s)) ∙ rw r.name)

  pub other-sheet : (e.sheet ≡ n → ⊥) → left_from (of_sheet n) name_in i ≡ left_from (of_sheet n) name_in (i + 1)
  other-sheet s = passed-by (of_sheet n) name_in i h (rw r.sheet (ne_eqb e.sheet n s))

-- and for a name, its sheet
abbrev pub sheet_found : Option Row → Option ℕ
sheet_found row = option_and_then sheet_in row

module _ (name : List ℕ) (i : ℕ) {e : Entry} (h : i < 15) (r : IsRow (row_at i) e) {t : Bool} (s : Tells t (SameName name (bytes_of e))) where
  alike : of_name name (row_at i) ≡ t
  alike = one-saying (of_name name (row_at i)) t (same-tested name (row_at i).name) (rw r.name at s)

  pub sheet-here : t ≡ true → left_from (of_name name) sheet_found i ≡ Some e.sheet
  sheet-here u = found_at (of_name name) sheet_found i h (alike ∙ u) ∙ r.sheet

  pub other_name : t ≡ false → left_from (of_name name) sheet_found i ≡ left_from (of_name name) sheet_found (i + 1)
  other_name u = passed-by (of_name name) sheet_found i h (alike ∙ u)
