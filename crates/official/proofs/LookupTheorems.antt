-- Sheet to name and name to sheet are what the list has, since no two rows are of one sheet and no two names are the same; so each undoes
-- the other. Assumes nothing.
use mathlib.Core.Path.{◌≡◌, refl, sym, ap, ◌∙◌}
use mathlib.Core.Bool.{Bool, true, false}
use mathlib.Core.List.{List, []}
use mathlib.Core.Logic.{◌↔◌}
use Rattle.std.specs.Prelude.{Option, Some, None, option_map, option_and_then, unwrap_or}
use Rattle.std.proofs.lemmas.Option.{none-some, same_Some}
use Prim.Native.Nat.{ℕ, ◌≤◌, ◌<◌}
use native.Mathlib.Omega.{arith}
use borrow.Author.Tests.{eqb-true, eq-eqb}
use lib.ListN.{length}
use Rattle.refusal.specs.Paper.{answer, ◌>>=◌, laid}
use Rattle.refusal.proofs.PaperLaws.{passed, found, same_answer, laid-fits, laid-answered}
use Rattle.division.specs.Sheet.{is_sheet, scale_of}
use Rattle.division.proofs.NumberLaws.{no-scale}
use Rattle.label.specs.Label.{read_label}
use Rattle.names.specs.Name.{joined, SameName, same_bytes, is_same_name}
use Rattle.names.proofs.NameTheorems.{tells-true, same-tested}
use Rattle.official.specs.List.{Row, official}
use Rattle.official.specs.Lookup.{find, answered, sheet_in, ◌is?◌, name_of, sheet_called, is250000, write_name, name_told}
use Rattle.official.specs.Theorems.{no_row, row_at, Under, Written, Called}
use Rattle.official.proofs.FindLaws.{found-stands, alone-found}
use Rattle.official.proofs.ListTheorems.{fifteen, name-sized, from-answered, is_some, sound, no-two-names, one-sheet}

-- ---- the tests by which a row is found

abbrev pub of_sheet : ℕ → Row → Bool
of_sheet n row = sheet_in row is? n

abbrev pub of_name : List ℕ → Row → Bool
of_name name row = is_same_name name row.name

pub sheet-in : (row : Row) {n : ℕ} → read_label row.label ≡ answer n → sheet_in row ≡ Some n
unfolding sheet_in
sheet-in row e = ap answered e

of-sheet : (row : Row) {n : ℕ} → read_label row.label ≡ answer n → of_sheet n row ≡ true
of-sheet row {n} e = rw (sheet-in row e) (eq-eqb n n refl)

is-of-sheet : (row : Row) {n : ℕ} → of_sheet n row ≡ true → read_label row.label ≡ answer n
unfolding sheet_in
is-of-sheet row t = from-answered (read_label row.label) (is_some (answered (read_label row.label)) t)

-- a place within the list
among : (i : ℕ) → i < 15 → i < length official
among i h = omega (arith, fifteen)

-- ---- sheet to name

under-name : (n : ℕ) (name : List ℕ) → name_of n ≡ Some name → Under n name
unfolding name_of
under-name n name e = by (find (of_sheet n) official) refl e
  where
    by : (o : Option Row) → find (of_sheet n) official ≡ o → option_map (λ row. row.name) o ≡ Some name → Under n name
    by None f e = absurd (none-some name e)
    by (Some row) f e =
        let s = found-stands (of_sheet n) no_row official f in
        record {
          place = s.place;
          listed = omega (arith, s.within, fifteen);
          label = ap (λ (r : Row). read_label r.label) s.is ∙ is-of-sheet row s.passes;
          is = ap (λ (r : Row). r.name) s.is ∙ same_Some row.name name e;
        }

name-under : (n : ℕ) (name : List ℕ) → Under n name → name_of n ≡ Some name
unfolding name_of
name-under n name u =
    let f = alone-found (of_sheet n) no_row official u.place (among u.place u.listed) (of-sheet (row_at u.place) u.label)
    (λ j h t. one-sheet j u.place n (omega (arith, h, fifteen)) u.listed (is-of-sheet (row_at j) t) u.label) in
    ap (option_map (λ row. row.name)) f ∙ ap Some u.is

pub listed-iff : (n : ℕ) (name : List ℕ) → (name_of n ≡ Some name) ↔ Under n name
listed-iff n name = (under-name n name, name-under n name)

-- "A sheet without a name in that list .. answers not listed"
pub none-listed-iff : (n : ℕ) → (name_of n ≡ None) ↔ ((name : List ℕ) → Under n name → ⊥)
none-listed-iff n = (λ e name u. none-some name (sym e ∙ name-under n name u), by (name_of n) refl)
  where
    by : (o : Option (List ℕ)) → name_of n ≡ o → ((name : List ℕ) → Under n name → ⊥) → o ≡ None
    by None e nothing = refl
    by (Some name) e nothing = absurd (nothing name (under-name n name e))

-- a sheet that has an official name is of 1:250 000
pub named-scale : (n : ℕ) (name : List ℕ) → name_of n ≡ Some name → scale_of n ≡ 1
named-scale n name e =
    let u = under-name n name e in
    let s = sound u.place u.listed in
    ap scale_of (same_answer (sym u.label ∙ s.reads)) ∙ s.scale

-- and has a byte at least, and 14 at most
pub name-bytes : (n : ℕ) (name : List ℕ) → name_of n ≡ Some name → (1 ≤ length name) × (length name ≤ 14)
name-bytes n name e =
    let u = under-name n name e in
    let z = name-sized u.place u.listed in
    (omega (arith, z.0, ap length u.is), omega (arith, z.1, ap length u.is))

-- ---- what is answered for a sheet

-- a sheet of scale 1 is a sheet
is-sheet : (n : ℕ) → scale_of n ≡ 1 → is_sheet n ≡ true
is-sheet n s = by (is_sheet n) refl
  where
    by : (t : Bool) → is_sheet n ≡ t → t ≡ true
    by true e = refl
    by false e = absurd (omega (arith, no-scale n e))

told-so : (n room : ℕ) → scale_of n ≡ 1 → name_told n room ≡ (laid (unwrap_or (name_of n) []) room >>= λ written. answer (option_map length (name_of n)))
unfolding name_told write_name
told-so n room s = rw (is-sheet n s, eq-eqb (scale_of n) 1 s)

was-told : (n room : ℕ) (count : Option ℕ) → name_told n room ≡ answer count → (scale_of n ≡ 1) × (length (unwrap_or (name_of n) []) ≤ room) × (option_map length (name_of n) ≡ count)
unfolding name_told write_name
was-told n room count e =
    let f = found (write_name n room) (λ written. answer (option_map length (name_of n))) e in
    let a = passed 3 (is_sheet n) _ f.1 in
    let b = passed 22 (is250000 n) _ a.1 in
    (eqb-true (scale_of n) 1 b.0, (laid-answered (unwrap_or (name_of n) []) room b.1).1, same_answer f.2)

none-mapped : (o : Option (List ℕ)) → option_map length o ≡ None → o ≡ None
none-mapped None e = refl
none-mapped (Some name) e = absurd (none-some (length name) (sym e))

-- "not listed" exactly for a 1:250 000 sheet under whose label there is no name, whatever the room
pub told-none-iff : (n room : ℕ) → (name_told n room ≡ answer None) ↔ ((scale_of n ≡ 1) × ((name : List ℕ) → Under n name → ⊥))
told-none-iff n room = (so, λ p. told-so n room p.0 ∙ rw ((none-listed-iff n).1 p.1, laid-fits [] {room = room} (omega arith)))
  where
    so : name_told n room ≡ answer None → (scale_of n ≡ 1) × ((name : List ℕ) → Under n name → ⊥)
    so e = let t = was-told n room None e in (t.0, (none-listed-iff n).0 (none-mapped (name_of n) t.2))

-- and a count of bytes exactly where there is one of so many, for which there is room
pub told-some-iff : (n room count : ℕ) → (name_told n room ≡ answer (Some count)) ↔ Written n room count
told-some-iff n room count = (λ e. let t = was-told n room (Some count) e in by (name_of n) refl t.1 t.2, λ w. told-so n room (named-scale n w.name (name-under n w.name w.under)) ∙ rw (name-under n w.name w.under, laid-fits w.name {room = room} (omega (arith, w.long, w.fits)), w.long))
  where
    by : (o : Option (List ℕ)) → name_of n ≡ o → length (unwrap_or o []) ≤ room → option_map length o ≡ Some count → Written n room count
    by None f h g = absurd (none-some count g)
    by (Some name) f h g =
        let l = same_Some (length name) count g in
        record { name = name; under = under-name n name f; long = l; fits = omega arith }

-- ---- name to sheet

called-sheet : (name : List ℕ) (n : ℕ) → sheet_called name ≡ Some n → Called name n
unfolding sheet_called sheet_in
called-sheet name n e = by (find (of_name name) official) refl e
  where
    by : (o : Option Row) → find (of_name name) official ≡ o → option_and_then sheet_in o ≡ Some n → Called name n
    by None f e = absurd (none-some n e)
    by (Some row) f e =
        let s = found-stands (of_name name) no_row official f in
        record {
          place = s.place;
          listed = omega (arith, s.within, fifteen);
          same = (same-tested name row.name).yes s.passes ∙ ap (λ (r : Row). joined r.name) (sym s.is);
          label = ap (λ (r : Row). read_label r.label) s.is ∙ from-answered (read_label row.label) e;
        }

sheet-called : (name : List ℕ) (n : ℕ) → Called name n → sheet_called name ≡ Some n
unfolding sheet_called
sheet-called name n c =
    let f = alone-found (of_name name) no_row official c.place (among c.place c.listed) (tells-true (same-tested name (row_at c.place).name) c.same)
    (λ j h t. no-two-names j c.place (omega (arith, h, fifteen)) c.listed (sym ((same-tested name (row_at j).name).yes t) ∙ c.same)) in
    ap (λ (o : Option Row). option_and_then sheet_in o) f ∙ sheet-in (row_at c.place) c.label

pub called-iff : (name : List ℕ) (n : ℕ) → (sheet_called name ≡ Some n) ↔ Called name n
called-iff name n = (called-sheet name n, sheet-called name n)

-- "or a name it doesn't hold, answers not listed"
pub none-called-iff : (name : List ℕ) → (sheet_called name ≡ None) ↔ ((i : ℕ) → i < 15 → SameName name (row_at i).name → ⊥)
none-called-iff name = (nowhere, by (sheet_called name) refl)
  where
    nowhere : sheet_called name ≡ None → (i : ℕ) → i < 15 → SameName name (row_at i).name → ⊥
    nowhere e i h s =
        let r = sound i h in
        none-some r.sheet (sym e ∙ sheet-called name r.sheet (record { place = i; listed = h; same = s; label = r.reads }))

    by : (o : Option ℕ) → sheet_called name ≡ o → ((i : ℕ) → i < 15 → SameName name (row_at i).name → ⊥) → o ≡ None
    by None e nothing = refl
    by (Some n) e nothing = let c = called-sheet name n e in absurd (nothing c.place c.listed c.same)

-- ---- each undoes the other

pub name-leads-back : (n : ℕ) (name : List ℕ) → name_of n ≡ Some name → sheet_called name ≡ Some n
name-leads-back n name e =
    let u = under-name n name e in
    sheet-called name n (record { place = u.place; listed = u.listed; same = ap joined (sym u.is); label = u.label })

pub sheet-leads-back : (name : List ℕ) (n : ℕ) → sheet_called name ≡ Some n → (known : List ℕ) × (name_of n ≡ Some known) × SameName name known
sheet-leads-back name n e =
    let c = called-sheet name n e in
    ((row_at c.place).name, name-under n _ (record { place = c.place; listed = c.listed; label = c.label; is = refl }), c.same)

-- a name in either spelling finds its sheet
pub either-spelling : (a b : List ℕ) → SameName a b → sheet_called a ≡ sheet_called b
unfolding sheet_called
either-spelling a b s = ap (λ (letters : List ℕ). option_and_then sheet_in (find (λ row. same_bytes letters (joined row.name)) official)) s

-- ---- two answers that meet the promise coincide

pub one-listing : {a b d : Option ℕ} → a ≡ d → b ≡ d → a ≡ b
one-listing e f = e ∙ sym f
