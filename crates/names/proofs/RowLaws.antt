-- The table of single letters: a test that is computed over its rows holds of each row, and so of any three bytes that are joined. A letter
-- is a plain byte; a mark and a single letter are a leading byte and one that follows it, and a mark has another leading byte than a single
-- letter. Assumes nothing.
use mathlib.Core.Path.{◌≡◌, refl, sym, ap, ◌∙◌}
use mathlib.Core.Bool.{Bool, true, false, cond, not, ◌&&◌, ◌||◌}
use mathlib.Core.List.{List, [], ◌∷◌, Memᴰ}
use Rattle.std.specs.Prelude.{Option, Some, None}
use Rattle.std.proofs.lemmas.Option.{none-some, same_Some}
use Prim.Native.Nat.{ℕ, ◌≤◌, ◌<◌}
use borrow.Author.Tests.{ltb-true, eqb-true, eq-eqb}
use Rattle.division.specs.Words.{◌<?◌, ◌=?◌, between}
use Rattle.division.proofs.TestLaws.{both, between_in}
use Rattle.label.specs.Text.{every}
use Rattle.names.specs.Name.{Row, table, single_in, single}

-- ---- a row of the table

-- what every one of a list passes, each does
pub each-passes : {A : Type 0} (test : A → Bool) {x : A} {xs : List A} → every test xs ≡ true → Memᴰ x xs → test x ≡ true
unfolding every
each-passes test {xs = []} e listed = elim listed [ ]
each-passes test {xs = y ∷ xs} e (Memᴰ.head is) = ap test is ∙ (both (test y) (every test xs) e).0
each-passes test {xs = y ∷ xs} e (Memᴰ.tail listed) = each-passes test (both (test y) (every test xs) e).1 listed

-- the row that three bytes are of
pub record RowOf (rows : List Row) (a m n : ℕ) (letter : ℕ × ℕ) : Type 0 where
  pub row : Row
  pub listed : Memᴰ row rows
  pub is-letter : row.letter ≡ a
  pub is-mark : (row.mark.0 ≡ m) × (row.mark.1 ≡ n)
  pub is-single : row.single ≡ letter

pub row_of : (rows : List Row) (a m n : ℕ) {letter : ℕ × ℕ} → single_in rows a m n ≡ Some letter → RowOf rows a m n letter
unfolding single_in
row_of [] a m n {letter} e = absurd (none-some letter e)
row_of (row ∷ rows) a m n {letter} e = by _ refl e (row_of rows a m n)
  where
    by : (b : Bool) → (m =? row.mark.0 && (n =? row.mark.1 && a =? row.letter)) ≡ b → cond b (Some row.single) (single_in rows a m n) ≡ Some letter → (single_in rows a m n ≡ Some letter → RowOf rows a m n letter) → RowOf (row ∷ rows) a m n letter
    by true t e below =
        let l = both (m =? row.mark.0) (n =? row.mark.1 && a =? row.letter) t in
        let k = both (n =? row.mark.1) (a =? row.letter) l.1 in
        record {
          row = row;
          listed = Memᴰ.head refl;
          is-letter = sym (eqb-true a row.letter k.1);
          is-mark = (sym (eqb-true m row.mark.0 l.0), sym (eqb-true n row.mark.1 k.0));
          is-single = same_Some row.single letter e;
        }
    by false t e below =
        let r = below e in
        record { row = r.row; listed = Memᴰ.tail r.listed; is-letter = r.is-letter; is-mark = r.is-mark; is-single = r.is-single }

-- ---- what kinds of byte they are

abbrev is_formed : Row → Bool
is_formed row =
    (row.letter <? 0x80 && (row.mark.0 =? 0xCC && between 0x80 0xBF row.mark.1)) &&
    (between 0xC0 0xCB row.single.0 && between 0x80 0xBF row.single.1)

all-formed : every is_formed table ≡ true
unfolding every table
all-formed = refl

pub record Formed (a m n : ℕ) (letter : ℕ × ℕ) : Type 0 where
  pub plain : a < 0x80
  pub leads : m ≡ 0xCC
  pub follows : (0x80 ≤ n) × (n ≤ 0xBF)
  pub first : (0xC0 ≤ letter.0) × (letter.0 ≤ 0xCB)
  pub second : (0x80 ≤ letter.1) × (letter.1 ≤ 0xBF)

row-formed : (row : Row) → is_formed row ≡ true → Formed row.letter row.mark.0 row.mark.1 row.single
row-formed row e =
    let h = both (row.letter <? 0x80 && (row.mark.0 =? 0xCC && between 0x80 0xBF row.mark.1)) (between 0xC0 0xCB row.single.0 && between 0x80 0xBF row.single.1) e in
    let t = both (row.letter <? 0x80) (row.mark.0 =? 0xCC && between 0x80 0xBF row.mark.1) h.0 in
    let k = both (row.mark.0 =? 0xCC) (between 0x80 0xBF row.mark.1) t.1 in
    let s = both (between 0xC0 0xCB row.single.0) (between 0x80 0xBF row.single.1) h.1 in
    record {
      plain = ltb-true row.letter 0x80 t.0;
      leads = eqb-true row.mark.0 0xCC k.0;
      follows = between_in 0x80 0xBF row.mark.1 k.1;
      first = between_in 0xC0 0xCB row.single.0 s.0;
      second = between_in 0x80 0xBF row.single.1 s.1;
    }

pub formed : (a m n : ℕ) {letter : ℕ × ℕ} → single a m n ≡ Some letter → Formed a m n letter
formed a m n e =
    let r = row_of table a m n e in
    let f = row-formed r.row (each-passes is_formed all-formed r.listed) in
    rw (r.is-letter, r.is-mark.0, r.is-mark.1, r.is-single) at f

-- three bytes that are of other kinds are not joined
pub not-joined : (a m n : ℕ) → ((letter : ℕ × ℕ) → Formed a m n letter → ⊥) → single a m n ≡ None
not-joined a m n otherwise = by (single a m n) refl
  where
    by : (o : Option (ℕ × ℕ)) → single a m n ≡ o → o ≡ None
    by None e = refl
    by (Some letter) e = absurd (otherwise letter (formed a m n e))

-- ---- no two rows have the same single letter

is_one : Row → Row → Bool
is_one r s = not (r.single.0 =? s.single.0 && r.single.1 =? s.single.1) || (r.letter =? s.letter && (r.mark.0 =? s.mark.0 && r.mark.1 =? s.mark.1))

all_one : every (λ r. every (is_one r) table) table ≡ true
unfolding every table is_one
all_one = refl

one : (r s : Row) → is_one r s ≡ true → r.single.0 ≡ s.single.0 → r.single.1 ≡ s.single.1 → (r.letter ≡ s.letter) × (r.mark.0 ≡ s.mark.0) × (r.mark.1 ≡ s.mark.1)
unfolding is_one
one r s e f g =
    let h = rw (eq-eqb r.single.0 s.single.0 f, eq-eqb r.single.1 s.single.1 g) at e in
    let t = both (r.letter =? s.letter) (r.mark.0 =? s.mark.0 && r.mark.1 =? s.mark.1) h in
    let k = both (r.mark.0 =? s.mark.0) (r.mark.1 =? s.mark.1) t.1 in
    (eqb-true r.letter s.letter t.0, eqb-true r.mark.0 s.mark.0 k.0, eqb-true r.mark.1 s.mark.1 k.1)

pub one-row : {a m n b k l : ℕ} {x y : ℕ × ℕ} → single a m n ≡ Some x → single b k l ≡ Some y → x.0 ≡ y.0 → x.1 ≡ y.1 → (a ≡ b) × (m ≡ k) × (n ≡ l)
one-row {a} {m} {n} {b} {k} {l} e f g h =
    let r = row_of table a m n e in
    let s = row_of table b k l f in
    let t = each-passes (is_one r.row) (each-passes (λ (x : Row). every (is_one x) table) all_one r.listed) s.listed in
    let o = one r.row s.row t (rw (r.is-single, s.is-single) g) (rw (r.is-single, s.is-single) h) in
    (sym r.is-letter ∙ o.0 ∙ s.is-letter, sym r.is-mark.0 ∙ o.1 ∙ s.is-mark.0, sym r.is-mark.1 ∙ o.2 ∙ s.is-mark.1)
