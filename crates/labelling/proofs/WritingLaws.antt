-- A label is put together by its digits, its fields and its parents' fields. Assumes nothing.
use Rattle.std.specs.Prelude.{Some, unwrap_or}
use mathlib.Core.Path.{◌≡◌, refl, sym, ap, ◌∙◌, subst}
use mathlib.Core.List.{List, [], ◌∷◌, ◌++◌, flat_map, append_assoc, append-nil}
use mathlib.Core.Logic.{⊎_elim}
use Prim.Native.Nat.{ℕ, ◌+◌, ◌-◌, ◌/◌, ◌%◌, ◌≤◌, ◌<◌}
use native.Mathlib.Nat.{mul-pos, mod-lt, add-zero}
use native.Mathlib.Omega.{arith}
use borrow.Author.Tests.{le-leb, lt-leb}
use lib.ListN.{length, take, set, length-append}
use lib.Seq.{set-set}
use mir.Val.{bool_byte}
use Rattle.refusal.specs.Given.{Wrote}
use Rattle.division.specs.declared.table.Row.{Row}
use Rattle.division.specs.Words.{◌≤?◌}
use Rattle.division.specs.Table.{Made, parent_in, table, table_row, made, rows, columns, parent_scale, side, parts, first, code_row}
use Rattle.division.specs.Sheet.{place_at, scale_of}
use Rattle.division.proofs.TestLaws.{le-or-less}
use Rattle.division.proofs.MadeLaws.{Sound, quot, left-few}
use Rattle.division.proofs.TableLaws.{Each, none-of-eight, rules}
use Rattle.division.proofs.NumberLaws.{ranged, indexed}
use Rattle.division.proofs.FamilyLaws.{top, deep, at_area, at_most, the_parent, some-parent, some-columns, parted, above, parent-indexed, ninth-deep}
use Rattle.label.specs.Text.{decimal}
use Rattle.label.specs.Label.{mark_of, fields_of, label_of}
use Rattle.label.specs.Given.{Small, behind, index_fields}
use Rattle.labelling.specs.Given.{area_fields, AreaRoom, Room, IsSheetOf}
use Rattle.label.proofs.FieldLaws.{fields-area, fields-part}
use Rattle.label.proofs.SizeLaws.{decimal-1, decimal-2, decimal-3, size}
use Rattle.label.proofs.LengthLaws.{Short, behind_more, more-long, sizes, label_is, label-long, label-high}
use Rattle.refusal.proofs.WroteLaws.{wrote-byte, wrote-next, wrote-taken}

-- ---- the digits of a number: all three are put, each at its place, and a zero in front goes under the digit behind it

module _ (d : List ℕ) (at v : ℕ) (x : Small 1_000 v (length (decimal v)) at (length d)) where
  abbrev behind_hundreds : ℕ
  behind_hundreds = at + bool_byte (100 ≤? v)

  abbrev behind_tens : ℕ
  behind_tens = behind_hundreds + bool_byte (10 ≤? v)

  pub last-in : behind_tens < length d
  last-in = omega (arith, x.fits, size v x.few)

  abbrev Put : Type 0
  Put = Wrote d at (set (set (set d at (48 + v / 100)) behind_hundreds (48 + v / 10 % 10)) behind_tens (48 + v % 10)) (behind_tens + 1) (decimal v)

  pub digits-put : Put
  digits-put = ⊎_elim three (λ l. ⊎_elim (two l) one (le-or-less 10 v)) (le-or-less 100 v)
    where
      three : 100 ≤ v → Put
      three l =
          let n : length (decimal v) ≡ 3 = ap length (decimal-3 v l x.few) in
          rw (le-leb 100 v l, le-leb 10 v (omega arith), decimal-3 v l x.few)
          (wrote-next (wrote-next (wrote-byte d at (48 + v / 100) (omega arith)) (omega arith) (48 + v / 10 % 10)) (omega arith) (48 + v % 10))

      two : v < 100 → 10 ≤ v → Put
      two l m =
          let n : length (decimal v) ≡ 2 = ap length (decimal-2 v m l) in
          rw (lt-leb 100 v l, le-leb 10 v m, add-zero at, set-set, decimal-2 v m l)
          (wrote-next (wrote-byte d at (48 + v / 10 % 10) (omega arith)) (omega arith) (48 + v % 10))

      one : v < 10 → Put
      one l =
          let n : length (decimal v) ≡ 1 = ap length (decimal-1 v l) in
          rw (lt-leb 100 v (omega arith), lt-leb 10 v l, add-zero at, add-zero at, decimal-1 v l) (simp set-set (wrote-byte d at (48 + v % 10) (omega arith)))

  -- as the label sees it
  pub digits-view : take (behind_tens + 1) (set (set (set d at (48 + v / 100)) behind_hundreds (48 + v / 10 % 10)) behind_tens (48 + v % 10)) ≡ take at d ++ decimal v
  digits-view = wrote-taken digits-put

-- ---- bytes behind bytes

pub then : (d s t : List ℕ) {e f : List ℕ} → e ≡ d ++ s → f ≡ e ++ t → f ≡ d ++ (s ++ t)
then d s t p q = q ∙ ap (λ (l : List ℕ). l ++ t) p ∙ append_assoc d s t

pub longer : (d s : List ℕ) {e : List ℕ} → e ≡ d ++ s → length e ≡ length d + length s
longer d s p = ap length p ∙ length-append d s

-- ---- the fields of an index

pub behind-two : (a b : ℕ) → behind (a ∷ b ∷ []) ≡ (45 ∷ decimal a) ++ (45 ∷ decimal b)
unfolding flat_map
behind-two a b = ap (λ (l : List ℕ). (45 ∷ decimal a) ++ l) (append-nil (45 ∷ decimal b))

-- of a scale that is made from the area
module _ {s i at room : ℕ} (x : Room s i at room) (e : parent_scale s ≡ 0) where
  pub top-fields : index_fields s i ≡ area_fields (columns s) i
  top-fields = ap (λ (m : Made). fields_of m (place_at m i)) (top x.indexed.scale e) ∙ fields-area (rows s) (columns s) i

  pub top-room : AreaRoom (columns s) i at room
  top-room =
      let c : 0 < columns s = some-columns x.indexed.scale e in
      let f : (100 + rows s < 1_000) × (columns s < 1_000) = subst Short (top x.indexed.scale e) (sizes x.indexed.scale).short in
      record {
        some = c;
        few-row = omega (arith, quot c x.indexed.in-sheets, f.0);
        few-column = omega (arith, mod-lt i c, f.1);
        fits = rw top-fields at x.fits;
      }

-- of a scale that is made from its parent's
module _ {s i at room : ℕ} (x : Room s i at room) (e : parent_scale s ≡ 0 → ⊥) where
  deep-fields : index_fields s i ≡ (i % parts s + 1) ∷ index_fields (parent_scale s) (i / parts s)
  deep-fields =
      ap (λ (m : Made). fields_of m (place_at m i)) (deep x.indexed.scale e)
      ∙ fields-part (parent_scale s) (made (parent_scale s)) (side s) i (subst Sound (deep x.indexed.scale e) (rules x.indexed.scale).sound)

  deep_long : length (behind (index_fields s i)) ≡ 1 + length (decimal (i % parts s + 1)) + length (behind (index_fields (parent_scale s) (i / parts s)))
  deep_long = ap (λ (fs : List ℕ). length (behind fs)) deep-fields ∙ more-long (i % parts s + 1) (index_fields (parent_scale s) (i / parts s))

  pub deep-number : Small 1_000 (i % parts s + 1) (1 + length (decimal (i % parts s + 1))) at room
  deep-number =
      let f : parts s < 1_000 = (subst Short (deep x.indexed.scale e) (sizes x.indexed.scale).short).0 in
      record { few = omega (arith, left-few (side s) i (parted x.indexed.scale e).some); fits = omega (arith, x.fits, deep_long) }

  module _ (d : List ℕ) {f : List ℕ} (l : at ≡ length d) (p : f ≡ d ++ (45 ∷ decimal (i % parts s + 1))) where
    pub deep_room : Room (parent_scale s) (i / parts s) (length f) room
    deep_room = record { indexed = parent-indexed x.indexed.scale e i x.indexed; fits = omega (arith, x.fits, deep_long, longer d (45 ∷ decimal (i % parts s + 1)) p, l) }

    pub deep-wrote : {g : List ℕ} → g ≡ f ++ behind (index_fields (parent_scale s) (i / parts s)) → g ≡ d ++ behind (index_fields s i)
    deep-wrote q = rw (deep-fields, behind_more (i % parts s + 1)) (then d (45 ∷ decimal (i % parts s + 1)) (behind (index_fields (parent_scale s) (i / parts s))) p q)

-- ---- the loop over the parents

-- the fields so far are put: what is left are those of an index at `up`
pub record Going (s i : ℕ) (d : List ℕ) (row : Row) (index : ℕ) (e : List ℕ) : Type 0 where
  pub up : ℕ
  pub is_row : row ≡ code_row up
  pub room : Room up index (length e) 16
  pub rest : {f : List ℕ} → f ≡ e ++ behind (index_fields up index) → f ≡ d ++ behind (index_fields s i)

pub going-first : {s i : ℕ} {d : List ℕ} (row : Row) → row ≡ code_row s → Room s i (length d) 16 → Going s i d row i d
going-first {s} row e x = record { up = s; is_row = e; room = x; rest = λ p. p }

module _ {s i : ℕ} {d : List ℕ} {row : Row} {index : ℕ} {f : List ℕ} (g : Going s i d row index f) where
  module _ (e : (p : ℕ) → row.parent ≡ Some p → ⊥) where
    here-top : parent_scale g.up ≡ 0
    here-top = at_area (made g.up) (rw g.is_row at e)

    pub area-room : AreaRoom row.columns index (length f) 16
    area-room = rw g.is_row (top-room g.room here-top)

    pub going_done : {l : List ℕ} → l ≡ f ++ behind (area_fields row.columns index) → l ≡ d ++ behind (index_fields s i)
    going_done p = g.rest (rw (top-fields g.room here-top) (rw g.is_row at p))

  module _ {parent : ℕ} (e : row.parent ≡ Some parent) where
    up_is : parent ≡ parent_scale g.up
    up_is = the_parent g.up (rw g.is_row at e)

    here-deep : parent_scale g.up ≡ 0 → ⊥
    here-deep = some-parent g.room.indexed.scale (rw g.is_row at e)

    pub some-parts : 0 < row.parts
    some-parts = let k = parted g.room.indexed.scale here-deep in rw g.is_row (mul-pos k.some k.some)

    pub higher : unwrap_or (parent_in (made parent)) 0 < unwrap_or row.parent 0
    higher = rw (e, at_most (made parent), up_is) (rules (above g.room.indexed.scale here-deep)).above

    pub number-room : Small 1_000 (index % row.parts + 1) (1 + length (decimal (index % row.parts + 1))) (length f) 16
    number-room = rw g.is_row (deep-number g.room here-deep)

    pub going_next : {l : List ℕ} → l ≡ f ++ (45 ∷ decimal (index % row.parts + 1)) → (next : Row) → next ≡ code_row parent → Going s i d next (index / row.parts) l
    going_next {l} p next is =
        let q : l ≡ f ++ (45 ∷ decimal (index % parts g.up + 1)) = rw g.is_row at p in
        record {
          up = parent_scale g.up;
          is_row = rw up_is at is;
          room = rw g.is_row (deep_room g.room here-deep f refl q);
          rest = rw g.is_row (λ x. g.rest (deep-wrote g.room here-deep f refl q x));
        }

-- ---- the fields of an index of the ninth scale, which is made from the eighth in 2 × 2: the number in the parent, and the parent's fields

module _ {i at room : ℕ} (x : Room 9 i at room) where
  pub ninth-number : Small 1_000 (i % 4 + 1) (1 + length (decimal (i % 4 + 1))) at room
  unfolding table table_row
  ninth-number = deep-number x ninth-deep

  module _ (d : List ℕ) {l : List ℕ} (n : at ≡ length d) (p : l ≡ d ++ (45 ∷ decimal (i % 4 + 1))) where
    pub ninth-room : Room 8 (i / 4) (length l) room
    unfolding table table_row
    ninth-room = deep_room x ninth-deep d n p

    pub ninth-wrote : {g : List ℕ} → g ≡ l ++ behind (index_fields 8 (i / 4)) → g ≡ d ++ behind (index_fields 9 i)
    unfolding table table_row
    ninth-wrote q = deep-wrote x ninth-deep d n p q

-- ---- the label of a sheet: the first number of its scale, and the fields behind it

module _ {s n : ℕ} (x : IsSheetOf s n) where
  pub mark-room : Small 1_000 (mark_of s) (length (decimal (mark_of s))) 0 16
  mark-room = rw x.scale (record { few = (sizes (ranged n x.sheet).scale).mark-few; fits = omega (arith, label-long n x.sheet, label-high n x.sheet) })

  module _ {f : ℕ} (is : f ≡ first s) where
    pub from_first : f ≤ n
    from_first = rw (is, x.scale) (ranged n x.sheet).low

    module _ {e : List ℕ} (p : e ≡ decimal (mark_of s)) where
      pub fields-room : Room s (n - f) (length e) 16
      fields-room =
          let q : e ≡ decimal (mark_of (scale_of n)) = rw x.scale at p in
          rw (is, x.scale) (record { indexed = indexed n x.sheet; fits = omega (arith, ap length q, label-long n x.sheet, label-high n x.sheet) })

      pub label-wrote : {l : List ℕ} → l ≡ e ++ behind (index_fields s (n - f)) → l ≡ label_of n
      label-wrote w = rw (label_is n) (then [] (decimal (mark_of (scale_of n))) (behind (index_fields (scale_of n) (n - first (scale_of n)))) (rw x.scale at p) (rw (is, x.scale) at w))

-- a sheet of none of the first eight scales is one of the ninth
pub last_arm : {t n : ℕ} → t ≡ scale_of n → IsSheetOf (scale_of n) n → Each (λ k. t ≡ k → ⊥) 8 → IsSheetOf 9 n
last_arm f x others = record { sheet = x.sheet; scale = sym (none-of-eight (rw f (ranged _ x.sheet).scale) others) ∙ f }
