-- What fields make at a scale, once over how it is made: the reach of the place above it, and what the number there adds. Assumes nothing.
use mathlib.Core.Path.{◌≡◌, refl, sym, ap, ap₂, ◌∙◌, subst}
use mathlib.Core.Bool.{Bool, true, false, cond, ◌&&◌}
use mathlib.Core.List.{List, [], ◌∷◌}
use Prim.Native.Nat.{ℕ, ◌+◌, ◌-◌, ◌*◌, ◌/◌, ◌%◌, ◌≤◌, ◌<◌}
use native.Mathlib.Nat.{add-mul, mul_assoc, mul-le-mul_right}
use native.Mathlib.Omega.{arith}
use lib.IntN.{ℤ, pos}
use lib.ListN.{length, get_or, take, drop, length-drop}
use lib.Seq.{take_all}
use mir.Val.{bool_byte}
use Rattle.std.specs.Prelude.{Some, None, Result, Ok, Err}
use Rattle.refusal.specs.declared.Refusal.TheVariants.{NamesNoScale}
use Rattle.refusal.specs.Paper.{Paper, answer, refuse◌at◌unless◌, ◌>>◌}
use Rattle.division.specs.declared.Edges.{Edges}
use Rattle.division.specs.declared.Place.{Place}
use Rattle.division.specs.declared.table.Row.{Row}
use Rattle.division.specs.Words.{between, from, keep}
use Rattle.division.specs.Table.{Made, of_area, of_scale, is_scale, table, table_row, rows_of, columns_of, width, height, made, rows, columns, parent_scale, side, parts, first, code_row}
use Rattle.division.specs.Grid.{millimetres, west_of, north_of, edges_of}
use Rattle.division.specs.Sheet.{index_at, sheet_of, ground_of}
use Rattle.division.specs.Given.{IsScale, OnGrid}
use Rattle.division.proofs.MadeLaws.{Sound}
use Rattle.division.proofs.TableLaws.{Each, each, rules}
use Rattle.division.proofs.NumberLaws.{index-few, scale-sheet, place-sheet}
use Rattle.division.proofs.FamilyLaws.{top, deep, above, parted}
use Rattle.division.proofs.GridLaws.{high-in, north-is}
use Rattle.label.specs.Text.{every, first_not, split}
use Rattle.label.specs.Label.{mark_of, count_of, scale_with, ranges, in_range, first_out, place_from, start_of, well_formed, numbers_in, sheet_named, read_label}
use Rattle.label.proofs.FieldLaws.{count-ranges, on-from, index-part}
use Rattle.label.proofs.PlaceLaws.{first_some}
use Rattle.label.proofs.NamedLaws as labels
use Rattle.label.proofs.NamedLaws.{scale_from, read_none, read_named}
use Rattle.reckoning.specs.declared.Reach.{Reach}
use Rattle.reckoning.specs.declared.Named.{Named}
use Rattle.reckoning.specs.declared.Unnamed.{Unnamed}
use Rattle.reckoning.specs.declared.Unnamed.TheVariants.{Scale}
use Rattle.reckoning.specs.Reckoning.{reach_of, reckon, named_at, named, not_named}
use Rattle.reckoning.specs.Given.{marked, Fields, InReach, corners_at}

-- ---- sizes in hundreds of metres

-- a width or a height: so many fill the area, as many as there are parts that way fill the one above, and it is a whole number of hundreds
record Size (count side size above : ℕ) : Type 0 where
  fills : count * (size / 100) ≡ 6_000
  parts : side * (size / 100) ≡ above / 100
  whole : millimetres size ≡ size / 100 * 100_000

record Sized (s : ℕ) : Type 0 where
  wide : Size (columns s) (side s) (width s) (width (parent_scale s))
  high : Size (rows s) (side s) (height s) (height (parent_scale s))

nine : Each Sized 9
unfolding table table_row rows_of columns_of
nine = search tt

sized : {s : ℕ} → IsScale s → Sized s
sized {s} h = each Sized 9 nine s h.one h.nine

module _ {count side size above : ℕ} (z : Size count side size above) where
  -- a place ends within the area
  ends-in : (i : ℕ) → i < count → i * (size / 100) + size / 100 ≤ 6_000
  ends-in i l =
      let m : (i + 1) * (size / 100) ≤ count * (size / 100) = mul-le-mul_right (size / 100) (omega arith) in
      omega (arith, m, add-mul i 1 (size / 100), z.fills)

  -- so many times the size in millimetres
  times : (i : ℕ) → i * millimetres size ≡ i * (size / 100) * 100_000
  times i = ap (λ (n : ℕ). i * n) z.whole ∙ sym (mul_assoc i (size / 100) 100_000)

-- ---- fields, once over how a scale is made

-- the row and the column, or the number of a part, are in range
abbrev pub row_in : ℕ → List ℕ → Bool
row_in rows fs = between 101 (100 + rows) (get_or fs 0 0)

abbrev pub column_in : ℕ → List ℕ → Bool
column_in columns fs = between 1 columns (get_or fs 1 0)

abbrev pub part_in : ℕ → List ℕ → Bool
part_in parts fs = between 1 parts (get_or fs 0 0)

-- what fields make of the area in c columns, and of a reach in k × k, for sheets that are so wide and so high
abbrev area_reach : ℕ → ℕ → ℕ → List ℕ → Reach
area_reach c w h fs =
    let row = get_or fs 0 0 - 101 in
    let column = get_or fs 1 0 - 1 in
    record { index = row * c + column; right = column * w; down = row * h }

abbrev part_reach : ℕ → ℕ → ℕ → List ℕ → Reach → Reach
part_reach k w h fs up =
    let j = get_or fs 0 0 - 1 in
    record { index = up.index * (k * k) + j; right = up.right + j % k * w; down = up.down + j / k * h }

abbrev on_part : ℕ → ℕ → ℕ → List ℕ → Result Reach ℕ → Result Reach ℕ
on_part k w h fs (Ok up) = Ok (part_reach k w h fs up)
on_part k w h fs (Err i) = Err (1 + i)

-- the same by the row of the table, as the code has it
abbrev part_by : Row → List ℕ → Reach → Reach
part_by t fs up =
    let j = get_or fs 0 0 - 1 in
    record { index = up.index * t.parts + j; right = up.right + j % t.side * (t.width / 100); down = up.down + j / t.side * (t.height / 100) }

abbrev pub on_part_by : Row → List ℕ → Result Reach ℕ → Result Reach ℕ
on_part_by t fs (Ok up) = Ok (part_by t fs up)
on_part_by t fs (Err i) = Err (1 + i)

abbrev reckon_by : Made → ℕ → ℕ → List ℕ → Result Reach ℕ
reckon_by m w h fs =
    let p = place_from m fs in
    cond (in_range m fs) (Ok (record { index = index_at m p; right = p.column * w; down = p.row * h })) (Err (first_out m fs))

reckon-area : (r c w h : ℕ) (fs : List ℕ) → reckon_by (of_area r c) w h fs ≡ cond (row_in r fs && column_in c fs) (Ok (area_reach c w h fs)) (Err (bool_byte (row_in r fs)))
unfolding in_range first_out ranges every first_not index_at place_from
reckon-area r c w h fs = by (row_in r fs) (column_in c fs)
  where
    by : (a b : Bool) → cond (a && (b && true)) (Ok (area_reach c w h fs)) (Err (cond a (1 + cond b (1 + 0) 0) 0)) ≡ cond (a && b) (Ok (area_reach c w h fs)) (Err (bool_byte a))
    by true true = refl
    by true false = refl
    by false b = refl

reach : {a b c d e f : ℕ} → a ≡ d → b ≡ e → c ≡ f → ◌≡◌ {A = Reach} (record { index = a; right = b; down = c }) (record { index = d; right = e; down = f })
reach p q r = λ i. record { index = p i; right = q i; down = r i }

-- so far to the right, or down, in sizes and in those of what is above
spread : (a k b size : ℕ) → (a * k + b) * size ≡ a * (k * size) + b * size
spread a k b size = omega (arith, add-mul (a * k) b size, mul_assoc a k size)

reckon-part : (z : ℕ) (m : Made) (k w h : ℕ) (fs : List ℕ) → Sound (of_scale z m k)
    → reckon_by (of_scale z m k) w h fs ≡ cond (part_in (k * k) fs) (on_part k w h fs (reckon_by m (k * w) (k * h) (drop 1 fs))) (Err 0)
unfolding in_range first_out ranges every first_not place_from
reckon-part z m k w h fs sound = by (part_in (k * k) fs) refl (in_range m (drop 1 fs)) refl
  where
    j : ℕ
    j = get_or fs 0 0 - 1

    up : Place
    up = place_from m (drop 1 fs)

    here : Reach
    here = record { index = index_at (of_scale z m k) (place_from (of_scale z m k) fs); right = (up.column * k + j % k) * w; down = (up.row * k + j / k) * h }

    above : Reach
    above = record { index = index_at m up; right = up.column * (k * w); down = up.row * (k * h) }

    by : (a : Bool) → part_in (k * k) fs ≡ a → (b : Bool) → in_range m (drop 1 fs) ≡ b
        → cond (a && b) (Ok here) (Err (cond a (1 + first_out m (drop 1 fs)) 0)) ≡ cond a (on_part k w h fs (cond b (Ok above) (Err (first_out m (drop 1 fs))))) (Err 0)
    by true e true f = ap Ok (reach (index-part z m k fs sound (rw (e, f))) (spread up.column k (j % k) w) (spread up.row k (j / k) h))
    by true e false f = refl
    by false e b f = refl

-- ---- what is reckoned

abbrev deep_on : ℕ → List ℕ → Result Reach ℕ → Result Reach ℕ
deep_on s fs r = on_part (side s) (width s / 100) (height s / 100) fs r

reckon-by : (s : ℕ) (fs : List ℕ) {m : Made} → made s ≡ m → reckon s fs ≡ reckon_by m (width s / 100) (height s / 100) fs
unfolding reckon
reckon-by s fs e = ap (λ (m : Made). reckon_by m (width s / 100) (height s / 100) fs) e

-- the reach of a place of the grid is within the area
reach-in : {s : ℕ} {p : Place} → OnGrid s p → InReach s (reach_of s p)
reach-in {s} {p} o =
    let z = sized o.scale in
    record {
      scale = o.scale;
      indexed = index-few o;
      wide = ends-in z.wide p.column o.in-columns;
      high = ends-in z.high p.row o.in_rows;
    }

pub few-index : {s : ℕ} {x : Reach} → InReach s x → x.index < 6_000_000
few-index i = omega (arith, i.indexed, (rules i.scale).few)

pub few-sheet : {s : ℕ} {x : Reach} → InReach s x → first s + x.index < 7_953_174
few-sheet i = omega (arith, i.indexed, (rules i.scale).low)

-- the fields behind the first, as the code hands them on
abbrev pub others : List ℕ → List ℕ
others fs = take (length fs - 1) (drop 1 fs)

pub others-are : (fs : List ℕ) → others fs ≡ drop 1 fs
others-are fs = take_all (length fs - 1) (drop 1 fs) (omega (arith, length-drop 1 fs))

-- a place whose reach it is
record Reached (s : ℕ) (x : Reach) : Type 0 where
  place : Place
  on : OnGrid s place
  is : reach_of s place ≡ x

module _ {s : ℕ} {fs : List ℕ} (h : Fields s fs) where
  reached : {x : Reach} → reckon s fs ≡ Ok x → Reached s x
  unfolding reckon
  reached {x} e = by (in_range (made s) fs) refl e
    where
      p : Place
      p = place_from (made s) fs

      by : (b : Bool) → in_range (made s) fs ≡ b → cond b (Ok (reach_of s p)) (Err (first_out (made s) fs)) ≡ Ok x → Reached s x
      by true t f =
          let o = on-from (made s) fs (rules h.scale).sound t in
          record { place = p; on = record { scale = h.scale; in_rows = o.in_rows; in-columns = o.in-columns }; is = cc }
      by false t f = let z : ◌≡◌ {A = ℕ} 0 1 = cc in absurd (omega arith)

  reckon-reach : {x : Reach} → reckon s fs ≡ Ok x → InReach s x
  reckon-reach e = let r = reached e in subst (InReach s) r.is (reach-in r.on)

  -- a field out of range is one of those there are
  out-few : {i : ℕ} → reckon s fs ≡ Err i → i < length fs
  unfolding reckon in_range first_out
  out-few {i} e = by (in_range (made s) fs) refl e
    where
      by : (b : Bool) → in_range (made s) fs ≡ b → cond b (Ok (reach_of s (place_from (made s) fs))) (Err (first_out (made s) fs)) ≡ Err i → i < length fs
      by true t f = let z : ◌≡◌ {A = ℕ} 0 1 = cc in absurd (omega arith)
      by false t f =
          let q : first_out (made s) fs ≡ i = cc in
          omega (arith, q, first_some (λ good. good) (ranges (made s) fs) t, count-ranges (made s) fs, h.enough)

  -- at a scale that is made from the area
  module _ (e : parent_scale s ≡ 0) where
    pub two_fields : 2 ≤ length fs
    unfolding count_of
    two_fields = omega (arith, h.enough, ap count_of (top h.scale e))

    -- by the row of the table and the flags for the row and the column, as the code has them
    module _ {t : Row} (r : t ≡ code_row s) {a b : Bool} (p : a ≡ row_in t.rows fs) (q : b ≡ column_in t.columns fs) where
      abbrev pub top_reach : Reach
      top_reach = area_reach t.columns (t.width / 100) (t.height / 100) fs

      reckon-top : reckon s fs ≡ cond (a && b) (Ok top_reach) (Err (bool_byte a))
      reckon-top = rw (p, q, r) (reckon-by s fs (top h.scale e) ∙ reckon-area (rows s) (columns s) (width s / 100) (height s / 100) fs)

      pub top-out : (a && b) ≡ false → Err (bool_byte a) ≡ reckon s fs
      top-out f = sym (reckon-top ∙ rw f)

      module _ (f : (a && b) ≡ true) where
        pub top-at : Ok top_reach ≡ reckon s fs
        top-at = sym (reckon-top ∙ rw f)

        pub top-in : InReach s top_reach
        top-in = reckon-reach (sym top-at)

  -- at a scale that is made from another
  module _ (e : parent_scale s ≡ 0 → ⊥) where
    count-deep : count_of (made s) ≡ 1 + count_of (made (parent_scale s))
    unfolding count_of
    count-deep = ap count_of (deep h.scale e)

    pub a-field : 1 ≤ length fs
    a-field = omega (arith, h.enough, count-deep)

    pub fields-above : {up : ℕ} → parent_scale s ≡ up → Fields up (others fs)
    fields-above f = subst (λ (t : ℕ). Fields t (others fs)) f (rw (others-are fs) (record { scale = above h.scale e; enough = omega (arith, h.enough, count-deep, length-drop 1 fs) }))

    pub reckon-above : {up : ℕ} {r : Result Reach ℕ} → parent_scale s ≡ up → r ≡ reckon up (others fs) → r ≡ reckon (parent_scale s) (drop 1 fs)
    reckon-above f g = g ∙ rw (f, others-are fs)

    pub some-parts : 0 < side s
    some-parts = (parted h.scale e).some

    reckon-deep : reckon s fs ≡ cond (part_in (parts s) fs) (deep_on s fs (reckon (parent_scale s) (drop 1 fs))) (Err 0)
    reckon-deep =
        let z = sized h.scale in
        let m = made (parent_scale s) in
        reckon-by s fs (deep h.scale e) ∙ reckon-part (parent_scale s) m (side s) (width s / 100) (height s / 100) fs (some-parts, (rules (above h.scale e)).sound) ∙ rw (z.wide.parts, z.high.parts, ← reckon-by (parent_scale s) (drop 1 fs) refl)

    -- by the row of the table and the flag for the number, as the code has them: one out of range is the first that is so, and one in range
    -- makes a part of what is above
    module _ {t : Row} (r : t ≡ code_row s) {a : Bool} (p : a ≡ part_in t.parts fs) where
      pub part_out : a ≡ false → Err 0 ≡ reckon s fs
      part_out f = sym (reckon-deep ∙ rw (← (ap (λ (t : Row). part_in t.parts fs) r), ← p, f))

      module _ (f : a ≡ true) {up : Result Reach ℕ} (u : up ≡ reckon (parent_scale s) (drop 1 fs)) where
        pub part-on : on_part_by t fs up ≡ reckon s fs
        part-on = rw (r, u) (by-row (reckon (parent_scale s) (drop 1 fs)) ∙ sym (reckon-deep ∙ rw (← (ap (λ (t : Row). part_in t.parts fs) r), ← p, f)))
          where
            by-row : (x : Result Reach ℕ) → on_part_by (code_row s) fs x ≡ deep_on s fs x
            by-row (Ok x) = refl
            by-row (Err i) = refl

        pub part-out-few : {i : ℕ} → up ≡ Err i → 1 + i < length fs
        part-out-few g = out-few (sym part-on ∙ ap (λ (x : Result Reach ℕ). on_part_by t fs x) g)

        pub part-reach : {x : Reach} → up ≡ Ok x → InReach s (part_by t fs x)
        part-reach g = reckon-reach (sym part-on ∙ ap (λ (x : Result Reach ℕ). on_part_by t fs x) g)

-- ---- from scale to scale

-- a scale that is made from scale 3, or from one that is made from another
pub from-three : (s : ℕ) → parent_scale s ≡ 3 → parent_scale s ≡ 0 → ⊥
from-three s e z = omega arith

-- the arm that is taken is the scale asked
pub arm : {s n : ℕ} {fs : List ℕ} → Fields s fs → s ≡ n → Fields n fs
arm {fs = fs} h e = subst (λ (t : ℕ). Fields t fs) e h

-- ---- the corners

module _ {s : ℕ} (h : IsScale s) where
  west-at : (i : ℕ) → pos ((2_000 + i * (width s / 100)) * 100_000) ≡ west_of s i
  west-at i = ap pos (omega (arith, times (sized h).wide i))

  north-at : (i : ℕ) → i ≤ rows s → pos ((51_700 - i * (height s / 100)) * 100_000) ≡ north_of s i
  north-at i l = ap pos (omega (arith, times (sized h).high i)) ∙ sym (north-is s i (high-in h i l))

-- the next column or row
next : (i size : ℕ) → i * size + size ≡ (i + 1) * size
next i size = omega (arith, add-mul i 1 size)

corners-reach : {s : ℕ} {p : Place} → OnGrid s p → corners_at s (reach_of s p) ≡ ground_of (sheet_of s p)
unfolding edges_of
corners-reach {s} {p} o =
    let w = width s / 100 in
    let h = height s / 100 in
    let east : pos ((2_000 + p.column * w + w) * 100_000) ≡ west_of s (p.column + 1) = ap pos (omega (arith, next p.column w)) ∙ west-at o.scale (p.column + 1) in
    let south : pos ((51_700 - p.row * h - h) * 100_000) ≡ north_of s (p.row + 1) = ap pos (omega (arith, next p.row h)) ∙ north-at o.scale (p.row + 1) (omega (arith, o.in_rows)) in
    edges (west-at o.scale p.column) east south (north-at o.scale p.row (omega (arith, o.in_rows))) ∙ sym (ap₂ edges_of (scale-sheet o) (place-sheet o))
  where
    edges : {a b c d e f g h : ℤ} → a ≡ e → b ≡ f → c ≡ g → d ≡ h → ◌≡◌ {A = Edges} (record { west = a; east = b; south = c; north = d }) (record { west = e; east = f; south = g; north = h })
    edges p q r t = λ i. record { west = p i; east = q i; south = r i; north = t i }

-- ---- what numbers name

-- of none
pub named_none : (vs : List ℕ) → length vs ≡ 0 → Err Scale ≡ named vs
unfolding named scale_with mark_of count_of table table_row from keep
named_none [] e = refl
named_none (v ∷ vs) e = absurd (omega (arith, e))

module _ (vs : List ℕ) where
  abbrev scale : ℕ
  scale = scale_with (get_or vs 0 0) (length vs)

  -- by what the first number and the count name
  pub named-not : marked (get_or vs 0 0) (length vs) ≡ None → Err Scale ≡ named vs
  unfolding named
  named-not e = by (is_scale scale) e
    where
      by : (b : Bool) → cond b (Some scale) None ≡ None → Err Scale ≡ cond b (named_at scale (reckon scale (drop 1 vs))) (Err Scale)
      by true f = let z : ◌≡◌ {A = ℕ} 0 1 = cc in absurd (omega arith)
      by false f = refl

  module _ {s : ℕ} (e : marked (get_or vs 0 0) (length vs) ≡ Some s) where
    is-named : (is_scale scale ≡ true) × (scale ≡ s)
    is-named = by (is_scale scale) e
      where
        by : (b : Bool) → cond b (Some scale) None ≡ Some s → (b ≡ true) × (scale ≡ s)
        by true f = (refl, cc)
        by false f = let z : ◌≡◌ {A = ℕ} 0 1 = cc in absurd (omega arith)

    pub named_by : {r : Result Reach ℕ} → r ≡ reckon s (drop 1 vs) → named_at s r ≡ named vs
    unfolding named
    named_by f = let n = is-named in rw (f, n.0, n.1)

    scale-from : scale_from vs ≡ answer s
    scale-from = let n = is-named in rw (n.0, n.1)

    pub fields-named : Fields s (drop 1 vs)
    fields-named =
        let m = labels.named (get_or vs 0 0) (length vs) s scale-from in
        record { scale = m.scale; enough = omega (arith, m.count, length-drop 1 vs) }

    -- a number out of range is one of those there are
    pub named-few : {i : ℕ} → reckon s (drop 1 vs) ≡ Err i → 1 + i < length vs
    named-few f = omega (arith, out-few fields-named f, length-drop 1 vs)

-- what is made at a scale is made by the numbers behind the first, and these are as many as its labels have
module _ (vs : List ℕ) {x : Named} where
  known : named vs ≡ Ok x → Fields x.scale (drop 1 vs) × (reckon x.scale (drop 1 vs) ≡ Ok x.reach)
  unfolding named
  known e = by (is_scale (scale vs)) refl (reckon (scale vs) (drop 1 vs)) refl e
    where
      by : (b : Bool) → is_scale (scale vs) ≡ b → (r : Result Reach ℕ) → reckon (scale vs) (drop 1 vs) ≡ r → cond b (named_at (scale vs) r) (Err Scale) ≡ Ok x → Fields x.scale (drop 1 vs) × (reckon x.scale (drop 1 vs) ≡ Ok x.reach)
      by true t (Ok y) g f =
          let q : ◌≡◌ {A = Named} (record { scale = scale vs; reach = y }) x = cc in
          let e : scale vs ≡ x.scale = ap (λ (n : Named). n.scale) q in
          (fields-named vs (rw (t, e)), rw e at g ∙ ap (λ (n : Named). Ok n.reach) q)
      by true t (Err i) g f = let z : ◌≡◌ {A = ℕ} 0 1 = cc in absurd (omega arith)
      by false t r g f = let z : ◌≡◌ {A = ℕ} 0 1 = cc in absurd (omega arith)

  module _ (e : named vs ≡ Ok x) where
    pub named-reach : InReach x.scale x.reach
    named-reach = reckon-reach (known e).0 (known e).1

    pub named-corners : corners_at x.scale x.reach ≡ ground_of (first x.scale + x.reach.index)
    named-corners =
        let r = reached (known e).0 (known e).1 in
        subst (λ (y : Reach). corners_at x.scale y ≡ ground_of (first x.scale + y.index)) r.is (corners-reach r.on)

-- ---- what a label names by its numbers

-- the sheet, or "5: a label field out of range", or "21 an unknown first number or count of fields"
abbrev pub on_label : List ℕ → Result Named Unnamed → Paper ℕ
on_label bytes (Ok n) = answer (first n.scale + n.reach.index)
on_label bytes (Err why) = not_named why bytes

sheet-reckoned : (s : ℕ) (bytes : List ℕ) → sheet_named s bytes ≡ on_label bytes (named_at s (reckon s (drop 1 (numbers_in bytes))))
unfolding sheet_named reckon
sheet-reckoned s bytes = by (in_range (made s) fs)
  where
    fs : List ℕ
    fs = drop 1 (numbers_in bytes)

    p : Place
    p = place_from (made s) fs

    by : (b : Bool) → ((refuse 5 at start_of (1 + first_out (made s) fs) (split 45 bytes) unless b) >> answer (sheet_of s p)) ≡ on_label bytes (named_at s (cond b (Ok (reach_of s p)) (Err (first_out (made s) fs))))
    by true = refl
    by false = refl

pub label-named : (bytes : List ℕ) → well_formed bytes ≡ true → {r : Result Named Unnamed} → named (numbers_in bytes) ≡ r → on_label bytes r ≡ read_label bytes
unfolding named
label-named bytes w {r} e = ap (on_label bytes) (sym e) ∙ by (is_scale s) refl
  where
    s : ℕ
    s = scale (numbers_in bytes)

    by : (b : Bool) → is_scale s ≡ b → on_label bytes (cond b (named_at s (reckon s (drop 1 (numbers_in bytes)))) (Err Scale)) ≡ read_label bytes
    by true t = sym (read_named bytes w s (rw t) ∙ sheet-reckoned s bytes)
    by false t = sym (read_none bytes w NamesNoScale (rw t))
