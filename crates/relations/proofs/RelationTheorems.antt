-- Parent and child undo each other, a step and an offset too, and the neighbours are the eight steps around the sheet: all of it is the
-- place of a sheet, moved on its grid or divided by the parts of its parent. Assumes nothing.
use mathlib.Core.Path.{◌≡◌, sym, ap, ap₂, ◌∙◌, subst}
use mathlib.Core.Bool.{true, false}
use mathlib.Core.List.{[], ◌∷◌}
use Prim.Native.Nat.{ℕ, ◌+◌, ◌-◌, ◌*◌, ◌/◌, ◌%◌, ◌≤◌, ◌<◌}
use native.Mathlib.Nat.{mod-lt, mul-le-mul_right, div-add-mod'}
use native.Mathlib.Omega.{arith}
use borrow.Author.Tests.{le-leb, leb-true, eq-eqb, lt-ltb}
use lib.Arith.{digits_div, digits_mod}
use lib.IntN.{ℤ, pos, negsuc, nat_abs, ◌-ℤ◌, +ℤ_comm, +ℤ-neg_ℤ_cancel, -ℤ-+ℤ_cancel}
use lib.ListN.{replicate}
use Rattle.refusal.specs.Paper.{Paper, answer, ◌>>=◌}
use Rattle.refusal.proofs.PaperLaws.{passed, same_answer}
use Rattle.division.specs.declared.Place.{Place}
use Rattle.relations.specs.declared.Offset.{Offset}
use Rattle.std.specs.Prelude.{Option, Some, None}
use Rattle.division.specs.Words.{◌≤?◌, between}
use Rattle.division.specs.Table.{is_scale, width, height, rows, columns, parent_scale, side, parts, first}
use Rattle.division.specs.Grid.{millimetres, within, edges_of}
use Rattle.division.specs.Sheet.{is_sheet, scale_of, index_of, place_of, sheet_of, ground_of, part_index, child_place}
use Rattle.relations.specs.Relations.{is_part, parent, child, moved, stays, walk, step, apart, offset, or_none, neighbours}
use Rattle.division.specs.Given.{OnGrid, Indexed}
use Rattle.division.proofs.TestLaws.{in_between}
use Rattle.division.proofs.MadeLaws.{place, quot, left-few}
use Rattle.division.proofs.TableLaws.{scale, is-scale, rules}
use Rattle.division.proofs.NumberLaws.{Ranged, scale-is, ranged, on-grid, sheet-place, scale-sheet, place-sheet, is-sheet}
use Rattle.relations.proofs.RelationLaws.{Stayed, stayed, Child, child-of, child-deep, child-few, parent_in, parent-low}
use Rattle.division.proofs.GridLaws.{high-in, north-is}
use Rattle.division.proofs.FamilyLaws.{deep-place, parted, above}

-- ---- parent and child

-- what is answered of a child
pub record Answered (n s number k : ℕ) : Type 0 where
  pub part : Child s n number
  pub is : k ≡ first s + part_index (parts s) (index_of n) number

pub child-answered : (n s number : ℕ) {k : ℕ} → child n s number ≡ answer k → Answered n s number k
unfolding child
child-answered n s number e =
    let a = passed 3 (is_sheet n) _ e in
    let b = passed 2 (is_scale s) _ a.1 in
    let c = passed 6 (is_part s (scale_of n) number) _ b.1 in
    record { part = child-of s n number (scale s b.0) a.0 c.0; is = sym (same_answer c.1) }

module _ {n s number k : ℕ} (a : Answered n s number k) where
  range : Ranged s k
  range = record { scale = a.part.scale; low = omega (arith, a.is); high = omega (arith, a.is, child-few a.part) }

  pub child-scale : scale_of k ≡ s
  child-scale = scale-is s k range

  pub child-sheet : is_sheet k ≡ true
  child-sheet = le-leb k 7_953_173 (omega (arith, range.high, (rules a.part.scale).low))

  child-index : k - first s ≡ part_index (parts s) (index_of n) number
  child-index = omega (arith, a.is)

  left : number - 1 < parts s
  left = omega (arith, a.part.one, a.part.last)

  parent-index : (k - first s) / parts s ≡ index_of n
  parent-index = rw child-index (digits_div (index_of n) left)

  number-index : (k - first s) % parts s + 1 ≡ number
  number-index = rw child-index (rw (digits_mod (index_of n) left) (omega (arith, a.part.one)))

-- "A child is asked by scale and number": its parent is the sheet that was asked
pub child-has-parent : (n s number : ℕ) {k : ℕ} → child n s number ≡ answer k → parent k ≡ answer n
unfolding parent
child-has-parent n s number {k} e =
    let a = child-answered n s number e in
    let c = a.part in
    let z : 1 ≤ parent_scale s = omega (arith, c.from, (ranged n c.sheet).scale.one) in
    rw (child-sheet a, child-scale a, le-leb 1 (parent_scale s) z, parent-index a, c.from) (ap answer (omega (arith, (ranged n c.sheet).low)))

-- and each number asks for another child
pub child-tells : (n s i j : ℕ) {k : ℕ} → child n s i ≡ answer k → child n s j ≡ answer k → i ≡ j
child-tells n s i j e f = sym (number-index (child-answered n s i e)) ∙ number-index (child-answered n s j f)

-- there is a child of each number that the scale has
pub child-there : (n s number : ℕ) → is_sheet n ≡ true → is_scale s ≡ true → parent_scale s ≡ scale_of n → between 1 (parts s) number ≡ true → child n s number ≡ answer (first s + part_index (parts s) (index_of n) number)
unfolding child
child-there n s number h i f b = rw (h, i, eq-eqb (parent_scale s) (scale_of n) f, b)

-- a sheet that has a parent is one of its children
again : (k n : ℕ) → is_sheet k ≡ true → 1 ≤ parent_scale (scale_of k) → n ≡ first (parent_scale (scale_of k)) + index_of k / parts (scale_of k) → child n (scale_of k) (index_of k % parts (scale_of k) + 1) ≡ answer k
again k n h z e =
    let s = scale_of k in
    let i = index_of k in
    let d : parent_scale s ≡ 0 → ⊥ = λ f. omega arith in
    let r = ranged k h in
    let t : Ranged (parent_scale s) n = record { scale = above r.scale d; low = omega (arith, e); high = omega (arith, e, parent_in k h d) } in
    let q : scale_of n ≡ parent_scale s = scale-is (parent_scale s) n t in
    let f : index_of n ≡ i / parts s = ap (λ (u : ℕ). n - first u) q ∙ omega (arith, e) in
    let g : is_sheet n ≡ true = le-leb n 7_953_173 (omega (arith, e, parent-low k h d)) in
    let few : i % parts s + 1 ≤ parts s = left-few (side s) i (parted r.scale d).some in
    let sum : first s + (i / parts s * parts s + (i % parts s + 1 - 1)) ≡ k = omega (arith, div-add-mod' i (parts s), r.low) in
    child-there n s (i % parts s + 1) g (is-scale r.scale) (sym q) (in_between 1 (parts s) (i % parts s + 1) (omega arith) few)
    ∙ ap (λ (j : ℕ). answer (first s + part_index (parts s) j (i % parts s + 1))) f ∙ ap answer sum

pub parent-has-child : (k : ℕ) {n : ℕ} → parent k ≡ answer n → (number : ℕ) × (child n (scale_of k) number ≡ answer k)
unfolding parent
parent-has-child k {n} e =
    let a = passed 3 (is_sheet k) _ e in
    let b = passed 6 (1 ≤? parent_scale (scale_of k)) _ a.1 in
    (index_of k % parts (scale_of k) + 1, again k n a.0 (leb-true 1 (parent_scale (scale_of k)) b.0) (sym (same_answer b.1)))

-- the numbers run row by row from the upper left of the parent, from 1
pub child-is-at : (n s number : ℕ) {k : ℕ} → child n s number ≡ answer k → place_of k ≡ child_place (side s) (place_of n) number
child-is-at n s number {k} e =
    let a = child-answered n s number e in
    let x : Indexed s (k - first s) = record { scale = a.part.scale; in-sheets = omega (arith, (range a).low, (range a).high) } in
    rw (child-scale a, deep-place a.part.scale (child-deep a.part) (k - first s) x, parent-index a, number-index a, a.part.from)

-- a child lies within its parent
part_in : (up k j w : ℕ) → j < k → (up * (w * k) ≤ (up * k + j) * w) × ((up * k + j + 1) * w ≤ (up + 1) * (w * k))
part_in up k j w h =
    let m : (j + 1) * w ≤ k * w = mul-le-mul_right w (omega arith) in
    (omega arith, omega arith)

-- a place lies within another where its columns and its rows do
pub record Within (s t : ℕ) (p q : Place) : Type 0 where
  pub west : p.column * millimetres (width s) ≤ q.column * millimetres (width t)
  pub east : (q.column + 1) * millimetres (width t) ≤ (p.column + 1) * millimetres (width s)
  pub north : p.row * millimetres (height s) ≤ q.row * millimetres (height t)
  pub south : (q.row + 1) * millimetres (height t) ≤ (p.row + 1) * millimetres (height s)

pub within-edges : {s t : ℕ} (p q : Place) → OnGrid s p → OnGrid t q → Within s t p q → within (edges_of s p) (edges_of t q) ≡ true
unfolding edges_of
within-edges {s} {t} p q o u w =
    let a : (p.row + 1) * millimetres (height s) ≤ 600_000_000 = high-in o.scale (p.row + 1) (omega (arith, o.in_rows)) in
    let b : (q.row + 1) * millimetres (height t) ≤ 600_000_000 = high-in u.scale (q.row + 1) (omega (arith, u.in_rows)) in
    rw (north-is s (p.row + 1) a, north-is s p.row (omega arith), north-is t (q.row + 1) b, north-is t q.row (omega arith), le-leb (200_000_000 + p.column * millimetres (width s)) (200_000_000 + q.column * millimetres (width t)) (omega (arith, w.west)), le-leb (200_000_000 + (q.column + 1) * millimetres (width t)) (200_000_000 + (p.column + 1) * millimetres (width s)) (omega (arith, w.east)), le-leb (5_170_000_000 - (p.row + 1) * millimetres (height s)) (5_170_000_000 - (q.row + 1) * millimetres (height t)) (omega (arith, w.south)))
    (le-leb (5_170_000_000 - q.row * millimetres (height t)) (5_170_000_000 - p.row * millimetres (height s)) (omega (arith, w.north)))

pub child-lies-within : (n s number : ℕ) {k : ℕ} → child n s number ≡ answer k → within (ground_of n) (ground_of k) ≡ true
child-lies-within n s number {k} e =
    let a = child-answered n s number e in
    let c = a.part in
    let h = (parted c.scale (child-deep c)).some in
    let up = place_of n in
    let j = number - 1 in
    let wide : millimetres (width (scale_of n)) ≡ millimetres (width s) * side s = omega (arith, (rules c.scale).wide-parts, ap width c.from) in
    let high : millimetres (height (scale_of n)) ≡ millimetres (height s) * side s = omega (arith, (rules c.scale).high_parts, ap height c.from) in
    let x = part_in up.column (side s) (j % side s) (millimetres (width s)) (mod-lt j h) in
    let y = part_in up.row (side s) (j / side s) (millimetres (height s)) (quot h (omega (arith, c.one, c.last))) in
    let o : OnGrid s (child_place (side s) up number) = subst (OnGrid s) (child-is-at n s number e) (subst (λ (t : ℕ). OnGrid t (place_of k)) (child-scale a) (on-grid k (child-sheet a))) in
    let g : ground_of k ≡ edges_of s (child_place (side s) up number) = ap₂ edges_of (child-scale a) (child-is-at n s number e) in
    rw g (within-edges up (child_place (side s) up number) (on-grid n c.sheet) o
    (record { west = rw wide x.0; east = rw wide x.1; north = rw high y.0; south = rw high y.1 }))

-- ---- step and offset

-- a step that leads to a place of the grid leads to its sheet
stays_at : (at : ℕ) (by : ℤ) {c : ℕ} (count : ℕ) → moved at by ≡ pos c → c < count → stays at by count ≡ true
stays_at at by {c} count e l = rw (e, le-leb 0 c (omega arith)) (lt-ltb c count l)

lands : (n : ℕ) (east south : ℤ) (p : Place) → is_sheet n ≡ true → OnGrid (scale_of n) p → moved (place_of n).column east ≡ pos p.column → moved (place_of n).row south ≡ pos p.row → step n east south ≡ answer (sheet_of (scale_of n) p)
unfolding step walk
lands n east south p h o e f =
    rw (h, stays_at (place_of n).column east (columns (scale_of n)) e o.in-columns, stays_at (place_of n).row south (rows (scale_of n)) f o.in_rows, e, f)

-- "the signed pair, east then south, whose step leads from the first to the second"
forth : (a b : ℕ) → moved a (pos b -ℤ pos a) ≡ pos b
forth a b = +ℤ_comm (pos a) (pos b -ℤ pos a) ∙ -ℤ-+ℤ_cancel (pos b) (pos a)

offset-is : (a b : ℕ) → is_sheet a ≡ true → is_sheet b ≡ true → scale_of a ≡ scale_of b → offset a b ≡ answer (apart (place_of a) (place_of b))
unfolding offset
offset-is a b h l e = rw (h, l, eq-eqb (scale_of a) (scale_of b) e)

pub offset-leads : (a b : ℕ) → is_sheet a ≡ true → is_sheet b ≡ true → scale_of a ≡ scale_of b → (offset a b >>= λ o. step a o.east o.south) ≡ answer b
offset-leads a b h l e =
    let p = place_of a in
    let q = place_of b in
    let o : OnGrid (scale_of a) q = subst (λ (s : ℕ). OnGrid s q) (sym e) (on-grid b l) in
    ap (λ (r : Paper Offset). r >>= λ o. step a o.east o.south) (offset-is a b h l e)
    ∙ lands a (pos q.column -ℤ pos p.column) (pos q.row -ℤ pos p.row) q h o (forth p.column q.column) (forth p.row q.row)
    ∙ ap (λ (s : ℕ). answer (sheet_of s q)) e ∙ ap answer (sheet-place b l)

-- and the offset of a step is the step
back : (a : ℕ) (by : ℤ) {c : ℕ} → moved a by ≡ pos c → pos c -ℤ pos a ≡ by
back a by e = ap (λ (z : ℤ). z -ℤ pos a) (sym e ∙ +ℤ_comm (pos a) by) ∙ +ℤ-neg_ℤ_cancel by (pos a)

pair : {a b c d : ℤ} → a ≡ c → b ≡ d → ◌≡◌ {A = Offset} (record { east = a; south = b }) (record { east = c; south = d })
pair e f = λ i. record { east = e i; south = f i }

landed : (n : ℕ) (east south : ℤ) {k : ℕ} → is_sheet n ≡ true → (x : Stayed (place_of n).column east (columns (scale_of n))) (y : Stayed (place_of n).row south (rows (scale_of n)))
    → k ≡ sheet_of (scale_of n) (record { row = nat_abs (moved (place_of n).row south); column = nat_abs (moved (place_of n).column east) }) → offset n k ≡ answer (record { east = east; south = south })
landed n east south {k} h x y e =
    let q : Place = record { row = y.to.n; column = x.to.n } in
    let o : OnGrid (scale_of n) q = record { scale = (on-grid n h).scale; in_rows = y.in_count; in-columns = x.in_count } in
    let f : k ≡ sheet_of (scale_of n) q = e ∙ ap (sheet_of (scale_of n)) (place (ap nat_abs y.to.is) (ap nat_abs x.to.is)) in
    let s : scale_of k ≡ scale_of n = ap scale_of f ∙ scale-sheet o in
    let g : is_sheet k ≡ true = ap is_sheet f ∙ is-sheet o in
    offset-is n k h g (sym s) ∙ ap (λ (p : Place). answer (apart (place_of n) p)) (ap place_of f ∙ place-sheet o)
    ∙ ap answer (pair (back (place_of n).column east x.to.is) (back (place_of n).row south y.to.is))

pub step-offset : (n : ℕ) (east south : ℤ) {k : ℕ} → step n east south ≡ answer k → offset n k ≡ answer (record { east = east; south = south })
unfolding step walk
step-offset n east south {k} e =
    let a = passed 3 (is_sheet n) _ e in
    let b = passed 6 (stays (place_of n).column east (columns (scale_of n))) _ a.1 in
    let c = passed 6 (stays (place_of n).row south (rows (scale_of n))) _ b.1 in
    landed n east south a.0 (stayed (place_of n).column east (columns (scale_of n)) b.0) (stayed (place_of n).row south (rows (scale_of n)) c.0) (sym (same_answer c.1))

-- ---- neighbours

-- the middle is the sheet itself
pub stays_put : (n : ℕ) → is_sheet n ≡ true → step n (pos 0) (pos 0) ≡ answer n
stays_put n h =
    lands n (pos 0) (pos 0) (place_of n) h (on-grid n h) (ap pos (omega arith)) (ap pos (omega arith)) ∙ ap answer (sheet-place n h)

-- "a block of three rows of three, the sheet itself in the middle, rows from the north, each from the west"
abbrev there : ℕ → ℤ → ℤ → Option ℕ
there n east south = or_none (step n east south)

pub neighbours-are : (n : ℕ) → is_sheet n ≡ true → neighbours n ≡
    (there n (negsuc 0) (negsuc 0) ∷ there n (pos 0) (negsuc 0) ∷ there n (pos 1) (negsuc 0) ∷ []) ∷
    (there n (negsuc 0) (pos 0) ∷ Some n ∷ there n (pos 1) (pos 0) ∷ []) ∷
    (there n (negsuc 0) (pos 1) ∷ there n (pos 0) (pos 1) ∷ there n (pos 1) (pos 1) ∷ []) ∷ []
unfolding neighbours
neighbours-are n h = rw (stays_put n h)

-- "For a refused sheet all nine are none"
pub no-neighbours : (n : ℕ) → is_sheet n ≡ false → neighbours n ≡ replicate 3 (replicate 3 None)
unfolding neighbours step
no-neighbours n h = rw h
