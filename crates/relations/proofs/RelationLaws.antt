-- A place that stays on its line when it is moved is a plain number below the line's count, and a part's index lies in its parent's. Assumes nothing.
use mathlib.Core.Path.{◌≡◌, refl, sym, ◌∙◌}
use mathlib.Core.Bool.{Bool, true}
use mathlib.Core.List.{[], ◌∷◌}
use Prim.Native.Nat.{ℕ, ◌+◌, ◌*◌, ◌/◌, ◌≤◌, ◌<◌}
use native.Mathlib.Nat.{mul-le-mul_right}
use native.Mathlib.Omega.{arith}
use borrow.Author.Tests.{le-leb, leb-true, ltb-true, eqb-true}
use lib.IntN.{ℤ, pos, nat_abs}
use Rattle.refusal.specs.declared.Refusal.{Refusal}
use Rattle.refusal.specs.Paper.{Paper, answer, refuse◌unless◌, ◌>>◌}
use Rattle.std.specs.Prelude.{Result, Ok, Err}
use Rattle.std.specs.Result.{result_ok}
use Rattle.refusal.specs.Numbers.{on_paper, paper}
use Rattle.refusal.proofs.PaperLaws.{refuses-so, on-paper, passed, same_answer}
use Rattle.division.specs.declared.Spot.{Spot}
use Rattle.division.specs.Words.{◌≤?◌, ◌=?◌, ◌≤ᶻ◌, ◌<ᶻ◌, between}
use Rattle.division.specs.Table.{is_scale, rows, columns, sheets, first, parent_scale, parts}
use Rattle.division.specs.Sheet.{is_sheet, scale_of, index_of, part_index, spot_of, locate}
use Rattle.relations.specs.Relations.{parent, moved, stays, is_part, or_none, walk}
use Rattle.relations.specs.Given.{moved_on}
use Rattle.division.specs.Given.{IsScale, OnGrid}
use Rattle.division.proofs.TestLaws.{both, Plain, from-pos}
use Rattle.division.proofs.TableLaws.{rules, scale as is-a-scale}
use Rattle.division.proofs.NumberLaws.{ranged, indexed}
use Rattle.division.proofs.FamilyLaws.{above, sheets-family, parent-indexed}

-- what is not located is refused alike by who asks for a sheet first
pub not-located : {A : Type 0} (n : ℕ) (next : Paper A) (why : Refusal) → locate n ≡ on_paper why → ((refuse 3 unless is_sheet n) >> next) ≡ on_paper why
unfolding locate
not-located n next why e = refuses-so (refuse 3 unless is_sheet n) (spot_of n) next why e

-- ---- moves

pub record Stayed (at : ℕ) (by : ℤ) (count : ℕ) : Type 0 where
  pub to : Plain (moved at by)
  pub in_count : to.n < count

pub stayed : (at : ℕ) (by : ℤ) (count : ℕ) → stays at by count ≡ true → Stayed at by count
stayed at by count e =
    let b = both (pos 0 ≤ᶻ moved at by) (moved at by <ᶻ pos count) e in
    let p = (from-pos (moved at by) b.0).0 in
    record { to = p; in_count = ltb-true p.n count (rw p.is at b.1) }

-- a place that stays both ways is on the grid
pub walked_on : (at : Spot) (east south : ℤ) → OnGrid at.scale at.place → stays at.place.column east (columns at.scale) ≡ true → stays at.place.row south (rows at.scale) ≡ true
    → OnGrid at.scale (record { row = nat_abs (moved at.place.row south); column = nat_abs (moved at.place.column east) })
walked_on at east south h e f =
    let x = stayed at.place.column east (columns at.scale) e in
    let y = stayed at.place.row south (rows at.scale) f in
    record { scale = h.scale; in_rows = rw y.to.is y.in_count; in-columns = rw x.to.is x.in_count }

-- a move off the line is refused of the step, the columns first
pub off-columns : (at : Spot) (east south : ℤ) (why : Refusal) → moved_on at.place.column east (columns at.scale) ≡ on_paper why → walk at east south ≡ on_paper why
unfolding walk
off-columns at east south why e = refuses-so (refuse 6 unless stays at.place.column east (columns at.scale)) (nat_abs (moved at.place.column east)) _ why e

pub off-rows : (at : Spot) (east south : ℤ) (why : Refusal) → stays at.place.column east (columns at.scale) ≡ true → moved_on at.place.row south (rows at.scale) ≡ on_paper why → walk at east south ≡ on_paper why
unfolding walk
off-rows at east south why h e = rw h (refuses-so (refuse 6 unless stays at.place.row south (rows at.scale)) (nat_abs (moved at.place.row south)) _ why e)

pub moved-is : (at : ℕ) (by : ℤ) (count : ℕ) {to : ℕ} → moved_on at by count ≡ answer to → (stays at by count ≡ true) × (to ≡ nat_abs (moved at by))
moved-is at by count e = let p = passed 6 (stays at by count) _ e in (p.0, sym (same_answer p.1))

-- a step as a place of the block
pub as-place : (r : Result ℕ Refusal) → result_ok r ≡ or_none (paper r)
as-place (Ok n) = refl
as-place (Err why) = rw ((on-paper why).is ℕ)

-- a row of three, place by place
pub three : {A : Type 0} {a b c x y z : A} → a ≡ x → b ≡ y → c ≡ z → a ∷ b ∷ c ∷ [] ≡ x ∷ y ∷ z ∷ []
three e f g = λ i. e i ∷ f i ∷ g i ∷ []

-- ---- a sheet, its parent and its children

-- a sheet whose scale has a parent
module _ (n : ℕ) (h : is_sheet n ≡ true) (e : parent_scale (scale_of n) ≡ 0 → ⊥) where
  pub parent_in : index_of n / parts (scale_of n) < sheets (parent_scale (scale_of n))
  parent_in = (parent-indexed (ranged n h).scale e (index_of n) (indexed n h)).in-sheets

  pub parent-is : parent n ≡ answer (first (parent_scale (scale_of n)) + index_of n / parts (scale_of n))
  unfolding parent
  parent-is = rw (h, le-leb 1 (parent_scale (scale_of n)) (omega arith))

  pub parent-low : first (parent_scale (scale_of n)) + index_of n / parts (scale_of n) < 7_953_174
  parent-low = omega (arith, parent_in, (rules (above (ranged n h).scale e)).low)

-- a part of a sheet at a scale
pub record Child (s n number : ℕ) : Type 0 where
  pub scale : IsScale s
  pub sheet : is_sheet n ≡ true
  pub from : parent_scale s ≡ scale_of n
  pub one : 1 ≤ number
  pub last : number ≤ parts s

pub child-of : (s n number : ℕ) → IsScale s → is_sheet n ≡ true → is_part s (scale_of n) number ≡ true → Child s n number
child-of s n number h z e =
    let b = both (parent_scale s =? scale_of n) (between 1 (parts s) number) e in
    let d = both (1 ≤? number) (number ≤? parts s) b.1 in
    record {
      scale = h;
      sheet = z;
      from = eqb-true (parent_scale s) (scale_of n) b.0;
      one = leb-true 1 number d.0;
      last = leb-true number (parts s) d.1;
    }

-- by what the code asked before
pub asked : {s n number up : ℕ} {sheet scale part : Bool} → sheet ≡ is_sheet n → sheet ≡ true → scale ≡ is_scale s → scale ≡ true → up ≡ scale_of n → part ≡ is_part s up number → part ≡ true → Child s n number
asked {s} {n} {number} a b c d e f g = child-of s n number (is-a-scale s (sym c ∙ d)) (sym a ∙ b) (rw e at (sym f ∙ g))

module _ {s n number : ℕ} (c : Child s n number) where
  pub child-deep : parent_scale s ≡ 0 → ⊥
  child-deep e = omega (arith, c.from, (ranged n c.sheet).scale.one)

  child-in : index_of n < sheets (parent_scale s)
  child-in = rw c.from (indexed n c.sheet).in-sheets

  room : (index_of n + 1) * parts s ≤ sheets s
  room =
      let m : (index_of n + 1) * parts s ≤ sheets (parent_scale s) * parts s = mul-le-mul_right (parts s) (omega (arith, child-in)) in
      omega (arith, sheets-family c.scale child-deep)

  pub child-part : (1 ≤ number) × ((number ≤ parts s) × ((index_of n + 1) * parts s ≤ 6_000_000))
  child-part = (c.one, (c.last, omega (arith, room, (rules c.scale).few)))

  pub child-few : part_index (parts s) (index_of n) number < sheets s
  child-few = omega (arith, room, c.one, c.last)
