-- Local numbers and sheets undo each other: at 1:2 000 a number is a place in the list by rows, and below it a part has one parent and one
-- number there. Assumes nothing.
use mathlib.Core.Path.{◌≡◌, refl, sym, ap, ◌∙◌, subst}
use mathlib.Core.Bool.{Bool, true, false, cond}
use mathlib.Core.Logic.{◌↔◌, ◌⊎◌, inl, inr, ⊎_elim}
use mathlib.Core.List.{List, [], ◌∷◌, Memᴰ}
use Prim.Native.Nat.{ℕ, ◌+◌, ◌-◌, ◌≤◌, ◌<◌}
use native.Mathlib.Omega.{arith}
use borrow.Author.Tests.{le-leb, leb-true, eqb-true, eqb-false, ne_eqb}
use lib.ListN.{length, get_or}
use Rattle.refusal.specs.Paper.{Paper, answer, refused}
use Rattle.refusal.specs.Numbers.{is_in}
use Rattle.refusal.proofs.PaperLaws.{passed, passed-judge, found, same_answer, some-answer, differs}
use Rattle.rising.specs.Rising.{rising_from, IsSet}
use Rattle.rising.proofs.RisingTheorems.{set-passes, passes-set}
use Rattle.division.specs.Words.{◌≤?◌, ◌<?◌, ◌=?◌, between, from, keep}
use Rattle.division.specs.Table.{table, table_row, is_scale, rows_of, columns_of, parts, first}
use Rattle.division.specs.Sheet.{is_sheet, part_index, scale_of, index_of, place_of, place_at, reading_order}
use Rattle.division.proofs.TestLaws.{in_between, between_in, le-or-less}
use Rattle.division.proofs.NumberLaws.{ranged}
use Rattle.division.proofs.MemberLaws.{in_mem, mem-in, mem-at}
use Rattle.relations.specs.Relations.{is_part, parent, child}
use Rattle.relations.proofs.RelationTheorems.{child-answered, child-scale, child-sheet, child-has-parent}
use Rattle.local.specs.declared.Local.{Local}
use Rattle.local.specs.declared.Local.TheVariants.{One, Two, Three}
use Rattle.municipality.specs.Municipality.{of2000, municipality}
use Rattle.local.specs.Rows.{by_rows, place_in}
use Rattle.local.specs.Numbers.{sheet_numbered, part, stands_for, local_to_sheet, number_of, part_number, one_number, two_numbers, three_numbers, numbers_of, sheet_to_local, from_three, as_three}
use Rattle.municipality.specs.Given.{OfScale}
use Rattle.local.specs.Given.{Part, Municipal}
use Rattle.local.specs.Theorems.{SheetOf, listed, quarter, sixteenth, Before}
use Rattle.local.proofs.CountLaws.{place-in, at_place, count}
use Rattle.local.proofs.OrderLaws.{rises-apart, places-rise}
use Rattle.local.proofs.MunicipalityLaws.{member-scale}
use Rattle.local.proofs.RowLaws.{placed-7, order_is, columns-are, row_first, rows-rise, into-rows, from-rows, length-rows, place_is}
use Rattle.local.proofs.NumberLaws.{has-parent, child-number, parent-child, is-part, parent-scale, parent-part, numbered, one_outside, two-outside, three-outside, numbers-no-sheet, numbers-at-7, numbers-at-8, numbers-at-9, numbers-below-7}

-- ---- "a rising list of 1 to 400 sheet numbers": what a municipality is

pub municipality-iff : (s : List ℕ) → (municipality s ≡ answer tt) ↔ ((1 ≤ length s) × IsSet of2000 400 s)
unfolding municipality
municipality-iff s = (there, λ h. rw (in_between 1 400 (length s) h.0 h.1.few) (set-passes of2000 400 s h.1))
  where
    there : municipality s ≡ answer tt → (1 ≤ length s) × IsSet of2000 400 s
    there e =
        let p = passed 23 (between 1 400 (length s)) _ e in
        let b = between_in 1 400 (length s) p.0 in
        (b.0, passes-set of2000 400 s b.1 p.1)

seven-to-nine : (s : ℕ) → 7 ≤ s → s ≤ 9 → (s ≡ 7) ⊎ ((s ≡ 8) ⊎ (s ≡ 9))
seven-to-nine s h l = by (s =? 7) refl (s =? 8) refl
  where
    by : (a : Bool) → (s =? 7) ≡ a → (b : Bool) → (s =? 8) ≡ b → (s ≡ 7) ⊎ ((s ≡ 8) ⊎ (s ≡ 9))
    by true e b f = inl (eqb-true s 7 e)
    by false e true f = inr (inl (eqb-true s 8 f))
    by false e false f = inr (inr (omega (arith, eqb-false s 7 e, eqb-false s 8 f)))

-- ---- a number and its 1:2 000 sheet, where the list is a municipality

-- a sheet that has a number is one of the list
listed-sheet : (s : List ℕ) (k n : ℕ) → number_of s k ≡ answer n → is_in s k ≡ true
unfolding number_of
listed-sheet s k n e = (passed 6 (is_in s k) _ e).0

listed-number : (s : List ℕ) (k : ℕ) → is_in s k ≡ true → (n : ℕ) × (number_of s k ≡ answer n)
listed-number s k h = (1 + place_in k (by_rows s), numbered s k h)

-- what two numbers lead to, part by part
steps-of-two : (s : List ℕ) (n a k : ℕ) → part (sheet_numbered s n) 8 a ≡ answer k → (up : ℕ) × (sheet_numbered s n ≡ answer up) × (child up 8 a ≡ answer k)
steps-of-two s n a k e = found (sheet_numbered s n) (λ k. child k 8 a) e

module _ {s : List ℕ} (m : Municipal s) where
  -- the number of a sheet stands for it
  number-sheet : (k n : ℕ) → number_of s k ≡ answer n → sheet_numbered s n ≡ answer k
  unfolding number_of sheet_numbered
  number-sheet k n e =
      let p = passed 6 (is_in s k) _ e in
      let g = place-in k (into-rows m (in_mem k s p.0)) in
      let f : n ≡ 1 + place_in k (by_rows s) = sym (same_answer p.1) in
      let i : n - 1 ≡ place_in k (by_rows s) = omega (arith, f) in
      rw (le-leb 1 n (omega (arith, f)), le-leb n (length s) (omega (arith, f, g.0, length-rows m)), i) (ap answer g.1)

  -- and a number that has a sheet is that sheet's
  sheet-number : (n k : ℕ) → sheet_numbered s n ≡ answer k → number_of s k ≡ answer n
  unfolding number_of sheet_numbered
  sheet-number n k e =
      let p = passed 6 (between 1 (length s) n) _ e in
      let b = between_in 1 (length s) n p.0 in
      let g : get_or (by_rows s) (n - 1) 0 ≡ k = same_answer p.1 in
      let i : n - 1 < length (by_rows s) = omega (arith, b.0, b.1, length-rows m) in
      let at : place_in k (by_rows s) ≡ n - 1 = subst (λ (j : ℕ). place_in j (by_rows s) ≡ n - 1) g (at_place (by_rows s) (n - 1) (rises-apart reading_order (by_rows s) (rows-rise s)) i) in
      let mem : Memᴰ k s = subst (λ (j : ℕ). Memᴰ j s) g (from-rows s (mem-at (by_rows s) (n - 1) i)) in
      rw (mem-in k mem, at) (ap answer (omega (arith, b.0)))

  -- ---- from a sheet's local numbers to the sheet

  one-forth : (k : ℕ) (l : Local) → one_number s k ≡ answer l → stands_for s l ≡ answer k
  unfolding one_number stands_for
  one-forth k l e =
      let n = found (number_of s k) _ e in
      subst (λ (l : Local). stands_for s l ≡ answer k) (same_answer n.2) (number-sheet k n.0 n.1)

  two-forth : (k : ℕ) (l : Local) → scale_of k ≡ 8 → two_numbers s k ≡ answer l → stands_for s l ≡ answer k
  unfolding two_numbers stands_for
  two-forth k l f e =
      let up = found (parent k) _ e in
      let n = found (number_of s up.0) _ up.2 in
      subst (λ (l : Local). stands_for s l ≡ answer k) (same_answer n.2) (rw (number-sheet up.0 n.0 n.1) (parent-child k 8 f up.1))

  three-forth : (k : ℕ) (l : Local) → scale_of k ≡ 9 → three_numbers s k ≡ answer l → stands_for s l ≡ answer k
  unfolding three_numbers stands_for
  three-forth k l f e =
      let up = found (parent k) _ e in
      let top = found (parent up.0) _ up.2 in
      let n = found (number_of s top.0) _ top.2 in
      let q = parent-child up.0 8 (parent-scale k up.1 f) top.1 in
      subst (λ (l : Local). stands_for s l ≡ answer k) (same_answer n.2) (rw (number-sheet top.0 n.0 n.1, q) (parent-child k 9 f up.1))

  forth : (k : ℕ) (l : Local) → numbers_of s k ≡ answer l → stands_for s l ≡ answer k
  unfolding numbers_of
  forth k l e =
      let p = passed 3 (is_sheet k) _ e in
      let q = passed 6 (7 ≤? scale_of k) _ p.1 in
      by (seven-to-nine (scale_of k) (leb-true 7 (scale_of k) q.0) (ranged k p.0).scale.nine) p.0 e
    where
      by : (scale_of k ≡ 7) ⊎ ((scale_of k ≡ 8) ⊎ (scale_of k ≡ 9)) → is_sheet k ≡ true → numbers_of s k ≡ answer l → stands_for s l ≡ answer k
      by (inl f) h e = one-forth k l (sym (numbers-at-7 s k h f) ∙ e)
      by (inr (inl f)) h e = two-forth k l f (sym (numbers-at-8 s k h f) ∙ e)
      by (inr (inr f)) h e = three-forth k l f (sym (numbers-at-9 s k h f) ∙ e)

  -- ---- and from local numbers to a sheet that has them

  one-back : (n k : ℕ) → sheet_numbered s n ≡ answer k → numbers_of s k ≡ answer (One n)
  unfolding one_number
  one-back n k e =
      let f = sheet-number n k e in
      let d = member-scale m (in_mem k s (listed-sheet s k n f)) in
      numbers-at-7 s k d.sheet d.scale ∙ rw f

  two_back : (n a up k : ℕ) → sheet_numbered s n ≡ answer up → child up 8 a ≡ answer k → numbers_of s k ≡ answer (Two n a)
  unfolding two_numbers
  two_back n a up k e f =
      let c = child-answered up 8 a f in
      numbers-at-8 s k (child-sheet c) (child-scale c) ∙ rw (child-has-parent up 8 a f, sheet-number n up e, child-number up 8 a f)

  three_back : (n a b top up k : ℕ) → sheet_numbered s n ≡ answer top → child top 8 a ≡ answer up → child up 9 b ≡ answer k → numbers_of s k ≡ answer (Three n a b)
  unfolding three_numbers
  three_back n a b top up k e f g =
      let c = child-answered up 9 b g in
      numbers-at-9 s k (child-sheet c) (child-scale c) ∙ rw (child-has-parent up 9 b g, child-has-parent top 8 a f, sheet-number n top e, child-number top 8 a f, child-number up 9 b g)

  back : (l : Local) (k : ℕ) → stands_for s l ≡ answer k → numbers_of s k ≡ answer l
  unfolding stands_for
  back (One n) k e = one-back n k e
  back (Two n a) k e = let up = steps-of-two s n a k e in two_back n a up.0 k up.1 up.2
  back (Three n a b) k e =
      let up = found (part (sheet_numbered s n) 8 a) (λ k. child k 9 b) e in
      let top = steps-of-two s n a up.0 up.1 in
      three_back n a b top.0 up.0 k top.1 top.2 up.2

-- ---- "each undoing the other for every sheet of the municipality at scales 7, 8 and 9"

pub numbers-lead-back : (s : List ℕ) (k : ℕ) (l : Local) → sheet_to_local s k ≡ answer l → local_to_sheet s l ≡ answer k
unfolding sheet_to_local local_to_sheet
numbers-lead-back s k l e =
    let p = passed-judge (municipality s) (numbers_of s k) e in
    rw p.0 (forth (record { is = p.0 }) k l p.1)

pub sheet-has-numbers : (s : List ℕ) (l : Local) (k : ℕ) → local_to_sheet s l ≡ answer k → sheet_to_local s k ≡ answer l
unfolding sheet_to_local local_to_sheet
sheet-has-numbers s l k e =
    let p = passed-judge (municipality s) (stands_for s l) e in
    rw p.0 (back (record { is = p.0 }) l k p.1)

-- so no two sheets have the same local numbers
pub numbers-tell : (s : List ℕ) (j k : ℕ) (l : Local) → sheet_to_local s j ≡ answer l → sheet_to_local s k ≡ answer l → j ≡ k
numbers-tell s j k l e f = same_answer (sym (numbers-lead-back s j l e) ∙ numbers-lead-back s k l f)

-- and numbers that are refused are no sheet's
pub refused-are-none : (s : List ℕ) (l : Local) {number value : ℕ} → local_to_sheet s l ≡ refused number value → (k : ℕ) → sheet_to_local s k ≡ answer l → ⊥
refused-are-none s l e k f = differs (sym (numbers-lead-back s k l f) ∙ e)

-- a sheet has local numbers, which lead back to it, exactly if it is one of the municipality
module _ (s : List ℕ) (k : ℕ) where
  pub all-have-numbers : municipality s ≡ answer tt → SheetOf s k → (l : Local) × (sheet_to_local s k ≡ answer l) × (local_to_sheet s l ≡ answer k)
  unfolding sheet_to_local
  all-have-numbers e o = let l = has-numbers o in (l.0, l.1, numbers-lead-back s k l.0 l.1)
    where
      m : Municipal s
      m = record { is = e }

      number : (top : ℕ) → is_in s top ≡ true → (n : ℕ) × (sheet_numbered s n ≡ answer top)
      number top h = let n = listed-number s top h in (n.0, number-sheet m top n.0 n.1)

      has-numbers : SheetOf s k → (l : Local) × (sheet_to_local s k ≡ answer l)
      has-numbers (listed h) = let n = number k h in (One n.0, rw e (one-back m n.0 k n.1))
      has-numbers (quarter top a h c) = let n = number top h in (Two n.0 a, rw e (two_back m n.0 a top k n.1 c))
      has-numbers (sixteenth top up a b h c d) = let n = number top h in (Three n.0 a b, rw e (three_back m n.0 a b top up k n.1 c d))

  pub others-have-none : (l : Local) → sheet_to_local s k ≡ answer l → SheetOf s k
  unfolding local_to_sheet stands_for
  others-have-none l e =
      let p = passed-judge (municipality s) (stands_for s l) (numbers-lead-back s k l e) in
      by l (record { is = p.0 }) p.1
    where
      by : (l : Local) → Municipal s → stands_for s l ≡ answer k → SheetOf s k
      by (One n) m e = listed (listed-sheet s k n (sheet-number m n k e))
      by (Two n a) m e =
          let up = steps-of-two s n a k e in
          quarter up.0 a (listed-sheet s up.0 n (sheet-number m n up.0 up.1)) up.2
      by (Three n a b) m e =
          let up = found (part (sheet_numbered s n) 8 a) (λ k. child k 9 b) e in
          let top = steps-of-two s n a up.0 up.1 in
          sixteenth top.0 up.0 a b (listed-sheet s top.0 n (sheet-number m n top.0 top.1)) top.2 up.2

-- ---- "numbered from 1 to n"

-- one number is a 1:2 000 sheet's, and tells its place
record Placed (s : List ℕ) (k n : ℕ) : Type 0 where
  pub all : Municipal s
  pub one : Memᴰ k s
  pub is : n ≡ 1 + place_in k (by_rows s)

placed : (s : List ℕ) (k n : ℕ) → sheet_to_local s k ≡ answer (One n) → Placed s k n
unfolding local_to_sheet stands_for number_of
placed s k n e =
    let p = passed-judge (municipality s) (stands_for s (One n)) (numbers-lead-back s k (One n) e) in
    let m : Municipal s = record { is = p.0 } in
    let q = passed 6 (is_in s k) _ (sheet-number m n k p.1) in
    record { all = m; one = in_mem k s q.0; is = sym (same_answer q.1) }

pub from-1-to-n : (s : List ℕ) (n : ℕ) → municipality s ≡ answer tt → ((1 ≤ n) × (n ≤ length s)) ↔ ((k : ℕ) × (is_in s k ≡ true) × (sheet_to_local s k ≡ answer (One n)))
unfolding local_to_sheet stands_for sheet_numbered
from-1-to-n s n e = (there, λ h. within h.0 h.2)
  where
    there : (1 ≤ n) × (n ≤ length s) → (k : ℕ) × (is_in s k ≡ true) × (sheet_to_local s k ≡ answer (One n))
    there h =
        let k = get_or (by_rows s) (n - 1) 0 in
        let f = sheet-has-numbers s (One n) k (rw (e, le-leb 1 n h.0, le-leb n (length s) h.1)) in
        (k, mem-in k (placed s k n f).one, f)

    within : (k : ℕ) → sheet_to_local s k ≡ answer (One n) → (1 ≤ n) × (n ≤ length s)
    within k f =
        let p = passed-judge (municipality s) (stands_for s (One n)) (numbers-lead-back s k (One n) f) in
        between_in 1 (length s) n (passed 6 (between 1 (length s) n) _ p.1).0

-- ---- "a 1:1 000 sheet adds its number in that sheet, a 1:500 sheet one more"

module _ (s : List ℕ) (up k n a : ℕ) where
  pub quarter-adds : sheet_to_local s up ≡ answer (One n) → child up 8 a ≡ answer k → sheet_to_local s k ≡ answer (Two n a)
  unfolding local_to_sheet stands_for
  quarter-adds e f =
      let p = passed-judge (municipality s) (stands_for s (One n)) (numbers-lead-back s up (One n) e) in
      sheet-has-numbers s (Two n a) k (rw (p.0, p.1) f)

  pub sixteenth-adds : (b : ℕ) → sheet_to_local s up ≡ answer (Two n a) → child up 9 b ≡ answer k → sheet_to_local s k ≡ answer (Three n a b)
  unfolding local_to_sheet stands_for
  sixteenth-adds b e f =
      let p = passed-judge (municipality s) (stands_for s (Two n a)) (numbers-lead-back s up (Two n a) e) in
      sheet-has-numbers s (Three n a b) k (rw (p.0, p.1) f)

-- ---- "by rows, left to right, starting with the first sheet of the top row"

-- a sheet's number is 1 and how many sheets of the municipality stand before it on the whole grid
pub number_counts : (s : List ℕ) (k : ℕ) → municipality s ≡ answer tt → is_in s k ≡ true → sheet_to_local s k ≡ answer (One (1 + length (keep (λ j. reading_order j <? reading_order k) s)))
unfolding sheet_to_local one_number
number_counts s k e h =
    let m : Municipal s = record { is = e } in
    let d = member-scale m (in_mem k s h) in
    let c : place_in k (by_rows s) ≡ count (λ j. reading_order j <? reading_order k) s = sym (place_is m (in_mem k s h)) in
    rw e (numbers-at-7 s k d.sheet d.scale ∙ rw (numbered s k h) (ap (λ (n : ℕ). answer (One (1 + n))) c))

before : {j k : ℕ} → OfScale 7 j → OfScale 7 k → (reading_order j < reading_order k) ↔ Before j k
before {j} {k} d e =
    rw (order_is d, order_is e, columns-are) (row_first (place_of j).row (place_of j).column (place_of k).row (place_of k).column (rw columns-are at (placed-7 d).in-columns) (rw columns-are at (placed-7 e).in-columns))

-- of two sheets of the municipality the one with the smaller number lies in a row further north, or in the same row further west
pub by_rows_lem : (s : List ℕ) (j k m n : ℕ) → sheet_to_local s j ≡ answer (One m) → sheet_to_local s k ≡ answer (One n) → (m < n) ↔ Before j k
by_rows_lem s j k m n e f =
    let p = placed s j m e in
    let q = placed s k n f in
    let t = places-rise reading_order j k (rows-rise s) (into-rows p.all p.one) (into-rows q.all q.one) in
    let u = before (member-scale p.all p.one) (member-scale q.all q.one) in
    (λ h. u.0 (t.0 (omega (arith, p.is, q.is))), λ h. omega (arith, p.is, q.is, t.1 (u.1 h)))

-- "a municipality may cross 1:50 000 sheets, where rising sheet numbers are not row order": 2-25-101-1, 2-26-101-1 and 2-1-101-2
abbrev crossing : List ℕ
crossing = 78_198 ∷ 78_199 ∷ 78_799 ∷ []

pub crossing-numbers : (sheet_to_local crossing 78_198 ≡ answer (One 1)) × (sheet_to_local crossing 78_799 ≡ answer (One 2)) × (sheet_to_local crossing 78_199 ≡ answer (One 3))
unfolding municipality rising_from scale_of keep from place_at table table_row rows_of columns_of
crossing-numbers = (number_counts crossing 78_198 refl refl, number_counts crossing 78_799 refl refl, number_counts crossing 78_199 refl refl)

-- ---- "then 3 and 6 for what is asked"

pub no-sheet-gets-3 : (s : List ℕ) (k : ℕ) → municipality s ≡ answer tt → is_sheet k ≡ false → sheet_to_local s k ≡ refused 3 0
unfolding sheet_to_local
no-sheet-gets-3 s k e f = rw e (numbers-no-sheet s k f)

not_in : (s : List ℕ) (k : ℕ) → (is_in s k ≡ true → ⊥) → is_in s k ≡ false
not_in s k h = by (is_in s k) refl
  where
    by : (b : Bool) → is_in s k ≡ b → b ≡ false
    by true e = absurd (h e)
    by false e = refl

-- "A sheet outside it .. gets 6"
pub outside-gets-6 : (s : List ℕ) (k : ℕ) → municipality s ≡ answer tt → is_sheet k ≡ true → (SheetOf s k → ⊥) → sheet_to_local s k ≡ refused 6 0
unfolding sheet_to_local
outside-gets-6 s k e h out = rw e (⊎_elim (λ l. by (seven-to-nine (scale_of k) l (ranged k h).scale.nine)) (numbers-below-7 s k h) (le-or-less 7 (scale_of k)))
  where
    up : (j : ℕ) → Part j → (a : ℕ) × (parent j ≡ answer a)
    up j p = some-answer (parent j) (has-parent p)

    by : (scale_of k ≡ 7) ⊎ ((scale_of k ≡ 8) ⊎ (scale_of k ≡ 9)) → numbers_of s k ≡ refused 6 0
    by (inl f) = numbers-at-7 s k h f ∙ one_outside s k (not_in s k (λ i. out (listed i)))
    by (inr (inl f)) =
        let u = up k (is-part 8 (omega arith) (record { sheet = h; scale = f })) in
        numbers-at-8 s k h f ∙ two-outside s k u.1 (not_in s u.0 (λ i. out (quarter u.0 (part_number k) i (parent-child k 8 f u.1))))
    by (inr (inr f)) =
        let u = up k (is-part 9 (omega arith) (record { sheet = h; scale = f })) in
        let t = up u.0 (parent-part k u.1 f) in
        let c = parent-child u.0 8 (parent-scale k u.1 f) t.1 in
        numbers-at-9 s k h f ∙ three-outside s k u.1 t.1 (not_in s t.0 (λ i. out (sixteenth t.0 u.0 (part_number u.0) (part_number k) i c (parent-child k 9 f u.1))))

-- ".. or a local number that none of its sheets has, gets 6": each question on the way has a sheet as its answer, or gets 6
data Asked (p : Paper ℕ) : Type 0 where
  some-sheet : (k : ℕ) → is_sheet k ≡ true → p ≡ answer k → Asked p
  no_such : p ≡ refused 6 0 → Asked p

child-asked : (k t a : ℕ) → is_sheet k ≡ true → is_scale t ≡ true → Asked (child k t a)
unfolding child
child-asked k t a h i = by (is_part t (scale_of k) a) refl
  where
    by : (b : Bool) → is_part t (scale_of k) a ≡ b → Asked (child k t a)
    by true f =
        let j = first t + part_index (parts t) (index_of k) a in
        let e : child k t a ≡ answer j = rw (h, i, f) in
        some-sheet j (child-sheet (child-answered k t a e)) e
    by false f = no_such (rw (h, i, f))

part-asked : {above : Paper ℕ} (t a : ℕ) → is_scale t ≡ true → Asked above → Asked (part above t a)
part-asked t a i (some-sheet k h e) = rw e (child-asked k t a h i)
part-asked t a i (no_such e) = no_such (rw e)

module _ {s : List ℕ} (m : Municipal s) where
  number-asked : (n : ℕ) → Asked (sheet_numbered s n)
  unfolding sheet_numbered
  number-asked n = by (between 1 (length s) n) refl
    where
      by : (b : Bool) → between 1 (length s) n ≡ b → Asked (sheet_numbered s n)
      by true f =
          let k = get_or (by_rows s) (n - 1) 0 in
          let e : sheet_numbered s n ≡ answer k = rw f in
          some-sheet k (member-scale m (in_mem k s (listed-sheet s k n (sheet-number m n k e)))).sheet e
      by false f = no_such (rw f)

  local-asked : (l : Local) → Asked (stands_for s l)
  unfolding stands_for
  local-asked (One n) = number-asked n
  local-asked (Two n a) = part-asked 8 a refl (number-asked n)
  local-asked (Three n a b) = part-asked 9 b refl (part-asked 8 a refl (number-asked n))

pub none-gets-6 : (s : List ℕ) (l : Local) → municipality s ≡ answer tt → ((k : ℕ) → sheet_to_local s k ≡ answer l → ⊥) → local_to_sheet s l ≡ refused 6 0
unfolding local_to_sheet
none-gets-6 s l e none = by (local-asked (record { is = e }) l)
  where
    by : Asked (stands_for s l) → local_to_sheet s l ≡ refused 6 0
    by (some-sheet k h f) = absurd (none k (sheet-has-numbers s l k (rw e f)))
    by (no_such f) = rw e f

-- ---- local numbers as three, absent ones 0

-- each three numbers are those of the local numbers that are made of them
pub three-as-given : (n a b : ℕ) → as_three (from_three n a b) ≡ record { n = n; a = a; b = b }
three-as-given n a b = by (b =? 0) refl (a =? 0) refl
  where
    by : (y : Bool) → (b =? 0) ≡ y → (x : Bool) → (a =? 0) ≡ x → as_three (cond y (cond x (One n) (Two n a)) (Three n a b)) ≡ record { n = n; a = a; b = b }
    by true e true f = rw (eqb-true b 0 e, eqb-true a 0 f)
    by true e false f = rw (eqb-true b 0 e)
    by false e x f = refl

-- and a sheet's local numbers are those that are made of their three: none that is there is 0
pub known-by-three : (s : List ℕ) (k : ℕ) (l : Local) → sheet_to_local s k ≡ answer l → from_three (as_three l).n (as_three l).a (as_three l).b ≡ l
unfolding local_to_sheet stands_for
known-by-three s k l e = by l (passed-judge (municipality s) (stands_for s l) (numbers-lead-back s k l e)).1
  where
    some : (up t a : ℕ) {k : ℕ} → child up t a ≡ answer k → (a =? 0) ≡ false
    some up t a f = ne_eqb a 0 (λ e. omega (arith, (child-answered up t a f).part.one))

    by : (l : Local) → stands_for s l ≡ answer k → from_three (as_three l).n (as_three l).a (as_three l).b ≡ l
    by (One n) e = refl
    by (Two n a) e = let up = found (sheet_numbered s n) (λ k. child k 8 a) e in rw (some up.0 8 a up.2)
    by (Three n a b) e = let up = found (part (sheet_numbered s n) 8 a) (λ k. child k 9 b) e in rw (some up.0 9 b up.2)
