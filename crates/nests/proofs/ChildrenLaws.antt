-- The children of a sheet have numbers that follow one another, and each is as large as its scale says. Assumes nothing.
use mathlib.Core.Path.{◌≡◌, refl, sym, ap, ap₂, ◌∙◌, subst₂}
use mathlib.Core.Bool.{true}
use mathlib.Core.List.{List, [], ◌∷◌, flat_map}
use Prim.Native.Nat.{ℕ, zero, suc, ◌+◌, ◌*◌, ◌≤◌, ◌<◌}
use native.Mathlib.Nat.{zero-mul, suc-mul}
use native.Mathlib.Omega.{arith}
use lib.IntN.{ℤ, pos, nat_abs, ◌+ℤ◌, ◌-ℤ◌, +ℤ_comm, +ℤ-neg_ℤ_cancel}
use Rattle.refusal.specs.Paper.{answer}
use Rattle.division.specs.Words.{from}
use Rattle.division.specs.Table.{is_scale, width, height, parent_scale, parts, first}
use Rattle.division.specs.Grid.{millimetres}
use Rattle.division.specs.Sheet.{is_sheet, scale_of, index_of, part_index, ground_of}
use Rattle.division.proofs.TestLaws.{in_between}
use Rattle.division.proofs.GroundTheorems.{as_wide, as_high}
use Rattle.relations.specs.Relations.{child}
use Rattle.relations.proofs.RelationTheorems.{child-there}
use Rattle.nests.specs.Children.{list_of, children, area_of, areas}

-- ---- their numbers

-- one number for each of a run of numbers, and these follow one another too
runs : (g : ℕ → List ℕ) (a b m : ℕ) → ((i : ℕ) → i < m → g (a + i) ≡ (b + i) ∷ []) → flat_map g (from a m) ≡ from b m
unfolding flat_map from
runs g a b zero h = refl
runs g a b (suc m) h =
    let here : g a ≡ b ∷ [] = subst₂ (λ (x y : ℕ). g x ≡ y ∷ []) (omega arith) (omega arith) (h 0 (omega arith)) in
    rw here (ap (λ (l : List ℕ). b ∷ l) (runs g (a + 1) (b + 1) m (λ i l. subst₂ (λ (x y : ℕ). g x ≡ y ∷ []) (omega arith) (omega arith) (h (suc i) (omega arith)))))

module _ (n s : ℕ) (h : is_sheet n ≡ true) (i : is_scale s ≡ true) (m : parent_scale s ≡ scale_of n) where
  pub numbered : (number : ℕ) → 1 ≤ number → number ≤ parts s → child n s number ≡ answer (first s + part_index (parts s) (index_of n) number)
  numbered number one last = child-there n s number h i m (in_between 1 (parts s) number one last)

  pub children-run : children n s ≡ from (first s + index_of n * parts s) (parts s)
  unfolding children
  children-run =
      runs (λ number. list_of (child n s number)) 1 (first s + index_of n * parts s) (parts s)
      (λ j l. ap list_of (numbered (1 + j) (omega arith) (omega arith)) ∙ ap (λ (k : ℕ). k ∷ []) (omega arith))

-- ---- their areas

extent : (a b : ℤ) {x : ℕ} → b ≡ a +ℤ pos x → nat_abs (b -ℤ a) ≡ x
extent a b {x} e = ap (λ (z : ℤ). nat_abs (z -ℤ a)) (e ∙ +ℤ_comm a (pos x)) ∙ ap nat_abs (+ℤ-neg_ℤ_cancel (pos x) a)

pub area-is : (k : ℕ) → is_sheet k ≡ true → area_of k ≡ millimetres (width (scale_of k)) * millimetres (height (scale_of k))
area-is k h = ap₂ ◌*◌ (extent (ground_of k).west (ground_of k).east (as_wide k h)) (extent (ground_of k).south (ground_of k).north (as_high k h))

pub areas-run : (a m size : ℕ) → ((k : ℕ) → a ≤ k → k < a + m → area_of k ≡ size) → areas (from a m) ≡ m * size
unfolding areas from
areas-run a zero size h = sym (zero-mul size)
areas-run a (suc m) size h =
    omega (arith, h a (omega arith) (omega arith), areas-run (a + 1) m size (λ k b c. h k (omega arith) (omega arith)), suc-mul m size)
