-- A municipality has 1 to 400 sheets of 1:2 000, no two the same. Assumes nothing.
use mathlib.Core.Path.{◌≡◌}
use mathlib.Core.Bool.{true}
use mathlib.Core.List.{List, [], ◌∷◌, Memᴰ}
use Prim.Native.Nat.{ℕ, ◌+◌, ◌≤◌}
use native.Mathlib.Omega.{arith}
use lib.ListN.{length}
use Rattle.refusal.specs.Paper.{answer}
use Rattle.refusal.proofs.PaperLaws.{passed}
use Rattle.rising.specs.Rising.{rising_from}
use Rattle.rising.proofs.RisingLaws.{head}
use Rattle.rising.proofs.RisingTheorems.{not-below, member-fine}
use Rattle.division.specs.Words.{between}
use Rattle.division.proofs.TestLaws.{between_in}
use Rattle.municipality.specs.Municipality.{of2000, municipality}
use Rattle.municipality.specs.Given.{OfScale}
use Rattle.municipality.proofs.JudgeLaws.{is-fine}
use Rattle.local.specs.Given.{Municipal}
use Rattle.local.proofs.OrderLaws.{RisesBy, rises-apart}
use Rattle.local.proofs.CountLaws.{Distinct}

numbers-rise : (least : ℕ) (s : List ℕ) → rising_from of2000 least s ≡ answer tt → RisesBy (λ x. x) s
numbers-rise least [] e = tt
numbers-rise least (x ∷ s) e =
    let f = head of2000 least x s e in
    (λ y m. omega (arith, not-below of2000 (x + 1) s f.later m), numbers-rise (x + 1) s f.later)

module _ {s : List ℕ} (m : Municipal s) where
  parts : (between 1 400 (length s) ≡ true) × (rising_from of2000 0 s ≡ answer tt)
  unfolding municipality
  parts = passed 23 (between 1 400 (length s)) _ m.is

  pub few : length s ≤ 400
  few = (between_in 1 400 (length s) parts.0).1

  pub member-scale : {k : ℕ} → Memᴰ k s → OfScale 7 k
  member-scale {k} h = is-fine k (member-fine of2000 0 s parts.1 h)

  pub distinct : Distinct s
  distinct = rises-apart (λ x. x) s (numbers-rise 0 s parts.1)
