-- The code has numbers of a label exactly if it is well formed. Assumes nothing.
use mathlib.Core.Path.{◌≡◌, refl}
use mathlib.Core.Bool.{Bool, true, false, cond}
use mathlib.Core.List.{List, [], map}
use Prim.Native.Nat.{ℕ, suc}
use native.Mathlib.Omega.{arith}
use lib.ListN.{length}
use Rattle.label.specs.Text.{value}
use Rattle.label.specs.Label.{well_formed, numbers_in}
use Rattle.label.proofs.SplitLaws.{some-pieces}
use Rattle.reading.specs.Given.{numbers_of}

pub unformed : (bytes : List ℕ) → length (numbers_of bytes) ≡ 0 → well_formed bytes ≡ false
unfolding numbers_of
unformed bytes = by (well_formed bytes)
  where
    by : (b : Bool) → length (cond b (numbers_in bytes) []) ≡ 0 → b ≡ false
    by true e = let p = some-pieces 45 bytes in let z : suc (length (map value p.1)) ≡ 0 = rw p.2 at e in absurd (omega arith)
    by false e = refl

pub well : (bytes : List ℕ) → (length (numbers_of bytes) ≡ 0 → ⊥) → (well_formed bytes ≡ true) × (numbers_of bytes ≡ numbers_in bytes)
unfolding numbers_of
well bytes = by (well_formed bytes)
  where
    by : (b : Bool) → (length (cond b (numbers_in bytes) []) ≡ 0 → ⊥) → (b ≡ true) × (cond b (numbers_in bytes) [] ≡ numbers_in bytes)
    by true n = (refl, refl)
    by false n = absurd (n refl)
