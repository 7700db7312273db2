-- The mark in a block of 64 bytes: the least of all places that have it is the first. Assumes nothing.
use mathlib.Core.Path.{◌≡◌, refl}
use mathlib.Core.Bool.{Bool, true, false, cond}
use mathlib.Core.List.{List}
use Prim.Native.Nat.{ℕ, ◌+◌, ◌≤◌, ◌<◌, min}
use native.Mathlib.Omega.{arith}
use borrow.Author.Tests.{eqb-true, eqb-false}
use lib.Dec.{eqb}
use lib.ListN.{length, get_or, drop}
use Rattle.label.proofs.PieceLaws.{piece, at_mark, past-byte, at-end}

-- the mark was sought at the places before j: the first is among them, or still ahead
pub data Sought (m : ℕ) (s : List ℕ) (at j : ℕ) : Type 0 where
  found : at < j → at ≡ length (piece m s) → Sought m s at j
  ahead : at ≡ 64 → length (piece m s) ≡ j + length (piece m (drop j s)) → Sought m s at j

module _ {m : ℕ} {s : List ℕ} (e : length s ≡ 64) {at j : ℕ} where
  pub sought-next : Sought m s at j → j < 64 → Sought m s (min (cond (eqb (get_or s j 0) m) j 64) at) (j + 1)
  sought-next a h = by (eqb (get_or s j 0) m) refl a
    where
      by : (t : Bool) → eqb (get_or s j 0) m ≡ t → Sought m s at j → Sought m s (min (cond t j 64) at) (j + 1)
      by true b (found l p) = found (omega arith) (omega (arith, p))
      by true b (ahead z p) = found (omega arith) (omega (arith, p, at_mark m s j (omega arith) (eqb-true (get_or s j 0) m b)))
      by false b (found l p) = found (omega arith) (omega (arith, p))
      by false b (ahead z p) = ahead (omega arith) (omega (arith, p, past-byte m s j (omega arith) (eqb-false (get_or s j 0) m b)))

  pub sought-all : Sought m s at j → j ≤ 64 → 64 ≤ j → at ≡ length (piece m s)
  sought-all (found l p) h k = p
  sought-all (ahead z p) h k = omega (arith, p, at-end m s j (omega arith))
