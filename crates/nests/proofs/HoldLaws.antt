-- What a sheet has it holds as a sheet of its scale. Assumes nothing.
use mathlib.Core.Path.{sym, subst}
use Prim.Native.Nat.{ℕ}
use lib.IntN.{ℤ}
use Rattle.division.specs.Theorems.{Holds}
use Rattle.nests.specs.Nesting.{SheetOf, Has}

module _ {s k : ℕ} {e n : ℤ} where
  pub has-holds : SheetOf s k → Has k e n → Holds s e n k
  has-holds h p = subst (λ (t : ℕ). Holds t e n k) h.scale p

  pub holds_has : Holds s e n k → Has k e n
  holds_has h = subst (λ (t : ℕ). Holds t e n k) (sym h.scale) h
