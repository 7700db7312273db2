-- A number is sought place by place. Assumes nothing.
use mathlib.Core.Path.{◌≡◌}
use mathlib.Core.Bool.{Bool, ◌||◌}
use mathlib.Core.List.{List}
use Prim.Native.Nat.{ℕ, ◌≤◌}
use lib.ListN.{length, drop}
use Rattle.refusal.specs.Numbers.{is_in}

-- place by place: whether it is one of those before i
pub record Seeking (l : List ℕ) (k : ℕ) (found : Bool) (i : ℕ) : Type 0 where
  pub upto : i ≤ length l
  pub rest : (found || is_in (drop i l) k) ≡ is_in l k
