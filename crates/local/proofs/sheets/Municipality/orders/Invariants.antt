-- The places before i have the orders of the sheets before i. Assumes nothing.
use mathlib.Core.Path.{◌≡◌}
use mathlib.Core.List.{map}
use Prim.Native.Nat.{◌≤◌}
use lib.ListN.{length, take}
use Rattle.division.specs.Sheet.{reading_order}
use Rattle.local.proofs.sheets.Municipality.orders.Given as goal

abbrev pub invariant-loop-i : goal.invariant-loop-i
invariant-loop-i l = (l.i ≤ length l.self.sheets.now) × (length l.all ≡ 400) × (take l.i l.all ≡ take l.i (map reading_order l.self.sheets.now))
