-- The scales counted so far, and those that are left to ask, make the scale. Assumes nothing.
use mathlib.Core.Path.{◌≡◌}
use Prim.Native.Nat.{◌+◌, ◌≤◌, ◌<◌}
use Rattle.division.specs.Sheet.{scale_of}
use Rattle.division.proofs.NumberLaws.{begun_from}
use Rattle.division.proofs.sheet.scale_of.Given as goal

abbrev pub invariant-loop-s : goal.invariant-loop-s
invariant-loop-s l = (l.begun + begun_from l.n l.s ≡ scale_of l.n) × ((l.begun < l.s) × (l.s ≤ 10))
