-- The reach tells the edges, which lie in the area, so that no sum or difference leaves its bounds. Assumes nothing.
use native.Mathlib.Omega.{arith}
use Rattle.reckoning.proofs.ReckonLaws.{few-sheet}
use Rattle.reading.proofs.at_front.front_at.Goals as goal

pub overflow_add-result : goal.overflow_add-result
overflow_add-result c = rw c.row-t.ensures (record { fits = omega (arith, few-sheet c.requires) })
