-- What the whole block gives the room is what is left of it from place i on gives the room as it then is. Assumes nothing.
use mathlib.Core.Path.{◌≡◌}
use lib.ListN.{length, drop}
use lib.Seq.{sets}
use Rattle.division.specs.Words.{from}
use Rattle.division.specs.Cover.{block}
use Rattle.division.proofs.cover.fill.Given as goal

abbrev pub invariant-loop-i : goal.invariant-loop-i
invariant-loop-i l = (length l.room ≡ length l.initial.room) × (sets l.initial.room 0 (block l.scale (from l.down.first l.down.count) (from l.across.first l.across.count)) ≡ sets l.room l.i (drop l.i (block l.scale (from l.down.first l.down.count) (from l.across.first l.across.count))))
