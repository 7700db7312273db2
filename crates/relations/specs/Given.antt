-- Where a place of a line of `count` places is when it is moved by a signed amount: what an inner function gives.
use Rattle.std.specs.Prelude.{ℕ, ℤ, nat_abs}
use Rattle.refusal.specs.Paper.{Paper, answer, refuse◌unless◌, ◌>>◌}
use Rattle.relations.specs.Relations.{moved, stays}

abbrev pub moved_on : ℕ → ℤ → ℕ → Paper ℕ
moved_on at by count = do
  refuse 6 unless stays at by count
  answer (nat_abs (moved at by))
