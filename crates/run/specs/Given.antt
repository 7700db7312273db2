-- What the inner functions give.
use Rattle.std.specs.Prelude.{ℕ, ◌+◌, ◌≤◌, ◌≡◌, true, false, List, length, take, drop}
use Rattle.refusal.specs.Given.{Wrote}
use Rattle.run.specs.declared.feed.Fed.{Fed}
use Rattle.run.specs.declared.turn.State.{State}
use Rattle.run.specs.Run.{done_in, rows_in, left_in}

-- what is made of a block: the lines done, their rows, and what is left
pub record IsFed (block : List ℕ) (number : ℕ) (d e : List ℕ) (r : Fed) : Type 0 where
  pub lines : r.lines ≡ done_in (length d) block
  pub wrote : Wrote d 0 e r.written (rows_in (length d) number block)
  pub left : drop r.used block ≡ left_in (length d) block
  pub within : r.used ≤ length block

-- r bytes of the input stand behind what the buffer holds: none where none are wanted, and otherwise none only at its end
pub record Brought (input : List ℕ) (a : ℕ) (s : State) (buf after : List ℕ) (r : ℕ) : Type 0 where
  pub inside : a + r ≤ length input
  pub wrote : Wrote buf s.end after (s.end + r) (take r (drop a input))
  pub idle : s.wants ≡ false → r ≡ 0
  pub ended : s.wants ≡ true → r ≡ 0 → a ≡ length input
