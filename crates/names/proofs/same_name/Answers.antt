-- Side by side: the names are the same exactly if what is left of them is the same, joined, and what is left of the first falls. Assumes
-- nothing.
use mathlib.Core.Path.{sym, ◌∙◌}
use Rattle.names.proofs.WalkLaws.{second-ends, first_ends, both_end, same_byte, apart-in-first, apart-in-second, differ, left-apart}
use Rattle.names.proofs.same_name.Goals as goal

pub returns-then-j-b : goal.returns-then-j-b
returns-then-j-b c = second-ends c.loop-i.invariant c.loop-i-test.true c.if-j-b.true

-- the same byte
pub loop-i-preserved-then-a-i : goal.loop-i-preserved-then-a-i
loop-i-preserved-then-a-i c = same_byte c.loop-i.invariant c.loop-i-test.true c.if-j-b.false c.if-a-i.true

-- a letter with its mark in the first, and the single letter in the second
pub loop-i-preserved-then-is_apart : goal.loop-i-preserved-then-is_apart
loop-i-preserved-then-is_apart c =
    apart-in-first c.loop-i.invariant (sym (left-apart c.args.a.now c.args.b.now c.loop-i.i c.loop-i.j c.is_apart.ensures) ∙ c.if-is_apart.true)

-- the other way round
pub loop-i-preserved : goal.loop-i-preserved
loop-i-preserved c =
    apart-in-second c.loop-i.invariant (sym (left-apart c.args.b.now c.args.a.now c.loop-i.j c.loop-i.i c.is_apart-else-is_apart.ensures) ∙ c.if-is_apart-2.true)

-- neither
pub returns-else-is_apart-2 : goal.returns-else-is_apart-2
returns-else-is_apart-2 c =
    differ c.loop-i.invariant c.loop-i-test.true c.if-j-b.false c.if-a-i.false (sym (left-apart c.args.a.now c.args.b.now c.loop-i.i c.loop-i.j c.is_apart.ensures) ∙ c.if-is_apart.false) (sym (left-apart c.args.b.now c.args.a.now c.loop-i.j c.loop-i.i c.is_apart-else-is_apart.ensures) ∙ c.if-is_apart-2.false)

-- the end of the first
pub returns-then-j-b-2 : goal.returns-then-j-b-2
returns-then-j-b-2 c = first_ends c.loop-i.invariant c.loop-i-test.false c.if-j-b-2.true

pub returns : goal.returns
returns c = both_end c.loop-i.invariant c.loop-i-test.false c.if-j-b-2.false
