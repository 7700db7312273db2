-- Block by block is the whole: rows that were written, and what is left of a block with whatever follows, are the rows of all of it, and
-- only the first 66 bytes of an unfinished line need be kept. Assumes nothing.
use mathlib.Core.Path.{◌≡◌, refl, sym, ap, ◌∙◌}
use mathlib.Core.List.{List, [], ◌∷◌, ◌++◌, append_assoc}
use mathlib.Core.Logic.{⊎_elim}
use Prim.Native.Nat.{ℕ, zero, suc, ◌+◌, ◌/◌, ◌≤◌, ◌<◌}
use native.Mathlib.Omega.{arith}
use lib.ListN.{length, take, length-append, length-drop}
use lib.Seq.{take-append-le, take-take, take_all, length-take-le}
use Rattle.division.proofs.TestLaws.{le-or-less}
use Rattle.label.proofs.SplitLaws.{Free}
use Rattle.catalogue.proofs.LineTheorems.{same-66}
use Rattle.rows.specs.Row.{output_line}
use Rattle.run.specs.Program.{pieces, line_feeds, line_of, lines_of, output_from}
use Rattle.run.specs.Run.{done_in, rows_in, left_in}
use Rattle.run.proofs.FeedLaws.{Cut, fed, unfed, cut, some-piece, one_piece, lines_more, lines-open, Fronted, fronted, output-append}

-- ---- a block and whatever follows it

pub front : (room : ℕ) (block : List ℕ) → Fronted (done_in room block) block
front room block = fronted (done_in room block) block (omega (arith, some-piece block))

pub done-few : (room : ℕ) (block : List ℕ) → done_in room block ≤ length block
done-few room block = let f = front room block in omega (arith, f.many, f.within)

-- "It reads catalogue lines .. For each it prints": what is printed for a block, and for what is left of it with whatever follows
pub block-by-block : (room n : ℕ) (block ys : List ℕ)
    → output_from n (lines_of (block ++ ys)) ≡ rows_in room n block ++ output_from (n + done_in room block) (lines_of (left_in room block ++ ys))
block-by-block room n block ys =
    let k : length (take (done_in room block) (pieces block)) ≡ done_in room block = length-take-le (done_in room block) (pieces block) (omega arith) in
    rw ((front room block).whole ys, output-append n (take (done_in room block) (pieces block)) (lines_of (left_in room block ++ ys)), k)

-- where room for one more row is left, no line feed is
pub all-fed : (room : ℕ) (block : List ℕ) → line_feeds block < room / 64 → Free 10 (left_in room block)
all-fed room block h =
    one_piece (left_in room block) (omega (arith, ap length (front room block).left, length-drop (done_in room block) (pieces block), some-piece block))

-- ---- an unfinished line

free-append : (m : ℕ) (a b : List ℕ) → Free m a → Free m b → Free m (a ++ b)
free-append m [] b f g = g
free-append m (x ∷ a) b f g = (f.0, free-append m a b f.1 g)

pub free-take : (m k : ℕ) (a : List ℕ) → Free m a → Free m (take k a)
free-take m zero a f = tt
free-take m (suc k) [] f = tt
free-take m (suc k) (x ∷ a) f = (f.0, free-take m k a f.1)

lines-alone : (line : List ℕ) → Free 10 line → (length line ≡ 0 → ⊥) → lines_of line ≡ line ∷ []
lines-alone line f e = lines-open line f ∙ by line e
  where
    by : (bytes : List ℕ) → (length bytes ≡ 0 → ⊥) → line_of bytes ≡ bytes ∷ []
    by [] g = absurd (g refl)
    by (b ∷ bytes) g = refl

-- the row of a line is that of its first 66 bytes, however both go on
kept_row : (n : ℕ) (line more : List ℕ) → 66 ≤ length line → output_line n (take 66 line ++ more) ≡ output_line n (line ++ more)
unfolding output_line
kept_row n line more h =
    let k : length (take 66 line) ≡ 66 = length-take-le 66 line h in
    let e : take 66 (take 66 line ++ more) ≡ take 66 (line ++ more) =
    take-append-le 66 (take 66 line) more (omega arith) ∙ take-take 66 66 line (omega arith) ∙ sym (take-append-le 66 line more h) in
    rw (same-66 (take 66 line ++ more) (line ++ more) (simp length-append (omega arith)) (simp length-append (omega arith)) e)

-- "of any length": what was dropped of a long line changes nothing
pub keeps-enough : (n : ℕ) (line ys : List ℕ) → Free 10 line → output_from n (lines_of (take 66 line ++ ys)) ≡ output_from n (lines_of (line ++ ys))
unfolding output_from
keeps-enough n line ys f = ⊎_elim (λ h. by h (cut ys)) (λ h. rw (take_all 66 line (omega arith))) (le-or-less 66 (length line))
  where
    both : (more : List ℕ) → Free 10 more → Free 10 (take 66 line ++ more) × Free 10 (line ++ more)
    both more g = (free-append 10 (take 66 line) more (free-take 10 66 line f) g, free-append 10 line more f g)

    by : 66 ≤ length line → Cut ys → output_from n (lines_of (take 66 line ++ ys)) ≡ output_from n (lines_of (line ++ ys))
    by h (fed m rest g q) =
        rw (q, ← append_assoc (take 66 line) m (10 ∷ rest), ← append_assoc line m (10 ∷ rest), lines_more (take 66 line ++ m) rest (both m g).0, lines_more (line ++ m) rest (both m g).1, kept_row n line m h)
    by h (unfed g) =
        let k : length (take 66 line) ≡ 66 = length-take-le 66 line h in
        rw (lines-alone (take 66 line ++ ys) (both ys g).0 (λ z. omega (arith, length-append (take 66 line) ys)), lines-alone (line ++ ys) (both ys g).1 (λ z. omega (arith, length-append line ys)), kept_row n line ys h)

-- "A last line without a line feed counts. Empty input prints nothing"
pub last-counts : (n : ℕ) (line : List ℕ) → Free 10 line → output_from n (lines_of line) ≡ output_from n (line_of line)
last-counts n line f = rw (lines-open line f)
