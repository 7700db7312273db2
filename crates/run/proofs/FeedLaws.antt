-- The lines of a block: each ends at the first line feed, what is left behind some of them, and the rows of those done so far, which stand
-- one behind the other. Assumes nothing.
use mathlib.Core.Path.{◌≡◌, refl, sym, ap, ◌∙◌}
use mathlib.Core.Bool.{Bool, true, false}
use mathlib.Core.List.{List, [], ◌∷◌, ◌++◌, append_assoc, append-nil}
use Prim.Native.Nat.{ℕ, zero, suc, ◌+◌, ◌-◌, ◌*◌, ◌/◌, ◌≤◌, ◌<◌}
use native.Mathlib.Nat.{add_assoc, add-zero}
use native.Mathlib.Numerals.{one-add}
use native.Mathlib.Omega.{arith}
use borrow.Author.Tests.{eqb-true, eqb-false, le-leb}
use lib.Dec.{eqb, leb}
use lib.ListN.{length, get_or, take, drop, length-append, length-take, length-drop}
use lib.Seq.{take_at, take_all, drop-append-add, drop-drop, length-take-le}
use Rattle.refusal.specs.declared.Refusal.{Refusal}
use Rattle.refusal.specs.Paper.{is_answer, counted}
use Rattle.refusal.specs.Numbers.{on_paper}
use Rattle.refusal.specs.Given.{Wrote}
use Rattle.refusal.proofs.PaperLaws.{no_answer}
use Rattle.refusal.proofs.WroteLaws.{then, same-long, wrote_none, rest-is}
use Rattle.label.specs.Text.{join}
use Rattle.label.proofs.SplitLaws.{Free, split-piece, split-last, join-split}
use Rattle.rows.specs.Row.{output_line, lay_row}
use Rattle.run.specs.Program.{pieces, line_of, lines_of, output_from}
use Rattle.run.specs.Run.{done_in}
use Rattle.run.specs.Given.{IsFed}

-- ---- bytes with a line feed in them, or none

pub data Cut (bytes : List ℕ) : Type 0 where
  fed : (line rest : List ℕ) → Free 10 line → bytes ≡ line ++ (10 ∷ rest) → Cut bytes
  unfed : Free 10 bytes → Cut bytes

pub cut : (bytes : List ℕ) → Cut bytes
cut [] = unfed tt
cut (b ∷ bytes) = by (eqb b 10) refl (cut bytes)
  where
    by : (t : Bool) → eqb b 10 ≡ t → Cut bytes → Cut (b ∷ bytes)
    by true e c = fed [] bytes tt (ap (λ (x : ℕ). x ∷ bytes) (eqb-true b 10 e))
    by false e (fed line rest f q) = fed (b ∷ line) rest (eqb-false b 10 e, f) (ap (λ (l : List ℕ). b ∷ l) q)
    by false e (unfed f) = unfed (eqb-false b 10 e, f)

-- there is always a piece
pub some-piece : (bytes : List ℕ) → 1 ≤ length (pieces bytes)
some-piece bytes = by (cut bytes)
  where
    by : Cut bytes → 1 ≤ length (pieces bytes)
    by (fed line rest f q) = rw (q, split-piece 10 line rest f) (omega arith)
    by (unfed f) = rw (split-last 10 bytes f) (omega arith)

-- only one where there is no line feed
pub one_piece : (bytes : List ℕ) → length (pieces bytes) ≤ 1 → Free 10 bytes
one_piece bytes h = by (cut bytes)
  where
    by : Cut bytes → Free 10 bytes
    by (unfed f) = f
    by (fed line rest f q) = absurd (omega (arith, some-piece rest, rw (q, split-piece 10 line rest f) at h))

-- a line with its line feed in front of the rest
pub lines_more : (line rest : List ℕ) → Free 10 line → lines_of (line ++ (10 ∷ rest)) ≡ line ∷ lines_of rest
unfolding lines_of
lines_more line rest f =
    let count : suc (length (pieces rest)) - 1 ≡ suc (length (pieces rest) - 1) = omega (arith, some-piece rest) in
    rw (split-piece 10 line rest f, count)

-- bytes without a line feed
pub lines-open : (bytes : List ℕ) → Free 10 bytes → lines_of bytes ≡ line_of bytes
unfolding lines_of
lines-open bytes f = rw (split-last 10 bytes f)

-- ---- some lines at the front of a block

abbrev left_at : ℕ → List ℕ → List ℕ
left_at k block = join 10 (drop k (pieces block))

-- what is left behind them has the other pieces, and the block's lines with whatever follows are these and those of what is left
pub record Fronted (k : ℕ) (block : List ℕ) : Type 0 where
  pub left : pieces (left_at k block) ≡ drop k (pieces block)
  pub whole : (ys : List ℕ) → lines_of (block ++ ys) ≡ take k (pieces block) ++ lines_of (left_at k block ++ ys)
  pub used : ℕ
  pub behind : drop used block ≡ left_at k block
  pub within : used ≤ length block
  pub many : k ≤ used

pub fronted : (k : ℕ) (block : List ℕ) → k < length (pieces block) → Fronted k block
fronted zero block h = let e = join-split 10 block in record { left = ap pieces e; whole = λ ys. rw e; used = 0; behind = sym e; within = omega arith; many = omega arith }
fronted (suc k) block h = by (cut block) (fronted k)
  where
    by : Cut block → ((rest : List ℕ) → k < length (pieces rest) → Fronted k rest) → Fronted (suc k) block
    by (unfed f) ih = absurd (omega (arith, rw (split-last 10 block f) at h))
    by (fed line rest f q) ih =
        let s = split-piece 10 line rest f in
        let g = ih rest (omega (arith, rw (q, s) at h)) in
        rw q (record {
          left = rw s g.left;
          whole = λ ys. rw (s, append_assoc, lines_more line (rest ++ ys) f, g.whole ys);
          used = length line + (1 + g.used);
          behind = rw s (drop-append-add line (10 ∷ rest) (1 + g.used) ∙ rw (one-add g.used) g.behind);
          within = simp length-append (omega (arith, g.within));
          many = omega (arith, g.many);
        })

-- the first line, where the code has found its end, and where it has found none
pub line-next : (bytes : List ℕ) (e : ℕ) → e ≡ length (get_or (pieces bytes) 0 []) → e < length bytes → pieces bytes ≡ take e bytes ∷ pieces (drop (e + 1) bytes)
line-next bytes e q h = by (cut bytes)
  where
    by : Cut bytes → pieces bytes ≡ take e bytes ∷ pieces (drop (e + 1) bytes)
    by (unfed f) = absurd (omega (arith, rw (split-last 10 bytes f) at q))
    by (fed line rest f p) =
        let n : length line ≡ e = sym (rw (p, split-piece 10 line rest f) at q) in
        rw (p, take_at line (10 ∷ rest) e n, ← n, drop-append-add line (10 ∷ rest) 1) (split-piece 10 line rest f)

pub line-none : (bytes : List ℕ) → length bytes ≤ length (get_or (pieces bytes) 0 []) → length (pieces bytes) ≡ 1
line-none bytes h = by (cut bytes)
  where
    by : Cut bytes → length (pieces bytes) ≡ 1
    by (unfed f) = ap length (split-last 10 bytes f)
    by (fed line rest f p) = absurd (omega (arith, rw (p, split-piece 10 line rest f, length-append) at h))

-- ---- rows one behind the other

pub output-append : (n : ℕ) (a b : List (List ℕ)) → output_from n (a ++ b) ≡ output_from n a ++ output_from (n + length a) b
unfolding output_from
output-append n [] b = rw add-zero
output-append n (line ∷ a) b =
    let e : n + suc (length a) ≡ n + 1 + length a = omega arith in
    rw (output-append (n + 1) a b, append_assoc, e)

pub output-one : (n : ℕ) (line : List ℕ) → output_from n (line ∷ []) ≡ output_line n line
unfolding output_from
output-one n line = append-nil (output_line n line)

-- a row, where there is room for any from a place on
module _ (d : List ℕ) (at : ℕ) (line : List ℕ) (number : ℕ) (h : at + 64 ≤ length d) where
  abbrev lent : List ℕ
  lent = take (length d - at) (drop at d)

  roomy : leb 64 (length lent) ≡ true
  roomy = le-leb 64 (length lent) (omega (arith, length-take (length d - at) (drop at d), length-drop at d))

  pub row_fits : (why : Refusal) → on_paper why ≡ counted (lay_row number line (length lent)) → ⊥
  row_fits why e =
      let z : true ≡ false = sym (ap is_answer (rw roomy at e)) ∙ no_answer ℕ why in
      let y : ◌≡◌ {A = ℕ} 0 1 = cc in omega arith

-- the next of a list of lines
take_next : (i : ℕ) (l : List (List ℕ)) {x : List ℕ} {xs : List (List ℕ)} → drop i l ≡ x ∷ xs → (take (i + 1) l ≡ take i l ++ (x ∷ [])) × (drop (i + 1) l ≡ xs)
take_next zero l e = rw e (refl, refl)
take_next (suc i) [] e = let z : ◌≡◌ {A = ℕ} 0 1 = cc in absurd (omega arith)
take_next (suc i) (y ∷ l) e =
    let r = take_next i l e in
    let n : suc i + 1 ≡ suc (i + 1) = omega arith in
    rw n (ap (λ (m : List (List ℕ)). y ∷ m) r.0, r.1)

-- ---- the loop over the lines of a block: a bytes of it are used, i lines are done, and their rows are written up to at

pub record Going (block : List ℕ) (number : ℕ) (d e : List ℕ) (a at i : ℕ) : Type 0 where
  pub rest : drop i (pieces block) ≡ pieces (drop a block)
  pub wrote : Wrote d 0 e at (output_from number (take i (pieces block)))
  pub few : at ≤ 64 * i
  pub upto : i ≤ length d / 64
  pub many : i ≤ a
  pub within : a ≤ length block
  pub same : length e ≡ length d

module _ (block : List ℕ) (number : ℕ) (d : List ℕ) where
  pub going-first : Going block number d d 0 0 0
  unfolding output_from
  going-first = record {
    rest = refl;
    wrote = wrote_none d 0 (omega arith);
    few = omega arith;
    upto = omega arith;
    many = omega arith;
    within = omega arith;
    same = refl;
  }

  module _ {e : List ℕ} {a at i : ℕ} (g : Going block number d e a at i) where
    left : i + length (pieces (drop a block)) ≡ length (pieces block)
    left = omega (arith, ap length g.rest, length-drop i (pieces block), some-piece (drop a block))

    -- one line more
    pub going_on : {f : List ℕ} {size r : ℕ} → size ≡ length (get_or (pieces (drop a block)) 0 []) → a + size < length block → i < length d / 64
        → Wrote e at f r (output_line (number + i) (take size (drop a block))) → r ≤ at + 64 → Going block number d f (a + size + 1) r (i + 1)
    going_on {f} {size} {r} q h room w most =
        let rest = drop a block in
        let line = take size rest in
        let next = line-next rest size q (omega (arith, length-drop a block)) in
        let there : drop (size + 1) rest ≡ drop (a + size + 1) block = drop-drop (size + 1) a block ∙ ap (λ (k : ℕ). drop k block) (sym (add_assoc a size 1)) in
        let step = take_next i (pieces block) (g.rest ∙ next) in
        let n : length (take i (pieces block)) ≡ i = length-take-le i (pieces block) (omega (arith, left)) in
        record {
          rest = step.1 ∙ ap pieces there;
          wrote = rw (step.0, output-append number (take i (pieces block)) (line ∷ []), n, output-one (number + i) line) (then g.wrote w);
          few = omega (arith, g.few);
          upto = omega arith;
          many = omega (arith, g.many);
          within = omega arith;
          same = same-long w ∙ g.same;
        }

    -- no line more: the room is full, or no line feed is left
    going_end : done_in (length d) block ≡ i → IsFed block number d e (record { used = a; written = at; lines = i })
    going_end q =
        let r : drop a block ≡ join 10 (drop i (pieces block)) = sym (ap (join 10) g.rest ∙ join-split 10 (drop a block)) in
        record { lines = sym q; wrote = rw q g.wrote; left = rw q r; within = g.within }

    pub going-full : length d / 64 ≤ i → IsFed block number d e (record { used = a; written = at; lines = i })
    going-full h = going_end (omega (arith, g.upto, left, some-piece (drop a block)))

    pub going-none : length (drop a block) ≤ length (get_or (pieces (drop a block)) 0 []) → IsFed block number d e (record { used = a; written = at; lines = i })
    going-none h = going_end (omega (arith, g.upto, left, line-none (drop a block) h))

-- ---- the last line

pub last_empty : (n : ℕ) (line : List ℕ) → length line ≡ 0 → output_from n (line_of line) ≡ []
unfolding output_from
last_empty n [] e = refl
last_empty n (b ∷ line) e = absurd (omega arith)

pub last_some : (n : ℕ) (line : List ℕ) → (length line ≡ 0 → ⊥) → output_from n (line_of line) ≡ output_line n line
last_some n [] e = absurd (e refl)
last_some n (b ∷ line) e = output-one n (b ∷ line)

-- a whole block, of which nothing was done before, has its row as one line
pub whole_row : (block : List ℕ) (number : ℕ) {d o e : List ℕ} {a at i size r : ℕ} → (o ≡ d) × (a ≡ 0) × (at ≡ 0) × (i ≡ 0) → size ≡ length (drop a block) → Wrote o at e r (output_line (number + i) (take size (take (length block - a) (drop a block)))) → Wrote d 0 e r (output_line number block)
whole_row block number {a = a} {i = i} {size = size} b q w =
    let all : drop a block ≡ block = rw b.1 in
    let line : take size (take (length block - a) (drop a block)) ≡ block = ap (take size) (rest-is block a) ∙ take_all size (drop a block) (omega arith) ∙ all in
    let same : number + i ≡ number = omega (arith, b.3) in
    rw (b.0, b.2, line, same) at w

-- of a whole block nothing is done yet
abbrev pub Begins : Bool → List ℕ → List ℕ → ℕ → ℕ → ℕ → Type 0
Begins whole out₀ out a at i = whole ≡ true → (out ≡ out₀) × (a ≡ 0) × (at ≡ 0) × (i ≡ 0)
