-- The lines done so far are the first of the block's, and their rows stand in the room; each turn does one line more. A whole block is one line,
-- done in the first turn. The measure is what is left of the block. Assumes nothing.
use mathlib.Core.Path.{◌≡◌, refl, sym, ap, ◌∙◌}
use mathlib.Core.Bool.{Bool, true, false, not, cond, ◌&&◌, and-true}
use mathlib.Core.List.{List, []}
use Prim.Native.Nat.{ℕ, ◌+◌, ◌-◌, ◌/◌, ◌≤◌, ◌<◌}
use native.Mathlib.Omega.{arith}
use borrow.Author.Tests.{eqb-true, eqb-false, not-true}
use lib.ListN.{length, get_or, take, drop, length-drop}
use lib.Seq.{length-take-le}
use Rattle.refusal.proofs.WroteLaws.{rest-is}
use Rattle.division.specs.Words.{◌=?◌}
use Rattle.division.proofs.TestLaws.{both}
use Rattle.label.proofs.PieceLaws.{piece-within}
use Rattle.run.specs.Program.{pieces}
use Rattle.run.proofs.FeedLaws.{going-first, going_on, going-full, going-none, whole_row}
use Rattle.run.proofs.feed.make_rows.Goals as goal

-- one or the other
not-both : {b : Bool} → b ≡ true → b ≡ false → ⊥
not-both e f = let z : true ≡ false = sym e ∙ f in let o : ◌≡◌ {A = ℕ} 0 1 = cc in omega arith

-- where the line from a on ends, said of what is left of the block
abbrev LineEnd : Bool → List ℕ → ℕ → ℕ → Type 0
LineEnd whole block a e = e ≡ cond whole (length (drop a block)) (length (get_or (pieces (drop a block)) 0 []))

line : (whole : Bool) (block : List ℕ) (a e : ℕ) → (let rest = take (length block - a) (drop a block) in e ≡ cond whole (length rest) (length (get_or (pieces rest) 0 []))) → LineEnd whole block a e
line whole block a e h = h ∙ ap (λ (l : List ℕ). cond whole (length l) (length (get_or (pieces l) 0 []))) (rest-is block a)

found : (whole : Bool) (block : List ℕ) (a e : ℕ) → LineEnd whole block a e → whole ≡ false → e ≡ length (get_or (pieces (drop a block)) 0 [])
found whole block a e h f = h ∙ ap (λ (b : Bool). cond b (length (drop a block)) (length (get_or (pieces (drop a block)) 0 []))) f

all : (whole : Bool) (block : List ℕ) (a e : ℕ) → LineEnd whole block a e → whole ≡ true → e ≡ length (drop a block)
all whole block a e h t = h ∙ ap (λ (b : Bool). cond b (length (drop a block)) (length (get_or (pieces (drop a block)) 0 []))) t

within : (whole : Bool) (block : List ℕ) (a e : ℕ) → a ≤ length block → LineEnd whole block a e → a + e ≤ length block
within true block a e l h = omega (arith, h, length-drop a block)
within false block a e l h = omega (arith, h, piece-within 10 (drop a block), length-drop a block)

-- past the test a block of lines has a line feed
ends : (whole : Bool) (block : List ℕ) (a e : ℕ) → a ≤ length block → LineEnd whole block a e → whole ≡ false → ((e =? length (take (length block - a) (drop a block))) && not whole) ≡ false → a + e < length block
ends whole block a e l h f t =
    let rest = length (take (length block - a) (drop a block)) in
    let here : (e =? rest) ≡ false = sym (and-true (e =? rest)) ∙ ap (λ (b : Bool). e =? rest && not b) (sym f) ∙ t in
    omega (arith, within whole block a e l h, eqb-false e rest here, ap length (rest-is block a), length-drop a block)

pub loop-lines-init : goal.loop-lines-init
loop-lines-init c = let s = c.args in (going-first s.block.now s.number s.out.now, λ t. (refl, refl, refl, refl))

pub slice_bounds-put_row-end : goal.slice_bounds-put_row-end
slice_bounds-put_row-end c =
    let block = c.args.block.now in
    let l = c.loop-lines.invariant.0.within in
    let h = line c.args.whole block c.loop-lines.used c.line_end-e.result c.line_end-e.ensures in
    sym (length-take-le _ _ (rw (rest-is block c.loop-lines.used) (omega (arith, within c.args.whole block c.loop-lines.used c.line_end-e.result l h, length-drop c.loop-lines.used block))))

pub returns-then-whole : goal.returns-then-whole
returns-then-whole c =
    let block = c.args.block.now in
    let h = line c.args.whole block c.loop-lines.used c.line_end-e.result c.line_end-e.ensures in
    let b = c.loop-lines.invariant.1 c.if-whole.true in
    record {
      fed = λ f. absurd (not-both c.if-whole.true f);
      wrote = λ t. whole_row block c.args.number b (all c.args.whole block c.loop-lines.used c.line_end-e.result h t) c.put_row-end.ensures.wrote;
    }

pub overflow_add-used : goal.overflow_add-used
overflow_add-used c =
    let h = line c.args.whole c.args.block.now c.loop-lines.used c.line_end-e.result c.line_end-e.ensures in
    omega (arith, within c.args.whole c.args.block.now c.loop-lines.used c.line_end-e.result c.loop-lines.invariant.0.within h)

pub overflow_add-used-in-loop-lines : goal.overflow_add-used-in-loop-lines
overflow_add-used-in-loop-lines c =
    let h = line c.args.whole c.args.block.now c.loop-lines.used c.line_end-e.result c.line_end-e.ensures in
    omega (arith, ends c.args.whole c.args.block.now c.loop-lines.used c.line_end-e.result c.loop-lines.invariant.0.within h c.if-whole.false c.if-open.false)

pub loop-lines-preserved : goal.loop-lines-preserved
loop-lines-preserved c =
    let s = c.args in
    let block = c.args.block.now in
    let h = line c.args.whole block c.loop-lines.used c.line_end-e.result c.line_end-e.ensures in
    let e = ends c.args.whole block c.loop-lines.used c.line_end-e.result c.loop-lines.invariant.0.within h c.if-whole.false c.if-open.false in
    let on : c.loop-lines.used + (c.line_end-e.result + 1) ≡ c.loop-lines.used + c.line_end-e.result + 1 = omega arith in
    rw on (
      going_on block s.number s.out.now c.loop-lines.invariant.0 (found c.args.whole block c.loop-lines.used c.line_end-e.result h c.if-whole.false) e (omega arith)
          (rw (rest-is block c.loop-lines.used) at c.put_row-end.ensures.wrote) c.put_row-end.ensures.upper_bound,
      λ t. absurd (not-both t c.if-whole.false),
    )

pub returns : goal.returns
returns c =
    let m = c.loop-lines in
    let all-lines : length c.args.out.now / 64 ≡ m.lines = omega (arith, c.loop-lines-test.false, m.auto.lines-end) in
    rw all-lines record {
      fed = λ f. going-full c.args.block.now c.args.number c.args.out.now m.invariant.0 (omega (arith, c.loop-lines-test.false));
      wrote = λ t. absurd (omega (arith, c.requires.in_bounds t, (m.invariant.1 t).3, c.loop-lines-test.false));
    }

pub returns-then-open : goal.returns-then-open
returns-then-open c =
    let s = c.args in
    let block = c.args.block.now in
    let e = c.line_end-e.result in
    let h = line c.args.whole block c.loop-lines.used e c.line_end-e.ensures in
    let rest = length (take (length block - c.loop-lines.used) (drop c.loop-lines.used block)) in
    let p = both (e =? rest) (not c.args.whole) c.if-open.true in
    let f = not-true c.args.whole p.1 in
    record {
      fed = λ q. going-none block s.number s.out.now c.loop-lines.invariant.0
          (omega (arith, found c.args.whole block c.loop-lines.used e h f, eqb-true e rest p.0, length-drop c.loop-lines.used block, ap length (rest-is block c.loop-lines.used)));
      wrote = λ t. absurd (not-both t f);
    }
