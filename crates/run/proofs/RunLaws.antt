-- A run over an input that is all there: what is sunk so far and what is still to be printed are the whole, after every turn. Assumes nothing.
use mathlib.Core.Path.{◌≡◌, refl, sym, ap, ◌∙◌}
use mathlib.Core.Bool.{Bool, true, false, cond, ◌&&◌}
use mathlib.Core.List.{List, [], ◌++◌, append_assoc, append-nil}
use Prim.Native.Nat.{ℕ, ◌+◌, ◌-◌, ◌*◌, ◌≤◌, ◌<◌, ◌^◌}
use native.Mathlib.Omega.{arith}
use borrow.Author.Tests.{le-leb, eqb-true, eqb-false}
use lib.ListN.{length, take, drop, length-append, length-drop, take-append-drop, drop_of_length-le}
use lib.Seq.{take_at, take-append_seam, drop-append-le, drop-drop, length-take-le}
use Rattle.refusal.proofs.WroteLaws.{same-long}
use Rattle.division.specs.Words.{◌=?◌}
use Rattle.division.proofs.TestLaws.{both}
use Rattle.label.proofs.SplitLaws.{Free}
use Rattle.run.specs.declared.turn.State.{State}
use Rattle.run.specs.declared.print.Took.{Took}
use Rattle.run.specs.Program.{line_of, lines_of, output_from, printed}
use Rattle.run.specs.Run.{Turn, start, goes_on, held_with, stopped, turn_of}
use Rattle.run.specs.Given.{Brought}
use Rattle.run.proofs.PrintTheorems.{last-counts}
use Rattle.run.proofs.SinkLaws.{Pours, Sunk, sunk-none, sunk-more}
use Rattle.run.proofs.TurnLaws.{Turned, held_by, after, Calm, unasked, Onward, turn-ends, turn_on, turn-written}

-- ---- a read

-- what was read stands behind what was held
module _ {input : List ℕ} {a : ℕ} {s : State} {buf b : List ℕ} {r : ℕ} (k : Brought input a s buf b r) (rises : s.from ≤ s.end) (within : s.end ≤ length buf) where
  pub brought-held : held_with s r b ≡ held_by s buf ++ take r (drop a input)
  brought-held =
      let x = take r (drop a input) in
      let front = take s.end buf in
      let long : length front ≡ s.end = length-take-le s.end buf within in
      let many : length x ≡ r = length-take-le r (drop a input) (omega (arith, length-drop a input, k.inside)) in
      let there : take (s.end + r) b ≡ front ++ x = rw (k.wrote.same, ← append_assoc front x (drop (s.end + length x) buf)) (take_at (front ++ x) (drop (s.end + length x) buf) (s.end + r) (simp length-append (omega (arith, long, many)))) in
      rw there (drop-append-le s.from front x (omega arith))

  -- so with what is still to be read nothing has changed
  pub brought-all : held_with s r b ++ drop (a + r) input ≡ held_by s buf ++ drop a input
  brought-all = rw (brought-held, append_assoc, ← drop-drop r a input, take-append-drop)

-- ---- the loop over the turns

-- what is left to do, as a number that falls with every turn
abbrev pub to_go : List ℕ → State → ℕ → ℕ
to_go input s a = 3 * (length input - a) + 2 * (s.end - s.from) + unasked s.wants + 2 * unasked s.over

pub record Running (input sink₀ : List ℕ) (size room : ℕ) (buf out sink : List ℕ) (s : State) (p : Took) (a : ℕ) : Type 0 where
  pub sofar : List ℕ
  pub whole : printed input ≡ sofar ++ cond s.over [] (output_from s.number (lines_of (held_by s buf ++ drop a input)))
  pub sunk : Sunk sink₀ sofar sink p
  pub inside : a ≤ length input
  pub rises : s.from ≤ s.end
  pub within : s.end ≤ length buf
  pub numbered : s.number + (s.end - s.from) ≤ 1 + a
  pub calm : s.wants ≡ true → Calm s buf
  pub same-buf : length buf ≡ size
  pub same_out : length out ≡ room

pub run-first : (input sink buf out : List ℕ) → Running input sink (length buf) (length out) buf out sink start (record { written = 0; whole = true }) 0
unfolding printed
run-first input sink buf out = record {
  sofar = [];
  whole = refl;
  sunk = sunk-none sink;
  inside = omega arith;
  rises = omega arith;
  within = omega arith;
  numbered = omega arith;
  calm = λ e. record { free = tt; few = omega arith };
  same-buf = refl;
  same_out = refl;
}

-- a turn reads something, or works on what was held
some-step : (wants : Bool) (r : ℕ) → (wants && r =? 0) ≡ false → 1 ≤ r + unasked wants
some-step true r e = let n = eqb-false r 0 e in omega arith
some-step false r e = omega arith

module _ {input sink₀ : List ℕ} {size room : ℕ} {buf out sink : List ℕ} {s : State} {p : Took} {a : ℕ} (g : Running input sink₀ size room buf out sink s p a)
    (over : s.over ≡ false) (bufs : (67 ≤ size) × ((size ≤ 2 ^ 16) × (64 ≤ room))) (few : length input < 2 ^ 63) {b : List ℕ} {r : ℕ} (k : Brought input a s buf b r) where
  abbrev t : Turn
  t = turn_of b (length out) s r

  size-b : length b ≡ size
  size-b = same-long k.wrote ∙ g.same-buf

  on : goes_on (length b) (length out) s.number ≡ true
  on =
      let e = size-b in
      rw (le-leb 67 (length b) (omega (arith, bufs.0)), le-leb 64 (length out) (omega (arith, bufs.1.1, g.same_out)), le-leb s.number (2 ^ 64 - 1 - length b) (omega (arith, bufs.1.0, g.numbered, g.inside, few)))

  many : length (held_with s r b) ≡ s.end - s.from + r
  many =
      ap length (brought-held k g.rises g.within) ∙
      simp length-append (omega (arith, length-drop s.from (take s.end buf), length-take-le s.end buf g.within, length-take-le r (drop a input) (omega (arith, length-drop a input, k.inside))))

  -- what is still to be printed, with what was read
  left : printed input ≡ g.sofar ++ output_from s.number (lines_of (held_with s r b ++ drop (a + r) input))
  left = g.whole ∙ rw (over, brought-all k g.rises g.within)

  -- a turn that is not the last
  module _ (e : (s.wants && r =? 0) ≡ false) where
    onward : Onward s.number (held_with s r b) (length b) t (after t b)
    onward =
        turn_on b (length out) s r on e (omega (arith, size-b, bufs.0)) (omega (arith, g.same_out, bufs.1.1)) g.rises (omega (arith, k.wrote.fits, same-long k.wrote))

    less-on : to_go input t.next (a + r) < to_go input s a
    less-on =
        let o = onward in
        omega (arith, o.less, many, some-step s.wants r e, ap unasked over, ap unasked o.on, k.inside, g.rises)

    step-on : {sink' : List ℕ} {q : Took} → Pours t.rows p sink sink' q → (o : List ℕ) → length o ≡ room → length (after t b) ≡ size → Running input sink₀ size room (after t b) o sink' t.next q (a + r)
    step-on w x n l =
        let o = onward in
        record {
          sofar = g.sofar ++ t.rows;
          whole = left ∙ rw (o.whole (drop (a + r) input), o.on) (sym (append_assoc g.sofar t.rows (output_from t.next.number (lines_of (held_by t.next (after t b) ++ drop (a + r) input)))));
          sunk = sunk-more g.sunk w;
          inside = k.inside;
          rises = o.rises;
          within = omega (arith, o.within, size-b, l);
          numbered = omega (arith, o.numbered, many, g.numbered);
          calm = o.calm;
          same-buf = l;
          same_out = n;
        }

  -- the last turn
  module _ (e : (s.wants && r =? 0) ≡ true) where
    wanted : s.wants ≡ true
    wanted = (both s.wants (r =? 0) e).0

    none : r ≡ 0
    none = eqb-true r 0 (both s.wants (r =? 0) e).1

    last-rows : output_from s.number (lines_of (held_with s r b ++ drop (a + r) input)) ≡ output_from s.number (line_of (held_with s r b))
    last-rows =
        let d : drop (a + r) input ≡ [] = drop_of_length-le input {i = a + r} (omega (arith, k.ended wanted none)) in
        let x : take r (drop a input) ≡ [] = rw none in
        let f : Free 10 (held_with s r b) = rw (brought-held k g.rises g.within, x, append-nil) (g.calm wanted).free in
        rw (d, append-nil) (last-counts s.number (held_with s r b) f)

    stops : t ≡ stopped s.number (output_from s.number (line_of (held_with s r b)))
    stops = turn-ends b (length out) s r on e

    less-end : to_go input t.next (a + r) < to_go input s a
    less-end = rw stops (omega (arith, ap unasked over, k.inside))

    step_end : {sink' : List ℕ} {q : Took} → Pours t.rows p sink sink' q → (o : List ℕ) → length o ≡ room → Running input sink₀ size room (after t b) o sink' t.next q (a + r)
    step_end w x n =
        let v = rw stops at w in
        rw stops (record {
          sofar = g.sofar ++ output_from s.number (line_of (held_with s r b));
          whole = left ∙ rw (last-rows, append-nil);
          sunk = sunk-more g.sunk v;
          inside = k.inside;
          rises = omega arith;
          within = omega arith;
          numbered = omega (arith, g.numbered);
          calm = λ z. let y : ◌≡◌ {A = ℕ} 0 1 = cc in absurd (omega arith);
          same-buf = size-b;
          same_out = n;
        })

  -- a turn as the code made it, and what the sink took of its rows
  module _ {b' out' : List ℕ} {s' : State} (m : Turned s r b b' out out' s') (l : length b' ≡ length b) (n : length out' ≡ length out) where
    pub run-less : to_go input s' (a + r) < to_go input s a
    run-less = rw m.0 (by (s.wants && r =? 0) refl)
      where
        by : (c : Bool) → (s.wants && r =? 0) ≡ c → to_go input t.next (a + r) < to_go input s a
        by true e = less-end e
        by false e = less-on e

    written-rows : take s'.written out' ≡ t.rows
    written-rows = rw (m.0, m.1.1.0, turn-written b (length out) s r) (take-append_seam t.rows (drop (length t.rows) out))

    pub run_on : {sink' : List ℕ} {q : Took} → Pours (take s'.written out') p sink sink' q → Running input sink₀ size room b' out' sink' s' q (a + r)
    run_on {sink'} {q} w = rw (m.0, m.1.0) (by (s.wants && r =? 0) refl (rw written-rows at w))
      where
        by : (c : Bool) → (s.wants && r =? 0) ≡ c → Pours t.rows p sink sink' q → Running input sink₀ size room (after t b) out' sink' t.next q (a + r)
        by true e v = step_end e v out' (n ∙ g.same_out)
        by false e v = step-on e v out' (n ∙ g.same_out) (ap length (sym m.1.0) ∙ l ∙ size-b)
