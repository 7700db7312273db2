-- A turn is one of the definition's cases, and its rows with those of what is held then are the rows of all that was held. Assumes nothing.
use mathlib.Core.Path.{◌≡◌, refl, sym, ap, ◌∙◌}
use mathlib.Core.Bool.{Bool, true, false, cond, ◌&&◌}
use mathlib.Core.List.{List, [], ◌++◌}
use mathlib.Core.Logic.{⊎_elim}
use Prim.Native.Nat.{ℕ, ◌+◌, ◌-◌, ◌*◌, ◌/◌, ◌≤◌, ◌<◌, ◌^◌, min}
use native.Mathlib.Omega.{arith}
use borrow.Author.Tests.{le-leb, lt-leb, leb-true}
use lib.ListN.{length, take, drop, length-take, length-drop}
use lib.Seq.{slice, take-append_seam, drop-drop, length-take-le}
use Rattle.refusal.specs.Paper.{answer, room_after}
use Rattle.refusal.specs.Given.{Wrote}
use Rattle.refusal.proofs.WroteLaws.{wrote-front, wrote-end}
use Rattle.division.specs.Words.{◌≤?◌, ◌=?◌}
use Rattle.division.proofs.TestLaws.{both, le-or-less}
use Rattle.label.proofs.SplitLaws.{Free}
use Rattle.run.specs.declared.turn.State.{State}
use Rattle.run.specs.declared.feed.Fed.{Fed}
use Rattle.run.specs.Program.{line_feeds, line_of, lines_of, output_from}
use Rattle.run.specs.Run.{Turn, state, goes_on, done_in, rows_in, left_in, held_with, stopped, waiting, full, turn_of}
use Rattle.run.specs.Given.{IsFed}
use Rattle.run.proofs.PartLaws.{held-is}
use Rattle.run.proofs.PrintTheorems.{front, block-by-block, all-fed, free-take, keeps-enough}

-- ---- room and numbers

pub record Enough (size room number : ℕ) : Type 0 where
  pub holds : 67 ≤ size
  pub row : 64 ≤ room
  pub few : number ≤ 2 ^ 64 - 1 - size

pub enough-is : (size room number : ℕ) → goes_on size room number ≡ true → Enough size room number
enough-is size room number e =
    let a = both (67 ≤? size && 64 ≤? room) (number ≤? 2 ^ 64 - 1 - size) e in
    let c = both (67 ≤? size) (64 ≤? room) a.0 in
    record { holds = leb-true 67 size c.0; row = leb-true 64 room c.1; few = leb-true number (2 ^ 64 - 1 - size) a.1 }

-- ---- what a turn is, by cases

-- the room is full, or input is wanted
abbrev pub full_of : ℕ → ℕ → List ℕ → ℕ → Turn
full_of room number held end = full (number + done_in room held) (rows_in room number held) (end - length (left_in room held)) end

abbrev pub wait_of : ℕ → ℕ → List ℕ → Turn
wait_of room number held = waiting (number + done_in room held) (rows_in room number held) (take 66 (left_in room held))

module _ (buf : List ℕ) (room : ℕ) (s : State) (got : ℕ) where
  pub turn-stops : goes_on (length buf) room s.number ≡ false → turn_of buf room s got ≡ stopped s.number []
  unfolding turn_of
  turn-stops h = rw h

  module _ (h : goes_on (length buf) room s.number ≡ true) where
    pub turn-ends : (s.wants && got =? 0) ≡ true → turn_of buf room s got ≡ stopped s.number (output_from s.number (line_of (held_with s got buf)))
    unfolding turn_of
    turn-ends t = rw (h, t)

    module _ (t : (s.wants && got =? 0) ≡ false) where
      pub turn-full : room / 64 ≤ line_feeds (held_with s got buf) → turn_of buf room s got ≡ full_of room s.number (held_with s got buf) (length (take (s.end + got) buf))
      unfolding turn_of
      turn-full k = rw (h, t, le-leb (room / 64) (line_feeds (held_with s got buf)) k)

      pub turn-waits : line_feeds (held_with s got buf) < room / 64 → turn_of buf room s got ≡ wait_of room s.number (held_with s got buf)
      unfolding turn_of
      turn-waits k = rw (h, t, lt-leb (room / 64) (line_feeds (held_with s got buf)) k)

  -- the rows of a turn are what is to be written
  pub turn-written : (turn_of buf room s got).next.written ≡ length (turn_of buf room s got).rows
  unfolding turn_of
  turn-written = told (goes_on (length buf) room s.number) _ _ (told (s.wants && got =? 0) _ _ refl (told (room / 64 ≤? line_feeds (held_with s got buf)) _ _ refl refl)) refl
    where
      told : (b : Bool) (x y : Turn) → x.next.written ≡ length x.rows → y.next.written ≡ length y.rows → (cond b x y).next.written ≡ length (cond b x y).rows
      told true x y e f = e
      told false x y e f = f

-- ---- each way out of a turn

-- what a turn promises
abbrev pub Turned : State → ℕ → List ℕ → List ℕ → List ℕ → List ℕ → State → Type 0
Turned s got buf b out o r =
    (r ≡ (turn_of buf (length out) s got).next) × ((b ≡ room_after (answer (turn_of buf (length out) s got).kept) buf) ×
    ((o ≡ room_after (answer (turn_of buf (length out) s got).rows) out) × ((r.end ≤ length buf) × (r.written ≤ length out))))

module _ (buf out : List ℕ) (s : State) (got : ℕ) where
  abbrev bytes : List ℕ
  bytes = held_with s got buf

  turned : (t : Turn) {b o : List ℕ} {r : State} → turn_of buf (length out) s got ≡ t → r ≡ t.next → b ≡ room_after (answer t.kept) buf → o ≡ room_after (answer t.rows) out
      → r.end ≤ length buf → r.written ≤ length out → Turned s got buf b out o r
  turned t e next kept rows held fits = (
    next ∙ ap (λ (u : Turn). u.next) (sym e),
    (kept ∙ ap (λ (u : Turn). room_after (answer u.kept) buf) (sym e), (rows ∙ ap (λ (u : Turn). room_after (answer u.rows) out) (sym e), (held, fits))),
  )

  pub turned-stops : goes_on (length buf) (length out) s.number ≡ false → Turned s got buf buf out out (state 0 0 s.number 0 false true)
  turned-stops h = turned (stopped s.number []) (turn-stops buf (length out) s got h) refl refl refl (omega arith) (omega arith)

  module _ (h : goes_on (length buf) (length out) s.number ≡ true) where
    pub turned-ends : {o : List ℕ} {w : ℕ} → (s.wants && got =? 0) ≡ true → Wrote out 0 o w (output_from s.number (line_of (held_with s got buf)))
        → Turned s got buf buf out o (state 0 0 s.number w false true)
    turned-ends t k = turned _ (turn-ends buf (length out) s got h t) (rw (wrote-end k)) refl (wrote-front k) (omega arith) k.fits

    module _ (t : (s.wants && got =? 0) ≡ false) {o : List ℕ} {f : Fed} (k : IsFed (held_with s got buf) s.number out o f) (e a : ℕ) (p : e ≡ min (s.end + got) (length buf)) (q : a ≡ min s.from e) where
      ends : length (take (s.end + got) buf) ≡ e
      ends = length-take (s.end + got) buf ∙ sym p

      long : length bytes ≡ e - s.from
      long = length-drop s.from (take (s.end + got) buf) ∙ ap (λ (n : ℕ). n - s.from) ends

      pub turned-full : length out / 64 ≤ f.lines → Turned s got buf buf out o (state (a + f.used) e (s.number + f.lines) f.written false false)
      turned-full l =
          let from : a + f.used ≡ e - length (left_in (length out) bytes) = omega (arith, long, length-drop f.used bytes, ap length k.left, k.within) in
          turned _ (turn-full buf (length out) s got h t (omega (arith, k.lines))) (rw (ends, ← from, k.lines, wrote-end k.wrote)) refl (wrote-front k.wrote) (omega arith) k.wrote.fits

      pub turned-waits : {b : List ℕ} {n : ℕ} → f.lines < length out / 64 → Wrote buf 0 b n (take 66 (slice (a + f.used) e buf))
          → Turned s got buf b out o (state 0 n (s.number + f.lines) f.written true false)
      turned-waits l v =
          let there : slice (a + f.used) e buf ≡ left_in (length out) bytes = sym (drop-drop f.used a (take e buf)) ∙ ap (λ (l : List ℕ). drop f.used l) (held-is buf s.from (s.end + got) a e p q) ∙ k.left in
          let x = rw there at v in
          turned _ (turn-waits buf (length out) s got h t (omega (arith, k.lines))) (rw (k.lines, wrote-end k.wrote, wrote-end x)) (wrote-front x) (wrote-front k.wrote) x.fits k.wrote.fits

-- ---- a turn prints what it should

-- the buffer behind a turn, and what a state holds in it
abbrev pub after : Turn → List ℕ → List ℕ
after t buf = room_after (answer t.kept) buf

abbrev pub held_by : State → List ℕ → List ℕ
held_by s buf = slice s.from s.end buf

-- where input is wanted, what is held has no line feed and leaves room for more
pub record Calm (s : State) (buf : List ℕ) : Type 0 where
  pub free : Free 10 (held_by s buf)
  pub few : s.end ≤ 66

abbrev pub unasked : Bool → ℕ
unasked true = 0
unasked false = 1

-- a turn that is not the last: its rows and those of what is held then, with whatever follows, are the rows of all that was held
pub record Onward (number : ℕ) (bytes : List ℕ) (size : ℕ) (t : Turn) (buf : List ℕ) : Type 0 where
  pub whole : (ys : List ℕ) → output_from number (lines_of (bytes ++ ys)) ≡ t.rows ++ output_from t.next.number (lines_of (held_by t.next buf ++ ys))
  pub on : t.next.over ≡ false
  pub calm : t.next.wants ≡ true → Calm t.next buf
  pub rises : t.next.from ≤ t.next.end
  pub within : t.next.end ≤ size
  pub numbered : t.next.number + (t.next.end - t.next.from) ≤ number + length bytes
  pub less : 2 * (t.next.end - t.next.from) + unasked t.next.wants ≤ 2 * length bytes

module _ (room number : ℕ) (held buf : List ℕ) where
  waits : 67 ≤ length buf → line_feeds held < room / 64 → Onward number held (length buf) (wait_of room number held) (after (wait_of room number held) buf)
  waits sized k =
      let r = left_in room held in
      let free = all-fed room held k in
      let kept : take (length (take 66 r)) (take 66 r ++ drop (length (take 66 r)) buf) ≡ take 66 r = take-append_seam (take 66 r) (drop (length (take 66 r)) buf) in
      let long = length-take 66 r in
      let f = front room held in
      let left : length held - f.used ≡ length r = sym (length-drop f.used held) ∙ ap length f.behind in
      record {
        whole = λ ys. block-by-block room number held ys ∙ ap (λ (l : List ℕ). rows_in room number held ++ l) (sym (keeps-enough (number + done_in room held) r ys free) ∙ rw kept);
        on = refl;
        calm = λ e. record { free = rw kept (free-take 10 66 r free); few = omega (arith, long) };
        rises = omega arith;
        within = omega (arith, long);
        numbered = omega (arith, long, left, f.many, f.within);
        less = omega (arith, long, left);
      }

  fills : (from m : ℕ) → from ≤ m → m ≤ length buf → held ≡ slice from m buf → 64 ≤ room → room / 64 ≤ line_feeds held
      → Onward number held (length buf) (full_of room number held (length (take m buf))) buf
  fills from m l w e roomy k =
      let r = left_in room held in
      let long = length-take-le m buf w in
      let size : length held ≡ m - from = ap length e ∙ length-drop from (take m buf) ∙ ap (λ (n : ℕ). n - from) long in
      let f = front room held in
      let left : length held - f.used ≡ length r = sym (length-drop f.used held) ∙ ap length f.behind in
      let at : length (take m buf) - length r ≡ from + f.used = omega (arith, f.within) in
      let kept : slice (length (take m buf) - length r) (length (take m buf)) buf ≡ r =
      rw (at, long) (sym (drop-drop f.used from (take m buf)) ∙ ap (λ (l : List ℕ). drop f.used l) (sym e) ∙ f.behind) in
      record {
        whole = λ ys. block-by-block room number held ys ∙ rw kept;
        on = refl;
        calm = λ e. let z : ◌≡◌ {A = ℕ} 0 1 = cc in absurd (omega arith);
        rises = omega arith;
        within = omega arith;
        numbered = omega (arith, f.many, f.within);
        less = omega (arith, f.many, f.within);
      }

module _ (buf : List ℕ) (room : ℕ) (s : State) (got : ℕ) (h : goes_on (length buf) room s.number ≡ true) (t : (s.wants && got =? 0) ≡ false) where
  pub turn_on : 67 ≤ length buf → 64 ≤ room → s.from ≤ s.end → s.end + got ≤ length buf
      → Onward s.number (held_with s got buf) (length buf) (turn_of buf room s got) (after (turn_of buf room s got) buf)
  turn_on sized roomy rises within =
      let bytes = held_with s got buf in
      ⊎_elim (λ k. rw (turn-full buf room s got h t k) (fills room s.number bytes buf s.from (s.end + got) (omega arith) within refl roomy k))
      (λ k. rw (turn-waits buf room s got h t k) (waits room s.number bytes buf sized k))
      (le-or-less (room / 64) (line_feeds bytes))
