-- Groups with the high bit set are gathered, at most three; the byte behind them, or its want, decides. Assumes nothing.
use mathlib.Core.Path.{◌≡◌, refl, sym, ◌∙◌}
use mathlib.Core.List.{List, ◌∷◌}
use Prim.Native.Nat.{ℕ, ◌+◌, ◌-◌, ◌*◌, ◌≤◌, ◌<◌}
use native.Mathlib.Omega.{arith}
use Rattle.std.proofs.lemmas.Result.{err_from_is_err_and}
use Rattle.shelf.proofs.NumberLaws.{Gathering, gather_none, gather-one, gather-more, gather-last, gather-four, gather-end}
use Rattle.list_reading.proofs.next_number.Goals as goal

-- one group, two and three are gathered
module _ {bytes s : List ℕ} {a : ℕ} (g₁ : (bytes ≡ a ∷ s) × (a < 256)) (h₁ : 128 ≤ a) where
  one : Gathering bytes s 1 (a - 128) 128
  one = let e : 0 + 1 * (a - 128) ≡ a - 128 = omega arith in rw e at (gather-more (gather_none bytes) g₁.0 h₁ g₁.1 (omega arith) refl refl)

  module _ {t : List ℕ} {b : ℕ} (g₂ : (s ≡ b ∷ t) × (b < 256)) (h₂ : 128 ≤ b) where
    two : Gathering bytes t 2 (a - 128 + 128 * (b - 128)) 16_384
    two = gather-more one g₂.0 h₂ g₂.1 (omega arith) refl refl

    module _ {u : List ℕ} {d : ℕ} (g₃ : (t ≡ d ∷ u) × (d < 256)) (h₃ : 128 ≤ d) where
      three : Gathering bytes u 3 (a - 128 + 128 * (b - 128) + 16_384 * (d - 128)) 2_097_152
      three = gather-more two g₃.0 h₃ g₃.1 (omega arith) refl refl

pub returns-in_err-a : goal.returns-in_err-a
returns-in_err-a c =
    let p = err_from_is_err_and c.from_residual.result c.from_residual.ensures.1 in
    let e = c.in_err-a.ensures in
    rw (p.1, p.2, e.1) (sym (gather-end (gather_none _) e.0))

pub returns-then-a-lt128 : goal.returns-then-a-lt128
returns-then-a-lt128 c = sym (gather-one c.in_ok-a.ensures.0 c.if-a-lt128.true)

pub returns-in_err-b : goal.returns-in_err-b
returns-in_err-b c =
    let p = err_from_is_err_and c.from_residual-in_err-b.result c.from_residual-in_err-b.ensures.1 in
    let e = c.in_err-b.ensures in
    rw (p.1, p.2, e.1) (sym (gather-end (one c.in_ok-a.ensures c.if-a-lt128.false) e.0))

pub returns-then-b-lt128 : goal.returns-then-b-lt128
returns-then-b-lt128 c = c.last_group.ensures ∙ sym (gather-last (one c.in_ok-a.ensures c.if-a-lt128.false) c.in_ok-b.ensures.0 c.if-b-lt128.true (omega arith))

pub returns-in_err-c : goal.returns-in_err-c
returns-in_err-c c =
    let p = err_from_is_err_and c.from_residual-in_err-c.result c.from_residual-in_err-c.ensures.1 in
    let e = c.in_err-c.ensures in
    rw (p.1, p.2, e.1) (sym (gather-end (two c.in_ok-a.ensures c.if-a-lt128.false c.in_ok-b.ensures c.if-b-lt128.false) e.0))

pub returns-then-c-lt128 : goal.returns-then-c-lt128
returns-then-c-lt128 c = c.last_group-then-c-lt128.ensures ∙ sym (gather-last (two c.in_ok-a.ensures c.if-a-lt128.false c.in_ok-b.ensures c.if-b-lt128.false) c.in_ok-c.ensures.0 c.if-c-lt128.true (omega arith))

pub returns-in_err-d : goal.returns-in_err-d
returns-in_err-d c =
    let p = err_from_is_err_and c.from_residual-in_err-d.result c.from_residual-in_err-d.ensures.1 in
    let e = c.in_err-d.ensures in
    rw (p.1, p.2, e.1) (sym (gather-end (three c.in_ok-a.ensures c.if-a-lt128.false c.in_ok-b.ensures c.if-b-lt128.false c.in_ok-c.ensures c.if-c-lt128.false) e.0))

pub returns-then-d-ge128 : goal.returns-then-d-ge128
returns-then-d-ge128 c = sym (gather-four (three c.in_ok-a.ensures c.if-a-lt128.false c.in_ok-b.ensures c.if-b-lt128.false c.in_ok-c.ensures c.if-c-lt128.false) c.in_ok-d.ensures.0 c.if-d-ge128.true refl)

pub returns : goal.returns
returns c = c.last_group-2.ensures ∙ sym (gather-last (three c.in_ok-a.ensures c.if-a-lt128.false c.in_ok-b.ensures c.if-b-lt128.false c.in_ok-c.ensures c.if-c-lt128.false) c.in_ok-d.ensures.0 c.if-d-ge128.false (omega arith))
