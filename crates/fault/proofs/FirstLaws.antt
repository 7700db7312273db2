-- The first place of bytes that passes a test is where the piece before a mark ends, or where the first strange byte stands. Assumes nothing.
use Rattle.std.proofs.Common.{◌≡◌, ◌≢◌, refl, ap, ℕ, ◌<◌, Bool, true, false, List, length, Option, unwrap_or, arith}
use Rattle.std.specs.List.{AllWithin, HoldsAt}
use Rattle.std.specs.Option.{MatchOption}
use Rattle.std.proofs.lemmas.Iterator.{index_from_first}
use borrow.Author.Tests.{eq-eqb, ne_eqb}
use Rattle.label.specs.Text.{first_not}
use Rattle.label.proofs.PieceLaws.{piece, piece-none, piece-cons}

-- no element before the first one that has Yes has it
abbrev pub IsFirst : (ℕ → Type 0) → (ℕ → Type 0) → List ℕ → Option ℕ → Type 0
IsFirst Yes No s r = MatchOption r (AllWithin No s 0 (length s)) (λ i. (i < length s) × HoldsAt Yes s i × AllWithin No s 0 i)

pub first-mark : (m : ℕ) (s : List ℕ) (r : Option ℕ) → IsFirst (λ b. b ≡ m) (λ b. b ≢ m) s r → length (piece m s) ≡ unwrap_or r (length s)
first-mark m s r = index_from_first (λ l. length (piece m l)) (λ b. b ≡ m) (λ b. b ≢ m)
    (ap length (piece-none m))
    (λ b l e. rw (piece-cons m b l, eq-eqb b m e))
    (λ b l e. rw (piece-cons m b l, ne_eqb b m e) (omega arith))
    s r

pub first-failing : (test : ℕ → Bool) (s : List ℕ) (r : Option ℕ) → IsFirst (λ b. test b ≡ false) (λ b. test b ≡ true) s r → first_not test s ≡ unwrap_or r (length s)
unfolding first_not
first-failing test s r = index_from_first (first_not test) (λ b. test b ≡ false) (λ b. test b ≡ true) refl (λ b l e. rw e) (λ b l e. rw e (omega arith)) s r
