-- A list is judged from its front: its first number decides, or it is fine and the rest does. Assumes nothing.
use mathlib.Core.Path.{◌≡◌, ◌∙◌}
use mathlib.Core.List.{List, ◌∷◌}
use Prim.Native.Nat.{ℕ, ◌+◌, ◌≤◌, ◌<◌}
use native.Mathlib.Numerals.{add-one}
use borrow.Author.Tests.{le-leb, lt-leb, leb-true}
use lib.Dec.{leb}
use lib.ListN.{length, get_or, drop, drop_of_length-le}
use lib.Seq.{drop-cons}
use Rattle.refusal.specs.Paper.{Paper, answer, refused}
use Rattle.refusal.specs.Numbers.{on_paper}
use Rattle.refusal.specs.declared.Refusal.{Refusal}
use Rattle.refusal.proofs.PaperLaws.{passed, passed-judge, judge-refuses}
use Rattle.rising.specs.Rising.{rising_from}

-- the first number of a list that passes is fine and rises, and the rest passes behind it
pub record Head (judge : ℕ → Paper Unit) (least x : ℕ) (xs : List ℕ) : Type 0 where
  pub fine : judge x ≡ answer tt
  pub rises : least ≤ x
  pub later : rising_from judge (x + 1) xs ≡ answer tt

module _ (judge : ℕ → Paper Unit) (least x : ℕ) (xs : List ℕ) where
  pub head : rising_from judge least (x ∷ xs) ≡ answer tt → Head judge least x xs
  unfolding rising_from
  head e =
      let p = passed-judge (judge x) _ e in
      let q = passed 15 (leb least x) _ p.1 in
      record { fine = p.0; rises = leb-true least x q.0; later = q.1 }

  pub rising-more : judge x ≡ answer tt → least ≤ x → rising_from judge least (x ∷ xs) ≡ rising_from judge (x + 1) xs
  unfolding rising_from
  rising-more f l = rw (f, le-leb least x l)

  pub rising-judged : (why : Refusal) → judge x ≡ on_paper why → rising_from judge least (x ∷ xs) ≡ on_paper why
  unfolding rising_from
  rising-judged why f = judge-refuses why _ f

  pub rising-falls : judge x ≡ answer tt → x < least → rising_from judge least (x ∷ xs) ≡ refused 15 0
  unfolding rising_from
  rising-falls f l = rw (f, lt-leb least x l)

-- the list from a place on: the number there and the rest, or nothing
pub from-here : (s : List ℕ) (i : ℕ) → i < length s → drop i s ≡ get_or s i 0 ∷ drop (i + 1) s
from-here s i inside = drop-cons s i 0 inside ∙ rw (add-one i)

pub rising-done : (judge : ℕ → Paper Unit) (s : List ℕ) (i least : ℕ) → length s ≤ i → rising_from judge least (drop i s) ≡ answer tt
unfolding rising_from
rising-done judge s i least h = rw (drop_of_length-le s h)
