-- Of all that a list reader looks at, only the count can be above the lent room, so it alone gives 10. And a list of either kind, whole or
-- cut, read by the reader that it is for. Assumes nothing.
use mathlib.Core.Path.{◌≡◌, refl, sym, ap, ◌∙◌, subst}
use mathlib.Core.Bool.{true, false≢true}
use mathlib.Core.List.{List, [], ◌∷◌, map}
use mathlib.Core.Logic.{⊎_elim}
use Prim.Native.Nat.{ℕ, ◌≤◌, ◌<◌}
use native.Mathlib.Omega.{arith}
use borrow.Author.Tests.{leb-true}
use lib.ListN.{length, take}
use Rattle.refusal.specs.Paper.{Paper, answer, refused}
use Rattle.refusal.specs.Numbers.{is_in}
use Rattle.refusal.proofs.PaperLaws.{same_answer, same_number, same-value}
use Rattle.division.specs.Words.{◌≤?◌}
use Rattle.division.proofs.TestLaws.{both, le-or-less}
use Rattle.label.specs.Text.{every}
use Rattle.shelf.specs.Number.{Number, read_number}
use Rattle.shelf.specs.Kind.{kind_of, KindName, Sheets}
use Rattle.shelf.specs.Writing.{bytes_in, set_in, wholly_in}
use Rattle.shelf.specs.Reading.{Reading, stop, entries_in, behind_in, read_in, kind_told, each_as}
use Rattle.shelf.proofs.KindLaws.{Works, works, kind-told}
use Rattle.shelf.proofs.ReadingLaws.{first_read, count_room, count-read, map-self}
use Rattle.shelf.proofs.NumberTheorems.{Bytes}
use Rattle.shelf.proofs.ListTheorems as list
use Rattle.shelf.proofs.HoldingsTheorems.{new-reader, holdings-read-back, holdings-cut}
use Rattle.demands.specs.Refusals.{Gives}
use Rattle.demands.specs.Lists.{Way, of_kind, as_before, kind_in, read_by, stands_for, CountAbove}
use Rattle.demands.proofs.GivesLaws.{given-listed, number-gives, count_gives, judge-gives, entries-give}

-- ---- the room needed

-- a count above the room gives 10, in the reader of its kind and in the new one
above_in : (kind : KindName) (bytes : List ℕ) (room count : ℕ) → CountAbove (kind_of kind) bytes room count → read_in (kind_of kind) bytes room ≡ stop (refused 10 count)
above_in kind bytes room count c =
    first_read (kind_of kind) bytes room _ c.written ∙ count_room (kind_of kind) ((kind_of kind).begins count) c.rest room count ((works kind).counts count c.few) c.above

pub above-needs : (way : Way) (bytes : List ℕ) (room count : ℕ) → CountAbove (kind_in way) bytes room count → read_by way bytes room ≡ stop (refused 10 count)
above-needs as_before bytes room count c = above_in Sheets bytes room count c
above-needs (of_kind kind) bytes room count c = new-reader (kind_of kind) bytes room tells ∙ ap (each_as (kind_of kind).holds) (above_in kind bytes room count c)
  where
    tells : (first : Number) → read_number bytes ≡ answer first → kind_told first.value ≡ kind_of kind
    tells first e = ap (λ (n : Number). kind_told n.value) (same_answer (sym e ∙ c.written)) ∙ kind-told kind count c.few

-- nothing else does
module _ (kind : KindName) (bytes : List ℕ) (room v : ℕ) where
  entries-not-10 : (more least : ℕ) (rest : List ℕ) → (entries_in (kind_of kind) more least rest).ended ≡ refused 10 v → ⊥
  entries-not-10 more least rest e =
      false≢true (given-listed (subst (Gives (11 ∷ 12 ∷ 13 ∷ 24 ∷ 14 ∷ [])) e (entries-give (kind_of kind) (λ n. judge-gives kind 13 n refl refl) refl refl refl more least rest)))

  pub needs-above : (read_in (kind_of kind) bytes room).ended ≡ refused 10 v → CountAbove (kind_of kind) bytes room v
  unfolding read_in behind_in
  needs-above e = by (read_number bytes) refl (number-gives {listed = 11 ∷ 12 ∷ []} refl refl bytes)
    where
      ended-as : (r : Reading) → read_in (kind_of kind) bytes room ≡ r → r.ended ≡ refused 10 v
      ended-as r f = ap (λ (q : Reading). q.ended) (sym f) ∙ e

      no-10 : {A : Type 0} {n w : ℕ} → Gives {A = A} (11 ∷ 12 ∷ []) (refused n w) → ◌≡◌ {A = Paper Unit} (refused n w) (refused 10 v) → ⊥
      no-10 g f = false≢true (ap (is_in (11 ∷ 12 ∷ [])) (sym (same_number f)) ∙ given-listed g)

      told : (c : Number) → read_number bytes ≡ answer c → (p : Paper ℕ) → (kind_of kind).count c.value ≡ p → Gives (11 ∷ 12 ∷ []) p → CountAbove (kind_of kind) bytes room v
      told c f (refused n w) g h = absurd (no-10 h (ended-as (stop (refused n w)) (rw (f, g))))
      told c f (answer count) g h =
          let k = (works kind).counted c.value count g in
          ⊎_elim
          (λ (fits : count ≤ room). absurd (entries-not-10 count 0 c.rest (ended-as _ (first_read (kind_of kind) bytes room c f ∙ count-read (kind_of kind) c.value c.rest room count g fits))))
          (λ (above : room < count).
          let all : CountAbove (kind_of kind) bytes room count = record { rest = c.rest; written = rw (← k.0) f; few = k.1; above = above } in
          subst (CountAbove (kind_of kind) bytes room) (same-value (ended-as _ (above_in kind bytes room count all))) all)
          (le-or-less count room)

      by : (p : Paper Number) → read_number bytes ≡ p → Gives (11 ∷ 12 ∷ []) p → CountAbove (kind_of kind) bytes room v
      by (refused n w) f g = absurd (no-10 g (ended-as (stop (refused n w)) (rw f)))
      by (answer c) f g = told c f ((kind_of kind).count c.value) refl (count_gives kind c.value refl)

-- ---- a list of a set, whole or cut, read by the reader that it is for

pub ways-work : (way : Way) → Works (kind_in way)
ways-work (of_kind kind) = works kind
ways-work as_before = works Sheets

-- document 01's reader places each sheet as itself
as-itself : (ended : Paper Unit) (sheets : List ℕ) → ◌≡◌ {A = Reading} (record { ended = ended; placed = sheets }) (record { ended = ended; placed = map (stands_for as_before) sheets })
as-itself ended sheets = ap (λ (placed : List ℕ). record { ended = ended; placed = placed }) (sym (map-self sheets))

module _ (xs : List ℕ) (lent : ℕ) (enough : length xs ≤ lent) where
  pub whole : (way : Way) → set_in (kind_in way) xs ≡ answer tt → read_by way (bytes_in (kind_in way) xs) lent ≡ record { ended = answer tt; placed = map (stands_for way) xs }
  whole (of_kind kind) e = holdings-read-back kind xs e lent enough
  whole as_before e = list.reads-back (works Sheets) xs lent e enough ∙ as-itself (answer tt) xs

  pub cut_short : (way : Way) (cut : ℕ) → set_in (kind_in way) xs ≡ answer tt → cut < length (bytes_in (kind_in way) xs)
      → read_by way (take cut (bytes_in (kind_in way) xs)) lent ≡ record { ended = refused 11 0; placed = map (stands_for way) (wholly_in (kind_in way) cut xs) }
  cut_short (of_kind kind) cut e short = holdings-cut kind xs e cut lent enough short
  cut_short as_before cut e short = list.cut-ends-early (works Sheets) xs cut lent e enough short ∙ as-itself (refused 11 0) (wholly_in (kind_in as_before) cut xs)

-- bytes, as the number laws ask for them
pub all-bytes : (bytes : List ℕ) → every (λ b. b ≤? 255) bytes ≡ true → Bytes bytes
unfolding every
all-bytes [] e = tt
all-bytes (b ∷ bytes) e = let t = both (b ≤? 255) (every (λ b. b ≤? 255) bytes) e in (omega (arith, leb-true b 255 t.0), all-bytes bytes t.1)
