-- What the words of document 02, c), say of joining and of names that are the same. Joining again finds nothing, since the first byte of a
-- single letter is no byte of a letter with its mark, and the second is no letter and begins no mark. Assumes nothing.
use mathlib.Core.Path.{◌≡◌, refl, sym, ap, ap₂, ◌∙◌}
use mathlib.Core.Bool.{Bool, true, false, false≢true, ◌&&◌, ◌||◌}
use mathlib.Core.List.{List, [], ◌∷◌, ◌++◌, map, tail, Memᴰ}
use mathlib.Core.Logic.{◌↔◌, ◌⊎◌, inl, inr, ⊎_elim}
use Rattle.std.specs.Prelude.{Option, Some, None}
use Prim.Native.Nat.{ℕ, ◌≤◌}
use Prim.Native.Char.{code}
use native.Mathlib.Omega.{arith}
use borrow.Author.Tests.{eqb-true, eqb-false}
use lib.ListN.{length, length-append}
use lib.Seq.{append_snoc}
use Rattle.division.specs.Words.{◌=?◌}
use Rattle.division.proofs.TestLaws.{both}
use Rattle.label.specs.Text.{text, every}
use Rattle.names.specs.Name.{Row, table, single_in, single, put, joined, SameName, same_bytes, is_same_name}
use Rattle.names.specs.Given.{Tells}
use Rattle.names.specs.Theorems.{apart, together, StandsIn, Unmarked, Respelt, unchanged, letter, back, onwards}
use Rattle.names.proofs.RowLaws.{each-passes, row_of, Formed, formed, not-joined, one-row}
use Rattle.names.proofs.JoinLaws.{on, first, joins, keeps, both-pass, Begins, kept, joint, begins, by_itself}

-- ---- "Joining twice changes nothing"

-- a byte that is kept in front of what is joined stays there
stays : (a m n : ℕ) (bytes : List ℕ) → single a m n ≡ None → joined (a ∷ joined (m ∷ n ∷ bytes)) ≡ a ∷ joined (joined (m ∷ n ∷ bytes))
stays a m n bytes e = by (begins m (n ∷ bytes)) (begins n bytes)
  where
    by : Begins m (n ∷ bytes) → Begins n bytes → joined (a ∷ joined (m ∷ n ∷ bytes)) ≡ a ∷ joined (joined (m ∷ n ∷ bytes))
    by (joint {rest} {letter} s _ is) _ =
        rw is (keeps a letter.0 letter.1 (joined rest) (not-joined a _ _ (λ l p. omega (arith, p.leads, (formed m _ _ s).first.1))))
    by (kept _ is) (joint {rest} {letter} s _ was) =
        rw (is, was) (keeps a m letter.0 (letter.1 ∷ joined rest) (not-joined a m _ (λ l p. omega (arith, p.follows.1, (formed n _ _ s).first.0))))
    by (kept _ is) (kept _ was) = rw (is, was) (keeps a m n (joined bytes) e)

pub joined-twice : (bytes : List ℕ) → joined (joined bytes) ≡ joined bytes
unfolding joined
joined-twice [] = refl
joined-twice (a ∷ []) = refl
joined-twice (a ∷ m ∷ []) = refl
joined-twice (a ∷ m ∷ n ∷ bytes) = by (single a m n) refl (joined-twice bytes) (joined-twice (m ∷ n ∷ bytes))
  where
    by : (o : Option (ℕ × ℕ)) → single a m n ≡ o → joined (joined bytes) ≡ joined bytes → joined (joined (m ∷ n ∷ bytes)) ≡ joined (m ∷ n ∷ bytes) → joined (joined (a ∷ m ∷ n ∷ bytes)) ≡ joined (a ∷ m ∷ n ∷ bytes)
    by None e i j = ap joined (keeps a m n bytes e) ∙ stays a m n bytes e ∙ ap (on a) j ∙ sym (keeps a m n bytes e)
    by (Some s) e i j =
        let f = formed a m n e in
        let g = joins a m n bytes e in
        ap joined g ∙ both-pass s.0 s.1 (joined bytes) (omega (arith, f.first.0)) f.second.0 ∙ ap (λ (t : List ℕ). s.0 ∷ s.1 ∷ t) i ∙ sym g

-- ---- sameness

pub same_bytes_lem : (a b : List ℕ) → a ≡ b → SameName a b
same_bytes_lem a b e = ap joined e

pub reflexive : (a : List ℕ) → SameName a a
reflexive a = refl

pub symmetric : (a b : List ℕ) → SameName a b → SameName b a
symmetric a b e = sym e

pub transitive : (a b c : List ℕ) → SameName a b → SameName b c → SameName a c
transitive a b c e f = e ∙ f

-- a name is the same as what it is joined into
pub same-joined : (a : List ℕ) → SameName a (joined a)
same-joined a = sym (joined-twice a)

-- ---- bytes that agree may be passed, whatever they are part of

through : (x : ℕ) (bytes : List ℕ) → joined (x ∷ joined bytes) ≡ joined (x ∷ bytes)
unfolding joined
through x [] = refl
through x (m ∷ []) = refl
through x (m ∷ n ∷ bytes) = by (single x m n) refl
  where
    by : (o : Option (ℕ × ℕ)) → single x m n ≡ o → joined (x ∷ joined (m ∷ n ∷ bytes)) ≡ joined (x ∷ m ∷ n ∷ bytes)
    by None e = stays x m n bytes e ∙ ap (on x) (joined-twice (m ∷ n ∷ bytes)) ∙ sym (keeps x m n bytes e)
    by (Some l) e =
        let f = formed x m n e in
        ap (λ (t : List ℕ). joined (x ∷ t)) (both-pass m n bytes (omega (arith, f.leads)) f.follows.0) ∙
        joins x m n (joined bytes) e ∙ ap (λ (t : List ℕ). l.0 ∷ l.1 ∷ t) (joined-twice bytes) ∙ sym (joins x m n bytes e)

behind-same : (x : ℕ) (s t : List ℕ) → SameName (x ∷ s) (x ∷ t) → SameName s t
behind-same x s t e = by (begins x s) (begins x t)
  where
    by : Begins x s → Begins x t → SameName s t
    by (kept _ is) (kept _ was) = ap tail (sym is ∙ e ∙ was)
    by (kept _ is) (joint l _ was) =
        let f = formed x _ _ l in absurd (omega (arith, f.plain, f.first.0, ap first (sym is ∙ e ∙ was)))
    by (joint l _ is) (kept _ was) =
        let f = formed x _ _ l in absurd (omega (arith, f.plain, f.first.0, ap first (sym is ∙ e ∙ was)))
    by (joint {m} {n} {rest} l g is) (joint {m = k} {n = j} {rest = left} r h was) =
        let i = sym is ∙ e ∙ was in
        let o = one-row l r (ap first i) (ap first (ap tail i)) in
        let f = formed x m n l in
        let u = both-pass m n rest (omega (arith, f.leads)) f.follows.0 in
        let v = both-pass k j left (omega (arith, f.leads, o.1)) (omega (arith, f.follows.0, o.2)) in
        let w : m ∷ n ∷ joined rest ≡ k ∷ j ∷ joined left = rw (o.1, o.2, ap tail (ap tail i)) in
        ap joined g ∙ u ∙ w ∙ sym v ∙ sym (ap joined h)

pub same-behind : (x : ℕ) (s t : List ℕ) → SameName (x ∷ s) (x ∷ t) ↔ SameName s t
same-behind x s t = (behind-same x s t, λ e. sym (through x s) ∙ ap (λ (u : List ℕ). joined (x ∷ u)) e ∙ through x t)

-- two answers that meet one promise coincide
pub one-saying : {P : Type 0} (r s : Bool) → Tells r P → Tells s P → r ≡ s
one-saying true true t u = refl
one-saying true false t u = absurd (u.no refl (t.yes refl))
one-saying false true t u = absurd (t.no refl (u.yes refl))
one-saying false false t u = refl

-- and it is what holds
pub tells-true : {P : Type 0} {r : Bool} → Tells r P → P → r ≡ true
tells-true {r = true} t p = refl
tells-true {r = false} t p = absurd (t.no refl p)

pub tells-false : {P : Type 0} {r : Bool} → Tells r P → (P → ⊥) → r ≡ false
tells-false {r = true} t n = absurd (n (t.yes refl))
tells-false {r = false} t n = refl

-- ---- sameness as a test

pub bytes-tested : (x y : List ℕ) → Tells (same_bytes x y) (x ≡ y)
unfolding same_bytes
bytes-tested [] [] = record { yes = λ e. refl; no = λ e. absurd (false≢true (sym e)) }
bytes-tested [] (b ∷ y) = record { yes = λ e. absurd (false≢true e); no = λ e s. omega (arith, ap length s) }
bytes-tested (a ∷ x) [] = record { yes = λ e. absurd (false≢true e); no = λ e s. omega (arith, ap length s) }
bytes-tested (a ∷ x) (b ∷ y) = by (a =? b) refl (bytes-tested x y)
  where
    by : (same : Bool) → (a =? b) ≡ same → Tells (same_bytes x y) (x ≡ y) → Tells (same && same_bytes x y) (a ∷ x ≡ b ∷ y)
    by true e t = record { yes = λ f. ap₂ on (eqb-true a b e) (t.yes f); no = λ f s. t.no f (ap tail s) }
    by false e t = record { yes = λ f. absurd (false≢true f); no = λ f s. eqb-false a b e (ap first s) }

pub same-tested : (a b : List ℕ) → Tells (is_same_name a b) (SameName a b)
same-tested a b = bytes-tested (joined a) (joined b)

-- ---- the eight letters, wherever they stand

-- each row of the table is found by its bytes
abbrev is_letter : Option (ℕ × ℕ) → ℕ × ℕ → Bool
is_letter None s = false
is_letter (Some t) s = t.0 =? s.0 && t.1 =? s.1

abbrev is_found : Row → Bool
is_found row = is_letter (single row.letter row.mark.0 row.mark.1) row.single

all_found : every is_found table ≡ true
unfolding every table single_in
all_found = refl

is-letter : (o : Option (ℕ × ℕ)) (s : ℕ × ℕ) → is_letter o s ≡ true → o ≡ Some s
is-letter None s e = let z : ◌≡◌ {A = ℕ} 0 1 = cc in absurd (omega arith)
is-letter (Some t) s e =
    let b = both (t.0 =? s.0) (t.1 =? s.1) e in
    rw (eqb-true t.0 s.0 b.0, eqb-true t.1 s.1 b.1)

module _ (row : Row) (listed : Memᴰ row table) (before after : List ℕ) where
  found : single row.letter row.mark.0 row.mark.1 ≡ Some row.single
  found = is-letter _ row.single (each-passes is_found all_found listed)

  shape : Formed row.letter row.mark.0 row.mark.1 row.single
  shape = formed row.letter row.mark.0 row.mark.1 found

  -- "joining .. into the Unicode single letters"
  pub letter-joined : joined (before ++ (apart row ++ after)) ≡ joined before ++ (together row ++ joined after)
  letter-joined =
      by_itself row.letter (row.mark.0 ∷ row.mark.1 ∷ after) (inl shape.plain) before ∙
      ap (λ (t : List ℕ). joined before ++ t) (joins row.letter row.mark.0 row.mark.1 after found)

  pub letter-stays : joined (before ++ (together row ++ after)) ≡ joined before ++ (together row ++ joined after)
  letter-stays =
      by_itself row.single.0 (row.single.1 ∷ after) (inr shape.first) before ∙
      ap (λ (t : List ℕ). joined before ++ t) (both-pass row.single.0 row.single.1 after (omega (arith, shape.first.0)) shape.second.0)

  -- so the two spellings are the same name
  pub spelt-alike : SameName (before ++ (apart row ++ after)) (before ++ (together row ++ after))
  spelt-alike = letter-joined ∙ sym letter-stays

-- so what is joined has no letter with its mark left in it: joined again it would be shorter
joined-shorter : (bytes : List ℕ) → length (joined bytes) ≤ length bytes
unfolding joined
joined-shorter [] = omega arith
joined-shorter (a ∷ []) = omega arith
joined-shorter (a ∷ m ∷ []) = omega arith
joined-shorter (a ∷ m ∷ n ∷ bytes) = by (single a m n) (joined-shorter bytes) (joined-shorter (m ∷ n ∷ bytes))
  where
    by : (o : Option (ℕ × ℕ)) → length (joined bytes) ≤ length bytes → length (joined (m ∷ n ∷ bytes)) ≤ length (m ∷ n ∷ bytes) → length (put o (joined bytes) (a ∷ joined (m ∷ n ∷ bytes))) ≤ length (a ∷ m ∷ n ∷ bytes)
    by None i j = omega arith
    by (Some s) i j = omega arith

pub none_left : (row : Row) → Memᴰ row table → (name : List ℕ) → StandsIn (apart row) (joined name) → ⊥
none_left row listed name s =
    let e = sym s.is ∙ sym (joined-twice name) ∙ ap joined s.is ∙ letter-joined row listed s.before s.after in
    let long = length-append s.before (apart row ++ s.after) in
    let short = length-append (joined s.before) (together row ++ joined s.after) in
    omega (arith, ap length e, long, short, joined-shorter s.before, joined-shorter s.after)

-- ---- "Nothing else is joined"

further : (a : ℕ) {part name : List ℕ} → StandsIn part name → StandsIn part (a ∷ name)
further a s = record { before = a ∷ s.before; after = s.after; is = ap (on a) s.is }

pub nothing-else : (name : List ℕ) → ((row : Row) → Memᴰ row table → StandsIn (apart row) name → ⊥) → joined name ≡ name
unfolding joined
nothing-else [] none-stands = refl
nothing-else (a ∷ []) none-stands = refl
nothing-else (a ∷ m ∷ []) none-stands = refl
nothing-else (a ∷ m ∷ n ∷ bytes) none-stands = by (single a m n) refl (nothing-else (m ∷ n ∷ bytes) (λ row l s. none-stands row l (further a s)))
  where
    by : (o : Option (ℕ × ℕ)) → single a m n ≡ o → joined (m ∷ n ∷ bytes) ≡ m ∷ n ∷ bytes → joined (a ∷ m ∷ n ∷ bytes) ≡ a ∷ m ∷ n ∷ bytes
    by None e i = keeps a m n bytes e ∙ ap (on a) i
    by (Some s) e i =
        let r = row_of table a m n e in
        absurd (none-stands r.row r.listed (record { before = []; after = bytes; is = rw (r.is-letter, r.is-mark.0, r.is-mark.1) }))

-- a name without a mark is joined into itself, and is the same as no other such name
abbrev is_marked : Row → Bool
is_marked row = row.mark.0 =? 0xCC && (row.mark.1 =? 0x8C || row.mark.1 =? 0x81)

all-marked : every is_marked table ≡ true
unfolding every table
all-marked = refl

either : (a b : Bool) → (a || b) ≡ true → (a ≡ true) ⊎ (b ≡ true)
either true b e = inl refl
either false b e = inr e

-- behind the letter stands its mark
behind : {l m n : ℕ} {name : List ℕ} → StandsIn (l ∷ m ∷ n ∷ []) name → StandsIn (m ∷ n ∷ []) name
behind {l} {m} {n} s = record { before = s.before ++ (l ∷ []); after = s.after; is = s.is ∙ sym (append_snoc s.before l (m ∷ n ∷ s.after)) }

pub unmarked-stays : (name : List ℕ) → Unmarked name → joined name ≡ name
unmarked-stays name u = nothing-else name (λ row l s. marked row (each-passes is_marked all-marked l) (behind s))
  where
    marked : (row : Row) → is_marked row ≡ true → StandsIn (row.mark.0 ∷ row.mark.1 ∷ []) name → ⊥
    marked row e s =
        let b = both (row.mark.0 =? 0xCC) (row.mark.1 =? 0x8C || row.mark.1 =? 0x81) e in
        let is : row.mark.0 ≡ 0xCC = eqb-true row.mark.0 0xCC b.0 in
        ⊎_elim
        (λ c. u.no-caron (rw (is, eqb-true row.mark.1 0x8C c) at s))
        (λ c. u.no-acute (rw (is, eqb-true row.mark.1 0x81 c) at s))
        (either (row.mark.1 =? 0x8C) (row.mark.1 =? 0x81) b.1)

pub unmarked-same : (a b : List ℕ) → Unmarked a → Unmarked b → SameName a b → a ≡ b
unmarked-same a b u v e = sym (unmarked-stays a u) ∙ e ∙ unmarked-stays b v

-- ---- names are the same exactly if letters typed in their other spelling make one of them from the other

same-respelt : {a b : List ℕ} → Respelt a b → SameName a b
same-respelt (unchanged e) = ap joined e
same-respelt (letter row l before after e f) = ap joined e ∙ spelt-alike row l before after ∙ sym (ap joined f)
same-respelt (back r) = sym (same-respelt r)
same-respelt (onwards c r t) = same-respelt r ∙ same-respelt t

behind-byte : (x : ℕ) {a b : List ℕ} → Respelt a b → Respelt (x ∷ a) (x ∷ b)
behind-byte x (unchanged e) = unchanged (ap (on x) e)
behind-byte x (letter row l before after e f) = letter row l (x ∷ before) after (ap (on x) e) (ap (on x) f)
behind-byte x (back r) = back (behind-byte x r)
behind-byte x (onwards c r t) = onwards (x ∷ c) (behind-byte x r) (behind-byte x t)

respelt-joined : (a : List ℕ) → Respelt a (joined a)
unfolding joined
respelt-joined [] = unchanged refl
respelt-joined (a ∷ []) = unchanged refl
respelt-joined (a ∷ m ∷ []) = unchanged refl
respelt-joined (a ∷ m ∷ n ∷ bytes) = by (single a m n) refl (respelt-joined bytes) (respelt-joined (m ∷ n ∷ bytes))
  where
    by : (o : Option (ℕ × ℕ)) → single a m n ≡ o → Respelt bytes (joined bytes) → Respelt (m ∷ n ∷ bytes) (joined (m ∷ n ∷ bytes)) → Respelt (a ∷ m ∷ n ∷ bytes) (put o (joined bytes) (a ∷ joined (m ∷ n ∷ bytes)))
    by None e i j = behind-byte a j
    by (Some s) e i j =
        let r = row_of table a m n e in
        let k : Respelt (a ∷ m ∷ n ∷ bytes) (s.0 ∷ s.1 ∷ bytes) =
        letter {a = a ∷ m ∷ n ∷ bytes} {b = s.0 ∷ s.1 ∷ bytes} r.row r.listed [] bytes (rw (r.is-letter, r.is-mark.0, r.is-mark.1)) (rw r.is-single) in
        onwards (s.0 ∷ s.1 ∷ bytes) k (behind-byte s.0 (behind-byte s.1 i))

pub same-iff : (a b : List ℕ) → SameName a b ↔ Respelt a b
same-iff a b = (λ e. onwards (joined a) (respelt-joined a) (onwards (joined b) (unchanged e) (back (respelt-joined b))), same-respelt)

-- ---- the request's name, and what is like its letters and is not joined

-- "One catalogue writes č as C4 8D, the other as c followed by CC 8C, and Jančag stands twice"
pub one_name : SameName (text "Jan" ++ (0xC4 ∷ 0x8D ∷ text "ag")) (text "Janc" ++ (0xCC ∷ 0x8C ∷ text "ag"))
unfolding joined table single_in text
one_name = refl

-- ś, ź and ď typed with a mark, đ typed with a stroke and as a single letter, a mark alone, half a mark; and of two marks the first is joined
abbrev typed : List (List ℕ)
typed =
    (code "s" ∷ 0xCC ∷ 0x81 ∷ []) ∷
    (code "z" ∷ 0xCC ∷ 0x81 ∷ []) ∷
    (code "d" ∷ 0xCC ∷ 0x8C ∷ []) ∷
    (code "d" ∷ 0xCC ∷ 0xB5 ∷ []) ∷
    (0xC4 ∷ 0x91 ∷ []) ∷
    (0xCC ∷ 0x8C ∷ code "c" ∷ []) ∷
    (code "c" ∷ 0xCC ∷ []) ∷ []

pub stay-apart : map joined typed ≡ typed
unfolding joined table single_in
stay-apart = refl

pub one-mark : joined (code "c" ∷ 0xCC ∷ 0x8C ∷ 0xCC ∷ 0x8C ∷ []) ≡ 0xC4 ∷ 0x8D ∷ 0xCC ∷ 0x8C ∷ []
unfolding joined table single_in
one-mark = refl
