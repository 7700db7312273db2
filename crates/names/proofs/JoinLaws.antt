-- How a name is joined, byte by byte: a byte from 80 on is kept as it is, and what begins with no byte of a mark is joined by itself, since
-- a mark is joined to what stands in front of it. Assumes nothing.
use mathlib.Core.Path.{◌≡◌, refl, ap, ◌∙◌}
use mathlib.Core.List.{List, [], ◌∷◌, ◌++◌}
use mathlib.Core.Logic.{◌⊎◌, inl, inr}
use Rattle.std.specs.Prelude.{Option, Some, None}
use Prim.Native.Nat.{ℕ, ◌≤◌, ◌<◌}
use native.Mathlib.Omega.{arith}
use lib.ListN.{get_or}
use Rattle.names.specs.Name.{single, put, joined}
use Rattle.names.specs.Given.{letter_in}
use Rattle.names.proofs.RowLaws.{not-joined}

abbrev pub on : ℕ → List ℕ → List ℕ
on b bytes = b ∷ bytes

abbrev pub first : List ℕ → ℕ
first bytes = get_or bytes 0 0

-- ---- a byte at the front

module _ (a m n : ℕ) (bytes : List ℕ) where
  pub joins : {letter : ℕ × ℕ} → single a m n ≡ Some letter → joined (a ∷ m ∷ n ∷ bytes) ≡ letter.0 ∷ letter.1 ∷ joined bytes
  unfolding joined
  joins e = rw e

  pub keeps : single a m n ≡ None → joined (a ∷ m ∷ n ∷ bytes) ≡ a ∷ joined (m ∷ n ∷ bytes)
  unfolding joined
  keeps e = rw e

-- a byte that is not plain, and two of them
pub passes : (b : ℕ) (bytes : List ℕ) → 0x80 ≤ b → joined (b ∷ bytes) ≡ b ∷ joined bytes
unfolding joined
passes b [] h = refl
passes b (m ∷ []) h = refl
passes b (m ∷ n ∷ bytes) h = keeps b m n bytes (not-joined b m n (λ s f. omega (arith, f.plain)))

pub both-pass : (f g : ℕ) (bytes : List ℕ) → 0x80 ≤ f → 0x80 ≤ g → joined (f ∷ g ∷ bytes) ≡ f ∷ g ∷ joined bytes
both-pass f g bytes h l = passes f (g ∷ bytes) h ∙ ap (on f) (passes g bytes l)

-- so a first byte is kept, or it is a letter that is joined with its mark
pub data Begins (a : ℕ) (bytes : List ℕ) : Type 0 where
  kept : letter_in (a ∷ bytes) ≡ None → joined (a ∷ bytes) ≡ a ∷ joined bytes → Begins a bytes
  joint : {m n : ℕ} {rest : List ℕ} {letter : ℕ × ℕ} → single a m n ≡ Some letter → bytes ≡ m ∷ n ∷ rest → joined (a ∷ bytes) ≡ letter.0 ∷ letter.1 ∷ joined rest → Begins a bytes

pub begins : (a : ℕ) (bytes : List ℕ) → Begins a bytes
unfolding joined
begins a [] = kept refl refl
begins a (m ∷ []) = kept refl refl
begins a (m ∷ n ∷ bytes) = by (single a m n) refl
  where
    by : (o : Option (ℕ × ℕ)) → single a m n ≡ o → Begins a (m ∷ n ∷ bytes)
    by None e = kept e (keeps a m n bytes e)
    by (Some l) e = joint e refl (joins a m n bytes e)

-- ---- what begins with no byte of a mark

abbrev pub NoMark : ℕ → Type 0
NoMark b = (b < 0x80) ⊎ ((0xC0 ≤ b) × (b ≤ 0xCB))

no_lead : {b : ℕ} → NoMark b → b ≡ 0xCC → ⊥
no_lead (inl l) h = omega arith
no_lead (inr l) h = omega arith

no-follower : {b : ℕ} → NoMark b → (0x80 ≤ b) × (b ≤ 0xBF) → ⊥
no-follower (inl l) h = omega arith
no-follower (inr l) h = omega arith

module _ (b : ℕ) (bytes : List ℕ) (free : NoMark b) where
  behind-one : (a : ℕ) (y : List ℕ) → joined (a ∷ b ∷ y) ≡ a ∷ joined (b ∷ y)
  unfolding joined
  behind-one a [] = refl
  behind-one a (n ∷ y) = keeps a b n y (not-joined a b n (λ s f. no_lead free f.leads))

  pub by_itself : (front : List ℕ) → joined (front ++ b ∷ bytes) ≡ joined front ++ joined (b ∷ bytes)
  unfolding joined
  by_itself [] = refl
  by_itself (a ∷ []) = behind-one a bytes
  by_itself (a ∷ m ∷ []) = keeps a m b bytes (not-joined a m b (λ s f. no-follower free f.follows)) ∙ ap (on a) (behind-one m bytes)
  by_itself (a ∷ m ∷ n ∷ front) = by (single a m n) (by_itself front) (by_itself (m ∷ n ∷ front))
    where
      by : (o : Option (ℕ × ℕ)) → joined (front ++ b ∷ bytes) ≡ joined front ++ joined (b ∷ bytes) → joined (m ∷ n ∷ front ++ b ∷ bytes) ≡ joined (m ∷ n ∷ front) ++ joined (b ∷ bytes) → put o (joined (front ++ b ∷ bytes)) (a ∷ joined (m ∷ n ∷ front ++ b ∷ bytes)) ≡ put o (joined front) (a ∷ joined (m ∷ n ∷ front)) ++ joined (b ∷ bytes)
      by None i j = ap (on a) j
      by (Some s) i j = ap (on s.0) (ap (on s.1) i)
