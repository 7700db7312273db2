-- What stands at the front of a name: a letter with its mark, which is joined; or a byte that is kept. Where another name has a letter with
-- its mark, this one begins, joined, with the same letter exactly if it has the letter with its mark too, or the single letter's two bytes,
-- since a single letter begins with a leading byte and never with one that follows. Assumes nothing.
use mathlib.Core.Path.{◌≡◌, refl, sym, ap, ◌∙◌}
use mathlib.Core.Bool.{true, false, false≢true}
use mathlib.Core.List.{List, [], ◌∷◌, tail}
use Rattle.std.specs.Prelude.{Option, Some, None}
use Rattle.std.proofs.lemmas.Option.{none-some, same_Some}
use Prim.Native.Nat.{ℕ, ◌≤◌, ◌<◌}
use native.Mathlib.Nat.{add-zero}
use native.Mathlib.Omega.{arith}
use borrow.Author.Tests.{eqb-true, eq-eqb}
use lib.ListN.{length, get_or, drop}
use lib.Seq.{get_or-drop}
use Rattle.division.specs.Words.{◌=?◌}
use Rattle.division.proofs.TestLaws.{both}
use Rattle.names.specs.Name.{single, joined}
use Rattle.names.specs.Given.{letter_in, pair_in, is_same, is_apart}
use Rattle.names.proofs.RowLaws.{Formed, formed, one-row}
use Rattle.names.proofs.JoinLaws.{first, both-pass, Begins, kept, joint, begins}

-- what is joined is not empty where the bytes are not
pub not-empty : (bytes : List ℕ) → 0 < length bytes → joined bytes ≡ [] → ⊥
not-empty [] h e = omega arith
not-empty (a ∷ bytes) h e = by (begins a bytes)
  where
    by : Begins a bytes → ⊥
    by (kept _ is) = omega (arith, ap length (sym is ∙ e))
    by (joint _ _ is) = omega (arith, ap length (sym is ∙ e))

-- ---- a letter with its mark at the front

pub record Front (bytes : List ℕ) (letter : ℕ × ℕ) : Type 0 where
  pub a : ℕ
  pub m : ℕ
  pub n : ℕ
  pub rest : List ℕ
  pub found : single a m n ≡ Some letter
  pub bytes-are : bytes ≡ a ∷ m ∷ n ∷ rest
  pub joined_is : joined bytes ≡ letter.0 ∷ letter.1 ∷ joined rest

pub front : (bytes : List ℕ) {letter : ℕ × ℕ} → letter_in bytes ≡ Some letter → Front bytes letter
front [] {letter} e = absurd (none-some letter e)
front (a ∷ bytes) {letter} e = by (begins a bytes)
  where
    by : Begins a bytes → Front (a ∷ bytes) letter
    by (kept no-letter _) = absurd (none-some letter (sym no-letter ∙ e))
    by (joint {m} {n} {rest} {letter = l} s is j) =
        let found : single a m n ≡ Some letter = sym (ap (λ (t : List ℕ). letter_in (a ∷ t)) is) ∙ e in
        let same : l ≡ letter = same_Some l letter (sym s ∙ found) in
        record { a = a; m = m; n = n; rest = rest; found = found; bytes-are = ap (λ (t : List ℕ). a ∷ t) is; joined_is = j ∙ ap (λ (l : ℕ × ℕ). l.0 ∷ l.1 ∷ joined rest) same }

-- and none there
pub no_front : (bytes : List ℕ) → 0 < length bytes → letter_in bytes ≡ None → joined bytes ≡ first bytes ∷ joined (drop 1 bytes)
no_front [] h z = absurd (omega arith)
no_front (a ∷ bytes) h z = by (begins a bytes)
  where
    by : Begins a bytes → joined (a ∷ bytes) ≡ a ∷ joined bytes
    by (kept _ e) = e
    by (joint {letter = l} s is e) = absurd (none-some l (sym z ∙ ap (λ (t : List ℕ). letter_in (a ∷ t)) is ∙ s))

module _ {bytes : List ℕ} {letter : ℕ × ℕ} (o : Front bytes letter) where
  abbrev f : ℕ
  f = letter.0

  abbrev g : ℕ
  g = letter.1

  shape : Formed o.a o.m o.n letter
  shape = formed o.a o.m o.n o.found

  pub long : 3 ≤ length bytes
  long = omega (arith, ap length o.bytes-are)

  pub joined-on : joined bytes ≡ f ∷ g ∷ joined (drop 3 bytes)
  joined-on = o.joined_is ∙ ap (λ (t : List ℕ). f ∷ g ∷ joined (drop 3 t)) (sym o.bytes-are)

  -- ---- another name that has the single letter's two bytes

  pub pair-on : (other : List ℕ) → pair_in other ≡ Some letter → (2 ≤ length other) × (joined other ≡ f ∷ g ∷ joined (drop 2 other))
  pair-on [] e = absurd (none-some letter e)
  pair-on (x ∷ []) e = absurd (none-some letter e)
  pair-on (x ∷ y ∷ other) e =
      let q : ◌≡◌ {A = ℕ × ℕ} (x, y) letter = same_Some (x, y) letter e in
      let i : x ≡ f = ap (λ (p : ℕ × ℕ). p.0) q in
      let j : y ≡ g = ap (λ (p : ℕ × ℕ). p.1) q in
      (omega arith, rw (i, j) (both-pass f g other (omega (arith, shape.first.0)) shape.second.0))

  -- one that has neither these nor the letter with its mark: a byte behind the leading one that follows it is kept, since a single letter
  -- begins with one that leads
  follower : (x : ℕ) (other : List ℕ) {rest : List ℕ} → x ≡ f → joined other ≡ g ∷ rest → pair_in (x ∷ other) ≡ Some letter
  unfolding joined
  follower x [] i e = absurd (omega (arith, ap length e))
  follower x (y ∷ other) i e = by (begins y other)
    where
      by : Begins y other → ◌≡◌ {A = Option (ℕ × ℕ)} (Some (x, y)) (Some letter)
      by (kept _ is) = let j : y ≡ g = ap first (sym is ∙ e) in rw (i, j)
      by (joint s _ is) = absurd (omega (arith, shape.second.1, ap first (sym is ∙ e), (formed y _ _ s).first.0))

  pub no-pair : (other : List ℕ) {rest : List ℕ} → (o.a ≡ first other → ⊥) → (pair_in other ≡ Some letter → ⊥) → joined other ≡ f ∷ g ∷ rest → ⊥
  unfolding joined
  no-pair [] n m e = omega (arith, ap length e)
  no-pair (y ∷ other) n m e = by (begins y other)
    where
      by : Begins y other → ⊥
      by (kept _ is) = let k = sym is ∙ e in m (follower y other (ap first k) (ap tail k))
      by (joint s _ is) = let k = sym is ∙ e in n (sym (one-row s o.found (ap first k) (ap first (ap tail k))).0)

-- ---- two names whose first bytes differ

same-letter : (x : ℕ × ℕ) → is_same (Some x) (Some x) ≡ true
same-letter x = rw (eq-eqb x.0 x.0 refl, eq-eqb x.1 x.1 refl)

apart-is : (a b : List ℕ) {letter : ℕ × ℕ} → letter_in a ≡ Some letter → pair_in b ≡ Some letter → is_apart a b ≡ true
apart-is a b {letter} e f = rw (e, f) (same-letter letter)

pub is-apart : (a b : List ℕ) → is_apart a b ≡ true → (letter : ℕ × ℕ) × (letter_in a ≡ Some letter) × (pair_in b ≡ Some letter)
is-apart a b = by (letter_in a) (pair_in b)
  where
    by : (x y : Option (ℕ × ℕ)) → is_same x y ≡ true → (letter : ℕ × ℕ) × (x ≡ Some letter) × (y ≡ Some letter)
    by (Some x) (Some y) e =
        let k = both (x.0 =? y.0) (x.1 =? y.1) e in
        let i : x.0 ≡ y.0 = eqb-true x.0 y.0 k.0 in
        let j : x.1 ≡ y.1 = eqb-true x.1 y.1 k.1 in
        (y, ap Some (λ k. (i k, j k)), refl)
    by (Some x) None e = let z : ◌≡◌ {A = ℕ} 0 1 = cc in absurd (omega arith)
    by None y e = let z : ◌≡◌ {A = ℕ} 0 1 = cc in absurd (omega arith)

-- neither has a letter with its mark where the other has the single letter
pub neither : (a b : List ℕ) → 0 < length a → 0 < length b → (first a ≡ first b → ⊥) → is_apart a b ≡ false → is_apart b a ≡ false → joined a ≡ joined b → ⊥
neither a b h l n e f g = by (letter_in a) refl (letter_in b) refl
  where
    by : (p : Option (ℕ × ℕ)) → letter_in a ≡ p → (q : Option (ℕ × ℕ)) → letter_in b ≡ q → ⊥
    by (Some p) x q y =
        let o = front a x in
        no-pair o b (λ i. n (ap first o.bytes-are ∙ i)) (λ i. false≢true (sym e ∙ apart-is a b x i)) (sym g ∙ o.joined_is)
    by None x (Some q) y =
        let o = front b y in
        no-pair o a (λ i. n (sym (ap first o.bytes-are ∙ i))) (λ i. false≢true (sym f ∙ apart-is b a y i)) (g ∙ o.joined_is)
    by None x None y = n (ap first (sym (no_front a h x) ∙ g ∙ no_front b l y))

-- ---- the bytes at a place

pub first-at : (name : List ℕ) (i : ℕ) → first (drop i name) ≡ get_or name i 0
first-at name i = get_or-drop i name 0 0 ∙ ap (λ (k : ℕ). get_or name k 0) (add-zero i)
