-- Two names that are gone through side by side: they are the same exactly if what is left of them is the same, joined. What both begin with,
-- joined, is passed in both. Assumes nothing.
use mathlib.Core.Path.{◌≡◌, sym, ap, ◌∙◌}
use mathlib.Core.Bool.{Bool, true, false}
use mathlib.Core.List.{List, ◌∷◌}
use mathlib.Core.Logic.{◌↔◌}
use Prim.Native.Nat.{ℕ, ◌+◌, ◌-◌, ◌≤◌, ◌<◌}
use native.Mathlib.Numerals.{add-one}
use native.Mathlib.Omega.{arith}
use lib.ListN.{length, get_or, take, drop, length-drop, drop_of_length-le}
use lib.Seq.{take_all, drop-cons, drop-drop}
use Rattle.names.specs.Name.{joined, SameName}
use Rattle.names.specs.Given.{is_apart, Tells}
use Rattle.names.proofs.NameTheorems.{same-behind}
use Rattle.names.proofs.FrontLaws.{not-empty, front, long, joined-on, pair-on, is-apart, neither, first-at}

holds : {P : Type 0} → P → Tells true P
holds p = record { yes = λ e. p; no = λ e q. let z : ◌≡◌ {A = ℕ} 0 1 = cc in omega arith }

fails : {P : Type 0} → (P → ⊥) → Tells false P
fails n = record { yes = λ e. let z : ◌≡◌ {A = ℕ} 0 1 = cc in absurd (omega arith); no = λ e. n }

pub record Going (a b : List ℕ) (i j : ℕ) : Type 0 where
  pub in-a : i ≤ length a
  pub in_b : j ≤ length b
  pub left : SameName a b ↔ (joined (drop i a) ≡ joined (drop j b))

-- the names the other way round
turned : {a b : List ℕ} {i j : ℕ} → Going a b i j → Going b a j i
turned g = record { in-a = g.in_b; in_b = g.in-a; left = (λ s. sym (g.left.0 (sym s)), λ s. sym (g.left.1 (sym s))) }

drop-first : (name : List ℕ) (i : ℕ) → i < length name → drop i name ≡ get_or name i 0 ∷ drop (i + 1) name
drop-first name i h = drop-cons name i 0 h ∙ rw (add-one i)

-- what is left of two names, as the code lends it
pub left-apart : (a b : List ℕ) (i j : ℕ) {r : Bool} → r ≡ is_apart (take (length a - i) (drop i a)) (take (length b - j) (drop j b)) → r ≡ is_apart (drop i a) (drop j b)
left-apart a b i j e = e ∙ rw (rest a i, rest b j)
  where
    rest : (l : List ℕ) (i : ℕ) → take (length l - i) (drop i l) ≡ drop i l
    rest l i = take_all (length l - i) (drop i l) (omega (arith, length-drop i l))

module _ {a b : List ℕ} {i j : ℕ} (g : Going a b i j) where
  -- both names have come to their end, or only the second
  pub both_end : length a ≤ i → length b ≤ j → Tells true (SameName a b)
  both_end h l = holds (g.left.1 (rw (drop_of_length-le a h, drop_of_length-le b l)))

  longer : i < length a → length b ≤ j → SameName a b → ⊥
  unfolding joined
  longer h l s = not-empty (drop i a) (omega (arith, length-drop i a)) (g.left.0 s ∙ ap joined (drop_of_length-le b l))

  -- the same byte in both
  pub same_byte : i < length a → j < length b → get_or a i 0 ≡ get_or b j 0 → Going a b (i + 1) (j + 1)
  same_byte h l e =
      let x = drop-first a i h in
      let y = drop-first b j l ∙ ap (λ (k : ℕ). k ∷ drop (j + 1) b) (sym e) in
      let o = same-behind (get_or a i 0) (drop (i + 1) a) (drop (j + 1) b) in
      record {
        in-a = omega arith;
        in_b = omega arith;
        left = (λ s. o.0 (sym (ap joined x) ∙ g.left.0 s ∙ ap joined y), λ s. g.left.1 (ap joined x ∙ o.1 s ∙ sym (ap joined y)));
      }

  -- a single letter, which both begin with
  letter-passed : (f c : ℕ) {m n : ℕ} → m ≤ length (drop i a) → n ≤ length (drop j b) → joined (drop i a) ≡ f ∷ c ∷ joined (drop m (drop i a)) → joined (drop j b) ≡ f ∷ c ∷ joined (drop n (drop j b)) → Going a b (i + m) (j + n)
  letter-passed f c {m} {n} h l e k =
      let x = e ∙ ap (λ (t : List ℕ). f ∷ c ∷ joined t) (drop-drop m i a) in
      let y = k ∙ ap (λ (t : List ℕ). f ∷ c ∷ joined t) (drop-drop n j b) in
      record {
        in-a = omega (arith, length-drop i a, g.in-a);
        in_b = omega (arith, length-drop j b, g.in_b);
        left = (λ s. ap (drop 2) (sym x ∙ g.left.0 s ∙ y), λ s. g.left.1 (x ∙ ap (λ (t : List ℕ). f ∷ c ∷ t) s ∙ sym y));
      }

  pub apart-in-first : is_apart (drop i a) (drop j b) ≡ true → Going a b (i + 3) (j + 2)
  apart-in-first e =
      let p = is-apart (drop i a) (drop j b) e in
      let o = front (drop i a) p.1 in
      let t = pair-on o (drop j b) p.2 in
      letter-passed p.0.0 p.0.1 (long o) t.0 (joined-on o) t.1

  pub differ : i < length a → j < length b → (get_or a i 0 ≡ get_or b j 0 → ⊥) → is_apart (drop i a) (drop j b) ≡ false → is_apart (drop j b) (drop i a) ≡ false → Tells false (SameName a b)
  differ h l n e f =
      fails (λ s. neither (drop i a) (drop j b) (omega (arith, length-drop i a)) (omega (arith, length-drop j b)) (λ k. n (sym (first-at a i) ∙ k ∙ first-at b j)) e f (g.left.0 s))

-- ---- the same with one name for the other

module _ {a b : List ℕ} {i j : ℕ} (g : Going a b i j) where
  pub second-ends : i < length a → length b ≤ j → Tells false (SameName a b)
  second-ends h l = fails (longer g h l)

  pub first_ends : length a ≤ i → j < length b → Tells false (SameName a b)
  first_ends h l = fails (λ s. longer (turned g) l h (sym s))

  pub apart-in-second : is_apart (drop j b) (drop i a) ≡ true → Going a b (i + 2) (j + 3)
  apart-in-second e = turned (apart-in-first (turned g) e)
