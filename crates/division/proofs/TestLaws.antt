-- Tests joined by `&&`, and signed numbers that are not negative. Assumes nothing.
use mathlib.Core.Path.{◌≡◌, refl, sym, ap, ◌∙◌}
use mathlib.Core.Bool.{Bool, true, false, not, ◌&&◌}
use mathlib.Core.Logic.{⊎_elim, ◌⊎◌, inl, inr}
use Prim.Native.Nat.{ℕ, zero, suc, ◌+◌, ◌-◌, ◌^◌, ◌≤◌, ◌<◌}
use native.Mathlib.Omega.{arith}
use borrow.Author.Tests.{leb-true, ltb-true, le-leb, lt-leb, lt-ltb, le-ltb}
use lib.Dec.{leb, ltb}
use lib.IntN.{ℤ, pos, negsuc, ◌-ℤ◌}
use lib.Signed.{le_z, lt_z, mag}
use mir.Syntax.{w64}
use mir.Val.{SFits, to_z, of_z}
use mir.Facts.{to_z-of_z}
use mir.ValLaws.{to_z_pos}
use Rattle.division.specs.Words.{◌≤?◌, ◌≤ᶻ◌, between}

pub both : (a b : Bool) → (a && b) ≡ true → (a ≡ true) × (b ≡ true)
both true b e = (refl, e)
both false b e = let z : ◌≡◌ {A = ℕ} 0 1 = cc in absurd (omega arith)

pub in_between : (low high x : ℕ) → low ≤ x → x ≤ high → between low high x ≡ true
in_between low high x a b = rw (le-leb low x a, le-leb x high b)

pub between_in : (low high x : ℕ) → between low high x ≡ true → (low ≤ x) × (x ≤ high)
between_in low high x e = let b = both (low ≤? x) (x ≤? high) e in (leb-true low x b.0, leb-true x high b.1)

pub le-or-less : (a b : ℕ) → (a ≤ b) ⊎ (b < a)
le-or-less zero b = inl (omega arith)
le-or-less (suc a) zero = inr (omega arith)
le-or-less (suc a) (suc b) = ⊎_elim (λ h. inl (omega arith)) (λ h. inr (omega arith)) (le-or-less a b)

-- what the machine reads back of a signed argument that is passed on
pub back : {x : ℤ} → SFits w64 x → to_z w64 (of_z w64 x) ≡ x
back f = to_z-of_z f

-- and of a signed number that a call gave, and of an unsigned number that is cast
pub returned : (x : ℤ) → mag x < 2 ^ 63 → to_z w64 (of_z w64 x) ≡ x
returned x h = let f : SFits w64 x = record { sfits = h } in to_z-of_z f

pub unsigned : (n : ℕ) → n < 2 ^ 63 → to_z w64 n ≡ pos n
unsigned n h = to_z_pos w64 n h

-- a signed number that is n
pub record Plain (x : ℤ) : Type 0 where
  pub n : ℕ
  pub is : x ≡ pos n

-- a signed number not below one that is not negative, or above it
pub from-pos : {a : ℕ} (x : ℤ) → le_z (pos a) x ≡ true → (p : Plain x) × (a ≤ p.n)
from-pos {a} (pos n) e = (record { n = n; is = refl }, leb-true a n e)
from-pos (negsuc n) e = let z : ◌≡◌ {A = ℕ} 0 1 = cc in absurd (omega arith)

pub after-pos : {a : ℕ} (x : ℤ) → lt_z (pos a) x ≡ true → (p : Plain x) × (a < p.n)
after-pos {a} (pos n) e = (record { n = n; is = refl }, ltb-true a n e)
after-pos (negsuc n) e = let z : ◌≡◌ {A = ℕ} 0 1 = cc in absurd (omega arith)

pub below : (a b : ℕ) (x : ℤ) → b ≤ a → lt_z (pos a) x ≡ true → le_z (pos b) x ≡ true
below a b x l e = let p = after-pos x e in rw p.0.is (le-leb b p.0.n (omega (arith, p.1)))

-- the difference of two numbers, the larger first
pub pos-minus : (a b : ℕ) → b ≤ a → pos a -ℤ pos b ≡ pos (a - b)
pos-minus a zero h = let e : a + 0 ≡ a - 0 = omega arith in ap pos e
pos-minus a (suc b) h = rw (le-ltb a (suc b) h)

less-plain : {a b : ℤ} {x y : ℕ} → a ≡ pos x → b ≡ pos y → x ≤ y → b -ℤ a ≡ pos (y - x)
less-plain {x = x} {y = y} e f h = rw (e, f) (pos-minus y x h)

pub record Gap (a b : ℤ) : Type 0 where
  pub n : ℕ
  pub is : b -ℤ a ≡ pos n
  pub few : n ≤ mag b

-- two numbers that are not negative, the second not below the first
abbrev pub Ahead : ℤ → ℤ → Type 0
Ahead a b = ((pos 0 ≤ᶻ a) ≡ true) × ((a ≤ᶻ b) ≡ true)

pub gap : (a b : ℤ) → Ahead a b → Gap a b
gap a b r =
    let x = (from-pos a r.0).0 in
    let y = from-pos b (rw x.is at r.1) in
    record { n = y.0.n - x.n; is = less-plain x.is y.0.is y.1; few = omega (arith, ap mag y.0.is) }

-- ---- differences of either sign

pub same-leb : (a b c d : ℕ) → (a ≤ b → c ≤ d) → (c ≤ d → a ≤ b) → leb a b ≡ leb c d
same-leb a b c d f g =
    ⊎_elim (λ h. le-leb a b h ∙ sym (le-leb c d (f h)))
    (λ h. ⊎_elim (λ k. absurd (omega (arith, g k))) (λ k. lt-leb a b h ∙ sym (lt-leb c d k)) (le-or-less c d)) (le-or-less a b)

ltb-not : (a b : ℕ) → ltb a b ≡ not (leb b a)
ltb-not a b =
    ⊎_elim (λ k. le-ltb a b k ∙ sym (ap not (le-leb b a k))) (λ k. lt-ltb a b k ∙ sym (ap not (lt-leb b a k))) (le-or-less b a)

pub lt_not : (x y : ℤ) → lt_z x y ≡ not (le_z y x)
lt_not (pos a) (pos b) = ltb-not a b
lt_not (pos a) (negsuc b) = refl
lt_not (negsuc a) (pos b) = refl
lt_not (negsuc a) (negsuc b) = ltb-not b a
