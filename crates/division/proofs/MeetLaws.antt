-- Two stretches of a signed line share a number exactly if each begins before the other ends. Assumes nothing.
use mathlib.Core.Path.{◌≡◌, refl}
use mathlib.Core.Bool.{Bool, true, false, ◌&&◌}
use mathlib.Core.Logic.{⊎_elim, ◌⊎◌, inl, inr}
use native.Mathlib.Omega.{arith}
use borrow.Author.Tests.{le-leb}
use lib.Dec.{T}
use lib.IntN.{ℤ, pos, negsuc}
use lib.Signed.{≤ℤ_refl, le_z_yes, lt_z_yes, lt_z_no, <ℤ-≤ℤ_trans, clash_ℤ}
use Rattle.division.specs.Words.{◌≤ᶻ◌, ◌<ᶻ◌}
use Rattle.division.proofs.TestLaws.{le-or-less, both}

-- ---- the order of signed numbers

total : (a b : ℤ) → ((a ≤ᶻ b) ≡ true) ⊎ ((b ≤ᶻ a) ≡ true)
total (pos a) (pos b) = ⊎_elim (λ h. inl (le-leb a b h)) (λ h. inr (le-leb b a (omega arith))) (le-or-less a b)
total (pos a) (negsuc b) = inr refl
total (negsuc a) (pos b) = inl refl
total (negsuc a) (negsuc b) = ⊎_elim (λ h. inr (le-leb a b h)) (λ h. inl (le-leb b a (omega arith))) (le-or-less a b)

yes : (t : Bool) → T t → t ≡ true
yes true h = refl
yes false h = absurd h

so : {t : Bool} → t ≡ true → T t
so e = rw e tt

self : (a : ℤ) → (a ≤ᶻ a) ≡ true
self a = yes (a ≤ᶻ a) (≤ℤ_refl a).le

lt-le : (a b c : ℤ) → (a <ᶻ b) ≡ true → (b ≤ᶻ c) ≡ true → (a <ᶻ c) ≡ true
lt-le a b c h k = yes (a <ᶻ c) (<ℤ-≤ℤ_trans (lt_z_yes {a = a} {b = b} (so h)) (le_z_yes {a = b} {b = c} (so k))).lt

le-lt : (a b c : ℤ) → (a ≤ᶻ b) ≡ true → (b <ᶻ c) ≡ true → (a <ᶻ c) ≡ true
le-lt a b c h k = by (a <ᶻ c) refl
  where
    by : (t : Bool) → (a <ᶻ c) ≡ t → t ≡ true
    by true e = refl
    by false e = clash_ℤ (<ℤ-≤ℤ_trans (lt_z_yes {a = b} {b = c} (so k)) (lt_z_no {a = a} {b = c} (rw e tt))) (le_z_yes {a = a} {b = b} (so h))

and : {a b : Bool} → a ≡ true → b ≡ true → (a && b) ≡ true
and p q = rw (p, q)

-- ---- the stretches from a to b and from x to y

module _ (a b x y : ℤ) (p : (a <ᶻ b) ≡ true) (q : (x <ᶻ y) ≡ true) (m : (x <ᶻ b && a <ᶻ y) ≡ true) where
  -- where each has its first number and not its last
  pub first-common : (e : ℤ) × ((a ≤ᶻ e && e <ᶻ b) ≡ true) × ((x ≤ᶻ e && e <ᶻ y) ≡ true)
  first-common =
      let t = both (x <ᶻ b) (a <ᶻ y) m in
      ⊎_elim (λ h. (x, and h t.0, and (self x) q)) (λ h. (a, and (self a) p, and h t.1)) (total a x)

  -- where each has its last number and not its first
  pub last-common : (n : ℤ) × ((a <ᶻ n && n ≤ᶻ b) ≡ true) × ((x <ᶻ n && n ≤ᶻ y) ≡ true)
  last-common =
      let t = both (x <ᶻ b) (a <ᶻ y) m in
      ⊎_elim (λ h. (b, and p (self b), and t.0 h)) (λ h. (y, and t.1 h, and q (self y))) (total b y)

module _ (a b x y e : ℤ) where
  pub first-meets : (a ≤ᶻ e) ≡ true → (e <ᶻ b) ≡ true → (x ≤ᶻ e) ≡ true → (e <ᶻ y) ≡ true → (x <ᶻ b && a <ᶻ y) ≡ true
  first-meets h k l m = and (le-lt x e b l k) (le-lt a e y h m)

  pub last_meets : (a <ᶻ e) ≡ true → (e ≤ᶻ b) ≡ true → (x <ᶻ e) ≡ true → (e ≤ᶻ y) ≡ true → (x <ᶻ b && a <ᶻ y) ≡ true
  last_meets h k l m = and (lt-le x e b l k) (lt-le a e y h m)
