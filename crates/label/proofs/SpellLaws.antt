-- A field of digits without a leading zero is spelt the one way in which its number is written. Assumes nothing.
use mathlib.Core.Path.{◌≡◌, refl, ap, ap₂, ◌∙◌}
use mathlib.Core.Bool.{Bool, true, false, cond, ◌||◌}
use mathlib.Core.List.{List, [], ◌∷◌, ◌++◌, map}
use Prim.Native.Nat.{ℕ, zero, suc, ◌+◌, ◌-◌, ◌*◌, ◌/◌, ◌%◌, ◌^◌, ◌≤◌, ◌<◌}
use native.Mathlib.Nat.{pow-suc, pow-le-pow_right, mul-le-mul_right}
use native.Mathlib.Omega.{arith}
use lib.Arith.{digits_div, digits_mod}
use lib.ListN.{length, length-append}
use borrow.Author.Tests.{leb-true, eqb-false, not-true}
use lib.Dec.{eqb}
use Rattle.division.specs.Words.{◌≤?◌, between}
use Rattle.division.proofs.TestLaws.{both}
use Rattle.label.specs.Text.{every, on_first, split, digits, without_zeros, decimal, value}
use Rattle.label.specs.Label.{is_field, is_label_byte}
use Rattle.label.proofs.DecimalLaws.{decimal_step, decimal-one}
use Rattle.label.proofs.ValueLaws.{value-snoc}
use Rattle.label.proofs.SplitLaws.{Free}

-- a list, seen from its end
data Snoc : List ℕ → Type 0 where
  none : Snoc []
  more : (l : List ℕ) → Snoc l → (d : ℕ) → Snoc (l ++ (d ∷ []))

seen : (l : List ℕ) → Snoc l
seen [] = none
seen (d ∷ l) = in-front d (seen l)
  where
    in-front : (d : ℕ) {l : List ℕ} → Snoc l → Snoc (d ∷ l)
    in-front d none = more [] none d
    in-front d (more l s e) = more (d ∷ l) (in-front d s) e

-- digits only
abbrev pub Digits : List ℕ → Type 0
Digits [] = Unit {0}
Digits (d ∷ ds) = ((48 ≤ d) × (d ≤ 57)) × Digits ds

-- a first digit that is not zero
abbrev pub Leads : List ℕ → Type 0
Leads [] = ⊥
Leads (d ∷ ds) = d ≡ 48 → ⊥

pub digits_append : (a b : List ℕ) → Digits a → Digits b → Digits (a ++ b)
digits_append [] b h g = g
digits_append (d ∷ a) b h g = (h.0, digits_append a b h.1 g)

-- digits have no hyphen among them
pub digits-free : (ds : List ℕ) → Digits ds → Free 45 ds
digits-free [] h = tt
digits-free (d ∷ ds) h = ((λ e. omega (arith, h.0.0)), digits-free ds h.1)

digits-split : (l r : List ℕ) → Digits (l ++ r) → Digits l × Digits r
digits-split [] r h = (tt, h)
digits-split (d ∷ l) r h = let t = digits-split l r h.1 in ((h.0, t.0), t.1)

-- a number that leads with a digit is not zero, and of n digits it is below 10 ^ n
leads-some : (l : List ℕ) → Digits l → Leads l → 1 ≤ value l
unfolding value
leads-some [] h n = absurd n
leads-some (d ∷ l) h n =
    let a : 1 ≤ d - 48 = omega (arith, h.0.0, n) in
    let b : 1 ≤ 10 ^ length l = pow_pos (length l) in
    let c : 1 * 10 ^ length l ≤ (d - 48) * 10 ^ length l = mul-le-mul_right (10 ^ length l) a in
    omega arith
  where
    pow_pos : (k : ℕ) → 1 ≤ 10 ^ k
    pow_pos k = omega (arith, pow-le-pow_right {n = 10} (omega arith) {i = 0} {j = k} (omega arith))

pub value-few : (l : List ℕ) → Digits l → value l < 10 ^ length l
unfolding value
value-few [] h = omega arith
value-few (d ∷ l) h =
    let m : (d - 48) * 10 ^ length l ≤ 9 * 10 ^ length l = mul-le-mul_right (10 ^ length l) (omega (arith, h.0.1)) in
    omega (arith, value-few l h.1, pow-suc 10 (length l))

-- digits that lead with one are the digits of their number
last-digit : (v d : ℕ) → 48 ≤ d → d ≤ 57 → ((v * 10 + (d - 48)) / 10 ≡ v) × (48 + (v * 10 + (d - 48)) % 10 ≡ d)
last-digit v d a b =
    let l : d - 48 < 10 = omega arith in
    (digits_div v l, rw (digits_mod v l) (omega arith))

one-digit : (d : ℕ) → value (d ∷ []) ≡ d - 48
unfolding value
one-digit d = omega arith

spelt : (k : ℕ) {l : List ℕ} → Snoc l → Digits l → Leads l → length l ≤ k → without_zeros (digits k (value l)) ≡ l
spelt k none h n f = absurd n
spelt zero (more l s d) h n f = absurd (omega (arith, length-append l (d ∷ [])))
spelt (suc k) (more [] s d) h n f =
    rw (one-digit d) (decimal-one k (d - 48) (omega (arith, h.0.1)) ∙ ap (λ (x : ℕ). x ∷ []) (omega (arith, h.0.0)))
spelt (suc k) (more (e ∷ l) s d) h n f =
    let t = digits-split (e ∷ l) (d ∷ []) h in
    let g : length (e ∷ l) ≤ k = omega (arith, length-append (e ∷ l) (d ∷ [])) in
    let v = value (e ∷ l) in
    let q = last-digit v d t.1.0.0 t.1.0.1 in
    let ten : 10 ≤ v * 10 + (d - 48) = omega (arith, leads-some (e ∷ l) t.0 n) in
    let few : v * 10 + (d - 48) < 10 ^ suc k = omega (arith, value-few (e ∷ l) t.0, pow-le-pow_right {n = 10} (omega arith) {i = length (e ∷ l)} {j = k} g, pow-suc 10 k) in
    rw (value-snoc (e ∷ l) d, decimal_step k (v * 10 + (d - 48)) ten few, q.0, q.1, spelt k s t.0 n g)

-- "no leading zero (a field "0" alone is well formed)"
pub field-spelt : (l : List ℕ) → Digits l → is_field l ≡ true → length l ≤ 20 → decimal (value l) ≡ l
unfolding decimal
field-spelt [] h e f = let z : ◌≡◌ {A = ℕ} 0 1 = cc in absurd (omega arith)
field-spelt (d ∷ []) h e f = rw (one-digit d) (decimal-one 19 (d - 48) (omega (arith, h.0.1)) ∙ ap (λ (x : ℕ). x ∷ []) (omega (arith, h.0.0)))
field-spelt (d ∷ b ∷ l) h e f = spelt 20 (seen (d ∷ b ∷ l)) h (eqb-false d 48 (not-true (eqb d 48) e)) f

-- ---- the pieces of a label

-- pieces of digits, none longer than n
abbrev pub Pieces : ℕ → List (List ℕ) → Type 0
Pieces n [] = Unit {0}
Pieces n (l ∷ ls) = (Digits l × (length l ≤ n)) × Pieces n ls

longer : (n : ℕ) (ls : List (List ℕ)) → Pieces n ls → Pieces (suc n) ls
longer n [] h = tt
longer n (l ∷ ls) h = ((h.0.0, omega (arith, h.0.1)), longer n ls h.1)

a-digit : (b : ℕ) → is_label_byte b ≡ true → eqb b 45 ≡ false → (48 ≤ b) × (b ≤ 57)
a-digit b e f =
    let t = both (48 ≤? b) (b ≤? 57) (rw (f, or-false (between 48 57 b)) at e) in
    (leb-true 48 b t.0, leb-true b 57 t.1)
  where
    or-false : (x : Bool) → (x || false) ≡ x
    or-false true = refl
    or-false false = refl

-- "only digits and hyphens": between the hyphens there are digits only
pub pieces : (s : List ℕ) → every is_label_byte s ≡ true → Pieces (length s) (split 45 s)
unfolding every split
pieces [] h = ((tt, omega arith), tt)
pieces (b ∷ s) h =
    let t = both (is_label_byte b) (every is_label_byte s) h in
    by (eqb b 45) refl t.0 (split 45 s) (pieces s t.1)
  where
    by : (x : Bool) → eqb b 45 ≡ x → is_label_byte b ≡ true → (ls : List (List ℕ)) → Pieces (length s) ls → Pieces (suc (length s)) (cond x ([] ∷ ls) (on_first b ls))
    by true e g ls p = ((tt, omega arith), longer (length s) ls p)
    by false e g [] p = ((((a-digit b g e), tt), omega arith), tt)
    by false e g (l ∷ ls) p = (((a-digit b g e, p.0.0), omega (arith, p.0.1)), longer (length s) ls p.1)

-- such pieces, well formed, are what their numbers are written as
pub pieces-spelt : (n : ℕ) (ls : List (List ℕ)) → n ≤ 20 → Pieces n ls → every is_field ls ≡ true → map decimal (map value ls) ≡ ls
unfolding every
pieces-spelt n [] f p h = refl
pieces-spelt n (l ∷ ls) f p h =
    let t = both (is_field l) (every is_field ls) h in
    ap₂ (λ (a : List ℕ) (b : List (List ℕ)). a ∷ b) (field-spelt l p.0.0 t.0 (omega (arith, p.0.1))) (pieces-spelt n ls f p.1 t.1)
