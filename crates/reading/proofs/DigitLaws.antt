-- What bytes begin with, and the number of a run of digits, as a loop reads them. Assumes nothing.
use mathlib.Core.Path.{◌≡◌, refl, sym, ap, ap₂, ◌∙◌}
use mathlib.Core.Bool.{Bool, true, false}
use mathlib.Core.List.{List, [], ◌∷◌}
use Prim.Native.Nat.{ℕ, suc, ◌+◌, ◌-◌, ◌*◌, ◌^◌, ◌≤◌, ◌<◌}
use native.Mathlib.Nat.{pow-suc, pow-le-pow_right, add-mul, mul_assoc, mul_comm}
use native.Mathlib.Numerals.{add-one}
use native.Mathlib.Omega.{arith}
use borrow.Author.Tests.{ne_eqb}
use lib.ListN.{length, get_or, drop, drop_of_length-le}
use lib.Seq.{drop-cons}
use Rattle.division.proofs.TestLaws.{between_in}
use Rattle.reading.specs.declared.numbers.Run.{Run}
use Rattle.label.specs.Text.{value}
use Rattle.reading.specs.Given.{is_digit, beginning, digits_from, field_from}

-- ---- the beginning, byte by byte

module _ (test : ℕ → Bool) where
  pub begins-on : (b : ℕ) (t : List ℕ) → test b ≡ true → beginning test (b ∷ t) ≡ b ∷ beginning test t
  unfolding beginning
  begins-on b t e = rw e

  pub begins-off : (b : ℕ) (t : List ℕ) → test b ≡ false → beginning test (b ∷ t) ≡ []
  unfolding beginning
  begins-off b t e = rw e

  pub begins-none : beginning test [] ≡ []
  unfolding beginning
  begins-none = refl

  -- from a place on
  module _ (s : List ℕ) (i : ℕ) where
    pub on-at : i < length s → test (get_or s i 0) ≡ true → beginning test (drop i s) ≡ get_or s i 0 ∷ beginning test (drop (i + 1) s)
    on-at h e = rw (drop-cons s i 0 h, add-one i) (begins-on (get_or s i 0) (drop (suc i) s) e)

    pub off_at : i < length s → test (get_or s i 0) ≡ false → beginning test (drop i s) ≡ []
    off_at h e = rw (drop-cons s i 0 h) (begins-off (get_or s i 0) (drop (suc i) s) e)

    pub none-at : length s ≤ i → beginning test (drop i s) ≡ []
    none-at h = rw (drop_of_length-le s h) begins-none

-- ---- digits behind those of a number

run : {v w d e : ℕ} → v ≡ w → d ≡ e → ◌≡◌ {A = Run} (record { value = v; end = d }) (record { value = w; end = e })
run p q = ap₂ (λ (v e : ℕ). record { value = v; end = e }) p q

-- one digit more in front
more : (front d : ℕ) (ds : List ℕ) → front * 10 ^ length (d ∷ ds) + value (d ∷ ds) ≡ (front * 10 + (d - 48)) * 10 ^ length ds + value ds
unfolding value
more front d ds =
    let k = 10 ^ length ds in
    omega (arith, ap (λ (n : ℕ). front * n) (pow-suc 10 (length ds) ∙ mul_comm k 10), mul_assoc front 10 k, add-mul (front * 10) (d - 48) k)

module _ (s : List ℕ) (i front : ℕ) where
  pub digit_at : i < length s → is_digit (get_or s i 0) ≡ true → digits_from s i front ≡ digits_from s (i + 1) (front * 10 + (get_or s i 0 - 48))
  digit_at h e =
      let ds = beginning is_digit (drop (i + 1) s) in
      rw (on-at is_digit s i h e) (run (more front (get_or s i 0) ds) (omega arith))

  ends_with : beginning is_digit (drop i s) ≡ [] → digits_from s i front ≡ record { value = front; end = i }
  unfolding value
  ends_with e = rw e (run (omega arith) (omega arith))

  pub ends_at : i < length s → is_digit (get_or s i 0) ≡ false → record { value = front; end = i } ≡ digits_from s i front
  ends_at h e = sym (ends_with (off_at is_digit s i h e))

  pub ends-out : length s ≤ i → record { value = front; end = i } ≡ digits_from s i front
  ends-out h = sym (ends_with (none-at is_digit s i h))

-- ---- a field by its first digit

value-cons : (d : ℕ) (ds : List ℕ) → value (d ∷ ds) ≡ (d - 48) * 10 ^ length ds + value ds
unfolding value
value-cons d ds = refl

module _ (s : List ℕ) (first at : ℕ) where
  alone : beginning is_digit (drop at s) ≡ [] → record { value = first - 48; end = at } ≡ field_from s first at
  unfolding value
  alone e = rw e (run (omega arith) (omega arith))

  pub alone-out : length s ≤ at → record { value = first - 48; end = at } ≡ field_from s first at
  alone-out h = alone (none-at is_digit s at h)

  module _ (h : at < length s) where
    pub alone_at : is_digit (get_or s at 0) ≡ false → record { value = first - 48; end = at } ≡ field_from s first at
    alone_at e = alone (off_at is_digit s at h e)

    pub leads : is_digit (get_or s at 0) ≡ true → first ≡ 48 → record { value = 0; end = 17 } ≡ field_from s first at
    leads e z = rw (on-at is_digit s at h e, z)

    pub goes_on : is_digit (get_or s at 0) ≡ true → (first ≡ 48 → ⊥) → digits_from s (at + 1) ((first - 48) * 10 + (get_or s at 0 - 48)) ≡ field_from s first at
    goes_on e n =
        let ds = beginning is_digit (drop (at + 1) s) in
        rw (on-at is_digit s at h e, ne_eqb first 48 n, value-cons first (get_or s at 0 ∷ ds)) (run (sym (more (first - 48) (get_or s at 0) ds)) (omega arith))

-- ---- the loop over the digits

-- at byte i: the digits from there on, behind the value so far, are those of the whole run
pub record Reading (s : List ℕ) (at front value i : ℕ) : Type 0 where
  pub short : length s ≤ 17
  pub within : i ≤ length s
  pub small : value < 10 ^ i
  pub rest : digits_from s i value ≡ digits_from s at front

pub small-on : (i v d : ℕ) → v < 10 ^ i → d < 10 → v * 10 + d < 10 ^ (i + 1)
small-on i v d h k = rw (add-one i, pow-suc 10 i) (omega arith)

module _ {s : List ℕ} {at front value i : ℕ} (w : Reading s at front value i) (h : i < length s) where
  pub sixteen : value < 10 ^ 16
  sixteen = omega (arith, w.small, pow-le-pow_right {n = 10} (omega arith) {i = i} {j = 16} (omega (arith, w.short)))

  pub digit-few : is_digit (get_or s i 0) ≡ true → get_or s i 0 - 48 < 10
  digit-few e = omega (arith, (between_in 48 57 (get_or s i 0) e).1)

  pub reads_on : is_digit (get_or s i 0) ≡ true → Reading s at front (value * 10 + (get_or s i 0 - 48)) (i + 1)
  reads_on e = record {
    short = w.short;
    within = omega arith;
    small = small-on i value (get_or s i 0 - 48) w.small (digit-few e);
    rest = sym (digit_at s i value h e) ∙ w.rest;
  }
