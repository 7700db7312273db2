-- A line that is cut into cells of a size: a stretch of it meets the cells from its first number's to its last number's. Assumes nothing.
use mathlib.Core.Path.{◌≡◌, ap, ◌∙◌}
use mathlib.Core.List.{List}
use mathlib.Core.Bool.{Bool, true, false, ◌&&◌, and-false}
use Prim.Native.Nat.{ℕ, ◌+◌, ◌-◌, ◌*◌, ◌/◌, ◌≤◌, ◌<◌}
use native.Mathlib.Nat.{le-div_iff_mul-le, div-lt_iff_lt-mul, div-le_self, div-add-mod', zero-add}
use native.Mathlib.Omega.{arith}
use borrow.Author.Tests.{lt-ltb, le-ltb}
use lib.ListN.{length}
use Rattle.division.specs.declared.cover.Span.{Span}
use Rattle.division.specs.Words.{◌<?◌, from, keep}
use Rattle.division.specs.Cover.{spanned}
use Rattle.division.specs.Given.{span_of}
use Rattle.division.proofs.RangeLaws.{length_from, get_or-from, keep-range}
use Rattle.division.proofs.MadeLaws.{quot}

-- numbers that follow one another below a limit, as a span of them
pub record Spans (l : List ℕ) (limit : ℕ) (r : Span) : Type 0 where
  pub listed : l ≡ from r.first r.count
  pub some : 0 < r.count
  pub inside : r.first + r.count ≤ limit

pub span-is : {l : List ℕ} {limit : ℕ} {r : Span} → Spans l limit r → spanned l ≡ r
span-is {r = r} s = ap spanned s.listed ∙ (λ i. record { first = first i; count = count i })
  where
    first : (spanned (from r.first r.count)).first ≡ r.first
    first = get_or-from r.first r.count 0 s.some ∙ omega arith

    count : length (from r.first r.count) ≡ r.count
    count = length_from r.first r.count

-- cell c begins before the stretch from a up to b ends, and ends after it begins
abbrev pub meets : ℕ → ℕ → ℕ → ℕ → Bool
meets a b size c = c * size <? b && a <? (c + 1) * size

-- a stretch from a up to b of a line that is cut into cells of a size
abbrev pub Stretch : ℕ → ℕ → ℕ → Type 0
Stretch a b size = (0 < size) × ((a < b) × (b ≤ 600_000_000))

module _ {a b size : ℕ} (t : Stretch a b size) where
  pub ordered : a / size ≤ (b - 1) / size
  ordered = (le-div_iff_mul-le t.0).1 (omega (arith, div-add-mod' a size, t.1.0))

  pub small : (b - 1) / size < 600_000_000
  small = omega (arith, div-le_self (b - 1) size, t.1.1, t.1.0)

  -- so a test for the cells that it meets keeps its span of the line
  module _ (count : ℕ) (full : count * size ≡ 600_000_000) (f : ℕ → Bool) (tests : (c : ℕ) → c < count → f c ≡ meets a b size c) where
    reach : (b - 1) / size < count
    reach = quot t.0 (omega (arith, t.1.0, t.1.1))

    outside : (c : ℕ) → 0 ≤ c → c < 0 + a / size → f c ≡ false
    outside c z l =
        let e : (c + 1) * size ≤ a = (le-div_iff_mul-le t.0).0 (omega arith) in
        tests c (omega (arith, reach, ordered)) ∙ rw (le-ltb a ((c + 1) * size) e) (and-false (c * size <? b))

    met : (c : ℕ) → 0 + a / size ≤ c → c < 0 + a / size + (span_of a b size).count → f c ≡ true
    met c h l =
        let x : c * size ≤ b - 1 = (le-div_iff_mul-le t.0).0 (omega (arith, ordered)) in
        let y : a < (c + 1) * size = (div-lt_iff_lt-mul t.0).0 (omega arith) in
        tests c (omega (arith, reach, ordered)) ∙ rw (lt-ltb (c * size) b (omega (arith, t.1.0)), lt-ltb a ((c + 1) * size) y)

    past : (c : ℕ) → 0 + a / size + (span_of a b size).count ≤ c → c < count → f c ≡ false
    past c h l =
        let e : b - 1 < c * size = (div-lt_iff_lt-mul t.0).0 (omega (arith, ordered)) in
        tests c l ∙ rw (le-ltb (c * size) b (omega arith))

    pub span_run : Spans (keep f (from 0 count)) count (span_of a b size)
    span_run =
        let rest = count - (a / size + (span_of a b size).count) in
        let e : a / size + ((span_of a b size).count + rest) ≡ count = omega (arith, reach, ordered) in
        let k : keep f (from 0 (a / size + ((span_of a b size).count + rest))) ≡ from (0 + a / size) (span_of a b size).count = keep-range f 0 (a / size) (span_of a b size).count rest outside met (λ c h l. past c h (omega arith)) in
        record { listed = rw (e, zero-add (a / size)) at k; some = omega arith; inside = omega (arith, reach, ordered) }
