-- What the inner functions take for granted: the public ones see to it.
use Rattle.std.specs.Prelude.{ℕ, ◌+◌, ◌-◌, ◌*◌, ◌/◌, ◌%◌, ◌^◌, ◌≤◌, ◌≡◌, Bool, true, cond, ℤ, pos, Float}
use Rattle.std.specs.Float.{binary64}
use Rattle.std.specs.Float.Ieee.{to_bits}
use Rattle.refusal.specs.Paper.{is_answer}
use Rattle.division.specs.declared.Edges.{Edges}
use Rattle.division.specs.Words.{◌≤?◌, ◌=?◌}
use Rattle.frame.specs.Exact.{exactly}

-- "every edge is a whole number of hundred metres", and none lies beyond the area's north edge, 5 170 000 m
pub record Hundreds (edge : ℤ) : Type 0 where
  pub hundreds : ℕ
  pub is : edge ≡ pos (hundreds * 100_000)
  pub few : hundreds ≤ 51_700

abbrev pub AllHundreds : Edges → Type 0
AllHundreds e = Hundreds e.west × Hundreds e.east × Hundreds e.south × Hundreds e.north

-- "the float's own bits": the sign, eleven of the exponent, and fifty-two of the mantissa, whose leading one is not among them
abbrev pub is_minus : ℕ → Bool
is_minus bits = 2 ^ 63 ≤? bits

abbrev pub exponent_in : ℕ → ℕ
exponent_in bits = bits % 2 ^ 63 / 2 ^ 52

abbrev pub mantissa_in : ℕ → ℕ
mantissa_in bits = cond (exponent_in bits =? 0) 0 (2 ^ 52) + bits % 2 ^ 52

-- the binary places behind the point; from 63 on nothing is left in front of it, so 63 stand for more
abbrev pub places_in : ℕ → ℕ
places_in bits = cond (exponent_in bits ≤? 1_012) 63 (1_075 - exponent_in bits)

-- in reach of 64-bit millimetres: below 2 ^ 53 metres in size
abbrev pub in_reach : Float → Bool
in_reach x = exponent_in (to_bits binary64 x) ≤? 1_075

pub record InReach (x : Float) : Type 0 where
  pub number : is_answer (exactly x) ≡ true
  pub reached : in_reach x ≡ true
