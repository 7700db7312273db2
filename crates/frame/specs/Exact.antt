-- The exact value of a 64-bit float in metres, and the whole millimetres beside it. Document 02, a).
use Rattle.std.specs.Prelude.{ℕ, ◌*◌, Bool, true, false, ℤ, pos, neg_ℤ, Float}
use Rattle.std.specs.Int.Signed.{shr_z}
use Rattle.std.specs.Float.{nan, inf, fin}
use Rattle.std.specs.Float.Ieee.{up, down}
use Rattle.refusal.specs.Paper.{Paper, answer, refused, ◌>>=◌}

-- over / under
pub record Fraction : Type 0 where
  pub over : ℤ
  pub under : ℕ

abbrev pub signed : Bool → ℕ → ℤ
signed false size = pos size
signed true size = neg_ℤ (pos size)

-- "18, a value that is infinite or no number". Any other is mantissa × 2 ^ power metres, and 2 ^ power is up power / down power, one of
-- which is 1; times 1 000 that is millimetres
unfoldable pub exactly : Float → Paper Fraction
exactly nan = refused 18 0
exactly (inf minus) = refused 18 0
exactly (fin minus mantissa power) = answer (record { over = signed minus (mantissa * up power * 1_000); under = down power })

-- the last whole number at or below a fraction (`shr_z` divides and rounds down), and the first at or above it
abbrev pub floor : Fraction → ℤ
floor x = shr_z x.over x.under

abbrev pub ceiling : Fraction → ℤ
ceiling x = neg_ℤ (shr_z (neg_ℤ x.over) x.under)

-- "The east value goes down to a whole millimetre and the north value goes up"
unfoldable pub downward : Float → Paper ℤ
downward x = do
  value ← exactly x
  answer (floor value)

unfoldable pub upward : Float → Paper ℤ
upward x = do
  value ← exactly x
  answer (ceiling value)
