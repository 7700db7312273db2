-- A name that is laid into lent room, or none. Assumes nothing.
use mathlib.Core.Path.{◌≡◌, refl, ap, ◌∙◌}
use mathlib.Core.Bool.{Bool, true, false}
use mathlib.Core.List.{List, []}
use Rattle.std.specs.Prelude.{Option, Some, None}
use Prim.Native.Nat.{ℕ}
use native.Mathlib.Omega.{arith}
use lib.Dec.{leb}
use lib.ListN.{length}
use Rattle.refusal.specs.Paper.{Paper, answer, refuse◌at◌unless◌, ◌>>◌, ◌>>=◌, laid, counted, room_after}
use Rattle.refusal.proofs.PaperLaws.{laid-fits}
use Rattle.division.specs.Sheet.{is_sheet}
use Rattle.official.specs.Lookup.{name_of, is250000, write_name, name_told}

-- the answer where a name's bytes were laid
abbrev pub name_laid : Paper ℕ → Paper (Option ℕ)
name_laid laid = laid >>= λ count. answer (Some count)

-- a count of what is laid is the name's length
count-is-length : (name : List ℕ) (room : ℕ) → name_laid (counted (laid name room)) ≡ (laid name room >>= λ written. answer (Some (length name)))
count-is-length name room = by (leb (length name) room)
  where
    by : (fits : Bool) → let p = (refuse 10 at length name unless fits) >> answer name in name_laid (counted p) ≡ (p >>= λ written. answer (Some (length name)))
    by true = refl
    by false = refl

module _ (n : ℕ) (room : List ℕ) (sheet : is_sheet n ≡ true) (scale : is250000 n ≡ true) where
  pub none_written : name_of n ≡ None → (answer None ≡ name_told n (length room)) × (room ≡ room_after (write_name n (length room)) room)
  unfolding name_told write_name
  none_written e = rw (sheet, scale, e, laid-fits [] {room = length room} (omega arith)) (refl, refl)

  pub name-written : {name : List ℕ} {told : Paper ℕ} {new : List ℕ} → name_of n ≡ Some name → (told ≡ counted (laid name (length room))) × (new ≡ room_after (laid name (length room)) room)
      → (name_laid told ≡ name_told n (length room)) × (new ≡ room_after (write_name n (length room)) room)
  unfolding name_told write_name
  name-written {name} e w = rw (sheet, scale, e) (ap name_laid w.0 ∙ count-is-length name (length room), w.1)
