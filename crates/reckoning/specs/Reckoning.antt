-- What the numbers of a label name. Document 01, "Labels".
use Rattle.std.specs.Prelude.{ℕ, ◌+◌, ◌*◌, ◌/◌, cond, List, length, get_or, drop, Result, Ok, Err}
use Prim.Native.Char.{code}
use Rattle.refusal.specs.Paper.{Paper, refused}
use Rattle.division.specs.declared.Place.{Place}
use Rattle.division.specs.Table.{made, is_scale, width, height}
use Rattle.division.specs.Sheet.{index_at}
use Rattle.label.specs.Text.{split}
use Rattle.label.specs.Label.{scale_with, in_range, first_out, place_from, start_of}
use Rattle.reckoning.specs.declared.Reach.{Reach}
use Rattle.reckoning.specs.declared.Named.{Named}
use Rattle.reckoning.specs.declared.Unnamed.{Unnamed}
use Rattle.reckoning.specs.declared.Unnamed.TheVariants.{Scale, Number}

-- the index of a place of a scale, and how far its sheet lies from the area's corner, in hundreds of metres
abbrev pub reach_of : ℕ → Place → Reach
reach_of s p = record { index = index_at (made s) p; right = p.column * (width s / 100); down = p.row * (height s / 100) }

-- that of the place that the fields behind the first number name at a scale, if all are in range, or else the first that is not
unfoldable pub reckon : ℕ → List ℕ → Result Reach ℕ
reckon s fields = cond (in_range (made s) fields) (Ok (reach_of s (place_from (made s) fields))) (Err (first_out (made s) fields))

-- that with its scale; or the scale and the number out of range, which has the first one before it
abbrev pub named_at : ℕ → Result Reach ℕ → Result Named Unnamed
named_at s (Ok reach) = Ok (record { scale = s; reach = reach })
named_at s (Err i) = Err (Number s (1 + i))

-- "The first number and the count of fields together decide the scale"
unfoldable pub named : List ℕ → Result Named Unnamed
named numbers =
    let s = scale_with (get_or numbers 0 0) (length numbers) in
    cond (is_scale s) (named_at s (reckon s (drop 1 numbers))) (Err Scale)

-- why they name no sheet: "21 an unknown first number or count of fields"; "for 5 the start of the first field out of range"
abbrev pub not_named : {A : Type 0} → Unnamed → List ℕ → Paper A
not_named Scale label = refused 21 0
not_named (Number s k) label = refused 5 (start_of k (split (code "-") label))
