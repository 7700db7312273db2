-- The fields of a place on its grid are in range, once over how a scale is made. Assumes nothing.
use mathlib.Core.Path.{◌≡◌}
use mathlib.Core.Bool.{true}
use Prim.Native.Nat.{◌+◌, ◌*◌}
use native.Mathlib.Omega.{arith}
use Rattle.division.specs.declared.Place.{Place}
use Rattle.division.specs.Table.{Made, of_area, of_scale, rows_of, columns_of}
use Rattle.division.specs.Sheet.{number_in, parent_place}
use Rattle.division.proofs.TestLaws.{in_between}
use Rattle.division.proofs.MadeLaws.{Sound, On, number-few, on-parent}
use Rattle.label.specs.Text.{every}
use Rattle.label.specs.Label.{fields_of, ranges, in_range}

pub range-fields : (m : Made) (p : Place) → Sound m → On m p → in_range m (fields_of m p) ≡ true
unfolding in_range ranges every fields_of rows_of columns_of
range-fields (of_area r c) p s o =
    rw (in_between 101 (100 + r) (101 + p.row) (omega arith) (omega (arith, o.in_rows)), in_between 1 c (1 + p.column) (omega arith) (omega (arith, o.in-columns)))
range-fields (of_scale z m k) p s o =
    rw (in_between 1 (k * k) (number_in k p) (omega arith) (number-few k s.0 p)) (range-fields m (parent_place k p) s.1 (on-parent z m k p s.0 o))
