-- A number of another scale, or of none, stands nowhere, and a sheet of the scale where its place tells. Assumes nothing.
use mathlib.Core.Path.{◌≡◌}
use mathlib.Core.Bool.{true, false}
use Rattle.division.specs.Words.{between}
use Rattle.delivery.proofs.PlaceLaws.{length-is, indexed-so, stands-outside, stands-told}
use Rattle.delivery.proofs.cover.Cover.place_of.Goals as goal

pub returns-then-not-self-sheet : goal.returns-then-not-self-sheet
returns-then-not-self-sheet c =
    let s = c.args.self in
    let out : between s.first s.last c.args.sheet ≡ false = c.if-not-self-sheet.true in
    rw (length-is s.in_grid) (stands-outside s.in_grid c.args.sheet (rw (s.first_is, s.last_is) at out))

pub place_at-requires : goal.place_at-requires
place_at-requires c =
    let s = c.args.self in
    let inside : between s.first s.last c.args.sheet ≡ true = c.if-not-self-sheet.false in
    rw s.first_is (indexed-so s.in_grid c.args.sheet (rw (s.first_is, s.last_is) at inside))

pub returns : goal.returns
returns c =
    let s = c.args.self in
    let inside : between s.first s.last c.args.sheet ≡ true = c.if-not-self-sheet.false in
    stands-told s.in_grid c.args.sheet (rw (s.first_is, s.last_is) at inside) c.place_at.result (rw s.first_is at c.place_at.ensures) c.place_in.ensures
