-- Its parent is of scale 3, which is made from the area. Assumes nothing.
use Rattle.std.proofs.Common.{refl, rules}
use Rattle.division.specs.Table.{table, table_row}
use Rattle.reckoning.proofs.ReckonLaws.{a-field, fields-above, reckon-above, from-three}
use Rattle.reckoning.proofs.ground.by_third.Goals as goal

pub slice_bounds-by_area-count : goal.slice_bounds-by_area-count
slice_bounds-by_area-count g c = a-field c.requires.fields (from-three g.row.S c.requires.of_third)

pub slice_bounds-by_area-start : goal.slice_bounds-by_area-start
slice_bounds-by_area-start g c = let l = a-field c.requires.fields (from-three g.row.S c.requires.of_third) in search rules

pub by_area-requires : goal.by_area-requires
unfolding table table_row
by_area-requires g c =
    record { fields = fields-above c.requires.fields (from-three g.row.S c.requires.of_third) c.requires.of_third; of_area = refl }

pub by_part-requires : goal.by_part-requires
by_part-requires g c =
    let made = from-three g.row.S c.requires.of_third in
    record { fields = c.requires.fields; of_scale = made; above_value = reckon-above c.requires.fields made c.requires.of_third c.by_area.ensures }
