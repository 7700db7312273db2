-- Either the scale is made from the area, or the index is that of a part of its parent. The measure is the scale. Assumes nothing.
use Rattle.division.proofs.sheet.+place_in.Given as goal

abbrev pub decreases-place_in : goal.decreases-place_in
decreases-place_in l = l.s
