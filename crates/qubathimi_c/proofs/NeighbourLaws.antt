-- Nine places, three by three. Assumes nothing.
use mathlib.Core.Path.{◌≡◌}
use mathlib.Core.List.{List, [], ◌∷◌, map, flat_map}
use Prim.Native.Nat.{ℕ, suc, ◌+◌, ◌<◌, ◌≤◌}
use native.Mathlib.Omega.{arith}
use borrow.Author.Tests.{le-leb, lt-leb}
use lib.ListN.{length, get_or, set}
use lib.Seq.{sets, sets-eq}
use Rattle.refusal.specs.Paper.{answer, refused, room_after}
use Rattle.std.specs.Prelude.{Option}
use Rattle.relations.specs.Relations.{neighbours}
use Rattle.telling.specs.Plain.{mark}
use Rattle.qubathimi_c.specs.Plain.{marks, neighbours_in}

-- three places, one behind the other
pub in_row : (room : List ℕ) (at a b c : ℕ) → set (set (set room at a) (at + 1) b) (at + 2) c ≡ sets room at (a ∷ b ∷ c ∷ [])
in_row room at a b c =
    let e : at + 1 ≡ suc at = omega arith in
    let f : at + 2 ≡ suc (suc at) = omega arith in
    rw (e, f)

pub too_short : (sheet room : ℕ) → room < 9 → neighbours_in sheet room ≡ refused 10 9
unfolding neighbours_in neighbours flat_map
too_short sheet room h = rw (lt-leb 9 room h)

pub fits : (sheet room : ℕ) → 9 ≤ room → neighbours_in sheet room ≡ answer (flat_map (map mark) (neighbours sheet))
unfolding neighbours_in neighbours flat_map
fits sheet room h = rw (le-leb 9 room h)

pub placed : (sheet : ℕ) (room : List ℕ) → 9 ≤ length room → {block : List (List (Option ℕ))} → block ≡ neighbours sheet → sets (sets (sets room 0 (marks (get_or block 0 []))) 3 (marks (get_or block 1 []))) 6 (marks (get_or block 2 [])) ≡ room_after (neighbours_in sheet (length room)) room
unfolding neighbours flat_map
placed sheet room h e = rw (fits sheet (length room) h, e) (sets-eq (flat_map (map mark) (neighbours sheet)) room 0 h)
