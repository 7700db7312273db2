-- A block of rows and columns: its length, what stands at each place of it, and how it is written in one pass. Assumes nothing.
use mathlib.Core.Path.{◌≡◌, refl, sym, ◌∙◌}
use mathlib.Core.List.{List, [], ◌∷◌, map, flat_map}
use Prim.Native.Nat.{ℕ, zero, suc, ◌+◌, ◌*◌, ◌/◌, ◌%◌, ◌<◌, ◌≤◌}
use native.Mathlib.Nat.{div-add-mod', mod-lt, suc-mul, zero-mul, le_of_suc-le-suc}
use native.Mathlib.Numerals.{add-one}
use native.Mathlib.Omega.{arith}
use lib.ListN.{length, get_or, drop, set, length-append, length-map, get_or-append, drop_of_length-le}
use lib.Seq.{get_or-append-add, drop-cons, sets}
use Rattle.division.specs.declared.cover.Span.{Span}
use Rattle.division.specs.Words.{from}
use Rattle.division.specs.Sheet.{sheet_of}
use Rattle.division.specs.Cover.{block}
use Rattle.division.specs.Given.{OnGrid, BlockRoom}
use Rattle.division.proofs.RangeLaws.{length_from, get_or-from}
use Rattle.division.proofs.MadeLaws.{quot}

abbrev pub sheet_in : ℕ → ℕ → ℕ → ℕ
sheet_in s r c = sheet_of s (record { row = r; column = c })

pub length-block : (s : ℕ) (rs cs : List ℕ) → length (block s rs cs) ≡ length rs * length cs
unfolding block flat_map
length-block s [] cs = sym (zero-mul (length cs))
length-block s (r ∷ rs) cs =
    length-append (map (sheet_in s r) cs) (block s rs cs) ∙ omega (arith, length-map cs (sheet_in s r), length-block s rs cs, suc-mul (length rs) (length cs))

at_row : (f : ℕ → ℕ) (cs : List ℕ) (j : ℕ) → j < length cs → get_or (map f cs) j 0 ≡ f (get_or cs j 0)
at_row f [] j h = absurd (omega arith)
at_row f (c ∷ cs) zero h = refl
at_row f (c ∷ cs) (suc j) h = at_row f cs j (le_of_suc-le-suc h)

at_block : (s : ℕ) (rs cs : List ℕ) (i j : ℕ) → i < length rs → j < length cs → get_or (block s rs cs) (i * length cs + j) 0 ≡ sheet_in s (get_or rs i 0) (get_or cs j 0)
unfolding block flat_map
at_block s [] cs i j h l = absurd (omega arith)
at_block s (r ∷ rs) cs zero j h l =
    let e : 0 * length cs + j ≡ j = omega (arith, zero-mul (length cs)) in
    let k : j < length (map (sheet_in s r) cs) = omega (arith, length-map cs (sheet_in s r)) in
    rw (e, get_or-append (map (sheet_in s r) cs) (block s rs cs) 0 j k) (at_row (sheet_in s r) cs j l)
at_block s (r ∷ rs) cs (suc i) j h l =
    let e : suc i * length cs + j ≡ length (map (sheet_in s r) cs) + (i * length cs + j) = omega (arith, length-map cs (sheet_in s r), suc-mul i (length cs)) in
    rw (e, get_or-append-add (map (sheet_in s r) cs) (block s rs cs) (i * length cs + j) 0) (at_block s rs cs i j (le_of_suc-le-suc h) l)

-- ---- a block of two spans

abbrev pub block_of : ℕ → Span → Span → List ℕ
block_of s down across = block s (from down.first down.count) (from across.first across.count)

pub length-spans : (s : ℕ) (down across : Span) → length (block_of s down across) ≡ down.count * across.count
length-spans s down across =
    length-block s (from down.first down.count) (from across.first across.count) ∙ rw (length_from down.first down.count, length_from across.first across.count)

module _ {s room : ℕ} {down across : Span} (f : BlockRoom s down across room) where
  -- place i of the block: row i / n, column i % n of n columns
  module _ (i : ℕ) (h : i < down.count * across.count) where
    pub some : 0 < across.count
    some = right down.count across.count h
      where
        right : (m n : ℕ) → i < m * n → 0 < n
        right m zero h = absurd (omega arith)
        right m (suc n) h = omega arith

    in_row : i / across.count < down.count
    in_row = quot some h

    in-column : i % across.count < across.count
    in-column = mod-lt i some

    pub placed : OnGrid s (record { row = down.first + i / across.count; column = across.first + i % across.count })
    placed = record { scale = f.scale; in_rows = omega (arith, in_row, f.in_rows); in-columns = omega (arith, in-column, f.in-columns) }

    pub at-index : get_or (block_of s down across) i 0 ≡ sheet_in s (down.first + i / across.count) (across.first + i % across.count)
    at-index =
        let m = length_from down.first down.count in
        let n = length_from across.first across.count in
        let e = at_block s (from down.first down.count) (from across.first across.count) (i / across.count) (i % across.count) (omega (arith, in_row)) (omega (arith, in-column)) in
        rw (n, div-add-mod' i across.count, get_or-from down.first down.count (i / across.count) in_row, get_or-from across.first across.count (i % across.count) in-column) at e

    -- one turn of writing
    pub turn : (old : List ℕ) (x : ℕ) → x ≡ sheet_in s (down.first + i / across.count) (across.first + i % across.count) → sets old i (drop i (block_of s down across)) ≡ sets (set old i x) (i + 1) (drop (i + 1) (block_of s down across))
    turn old x e =
        let l : i < length (block_of s down across) = omega (arith, length-spans s down across) in
        rw (drop-cons (block_of s down across) i 0 l, at-index, ← e, add-one i)

  pub done : (i : ℕ) (old : List ℕ) → down.count * across.count ≤ i → sets old i (drop i (block_of s down across)) ≡ old
  done i old h =
      let l : length (block_of s down across) ≤ i = omega (arith, length-spans s down across) in
      rw (drop_of_length-le (block_of s down across) l)
