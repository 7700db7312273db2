-- The words of a row, each behind a space; a sheet's number has at most seven digits. Assumes nothing.
use mathlib.Core.Path.{◌≡◌, refl, ap}
use mathlib.Core.Bool.{true, false}
use mathlib.Core.List.{List, [], ◌∷◌, ◌++◌, flat_map, append_assoc, append-nil}
use Prim.Native.Nat.{ℕ, ◌<◌}
use native.Mathlib.Omega.{arith}
use borrow.Author.Tests.{leb-true}
use Rattle.refusal.specs.Paper.{refused}
use Rattle.refusal.specs.Numbers.{carries}
use Rattle.refusal.specs.Given.{Wrote}
use Rattle.division.specs.declared.Edges.{Edges}
use Rattle.division.specs.Sheet.{is_sheet}
use Rattle.label.specs.Text.{text, join, decimal}
use Rattle.catalogue.specs.Line.{read_line}
use Rattle.rows.specs.Row.{metres, frame_words, words, output_line}
use Rattle.rows.specs.Given.{spaced}

-- ---- words behind spaces

pub frame-words : (e : Edges) → spaced (frame_words e) ≡ (32 ∷ metres e.west) ++ ((32 ∷ metres e.east) ++ ((32 ∷ metres e.south) ++ (32 ∷ metres e.north)))
unfolding flat_map
frame-words e = ap (λ (l : List ℕ). (32 ∷ metres e.west) ++ ((32 ∷ metres e.east) ++ ((32 ∷ metres e.south) ++ l))) (append-nil (32 ∷ metres e.north))

pub ground-words : (n : ℕ) (e : Edges) → spaced (decimal n ∷ frame_words e) ≡ (32 ∷ []) ++ (decimal n ++ spaced (frame_words e))
unfolding flat_map
ground-words n e = refl

-- a refusal, by whether it carries a value
pub bare-words : (number value : ℕ) → carries number ≡ false → spaced (words (refused number value)) ≡ (32 ∷ text "refused") ++ (32 ∷ decimal number)
unfolding flat_map
bare-words number value e = rw e (ap (λ (l : List ℕ). (32 ∷ text "refused") ++ l) (append-nil (32 ∷ decimal number)))

pub carried-words : (number value : ℕ) → carries number ≡ true → spaced (words (refused number value)) ≡ (32 ∷ text "refused") ++ ((32 ∷ decimal number) ++ (32 ∷ decimal value))
unfolding flat_map
carried-words number value e = rw e (ap (λ (l : List ℕ). (32 ∷ text "refused") ++ ((32 ∷ decimal number) ++ l)) (append-nil (32 ∷ decimal value)))

row_is : (number : ℕ) (line : List ℕ) → output_line number line ≡ decimal number ++ (spaced (words (read_line line)) ++ (10 ∷ []))
unfolding output_line join
row_is number line = append_assoc (decimal number) (spaced (words (read_line line))) (10 ∷ [])

pub row_wrote : (number : ℕ) (line : List ℕ) {d e : List ℕ} {r : ℕ} → Wrote d 0 e r (decimal number ++ (spaced (words (read_line line)) ++ (10 ∷ []))) → Wrote d 0 e r (output_line number line)
row_wrote number line w = rw (row_is number line) w

-- ---- a sheet

pub sheet-few : (n : ℕ) → is_sheet n ≡ true → n < 10_000_000
sheet-few n h = let l = leb-true n 7_953_173 h in omega arith
