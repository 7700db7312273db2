-- What the line reader's loops and ways out use: bytes that all pass a test, and a line with and without a name. Assumes nothing.
use mathlib.Core.Path.{◌≡◌, refl, sym, ap, ◌∙◌}
use mathlib.Core.Bool.{Bool, true, false, ◌&&◌}
use Rattle.std.specs.List.{list_all}
use mathlib.Core.List.{List, [], ◌∷◌}
use mathlib.Core.Logic.{⊎_elim}
use Prim.Native.Nat.{ℕ, ◌+◌, ◌-◌, ◌≤◌, ◌<◌, min}
use native.Mathlib.Omega.{arith}
use borrow.Author.Tests.{lt-ltb, le-ltb}
use lib.ListN.{length, take, drop, length-take, length-drop}
use lib.Seq.{take_all}
use Rattle.refusal.specs.declared.Refusal.{Refusal}
use Rattle.refusal.specs.declared.Refusal.TheVariants.{LabelLength}
use Rattle.refusal.specs.Numbers.{on_paper}
use Rattle.refusal.proofs.PaperLaws.{asked-on}
use Rattle.refusal.specs.Paper.{Paper, answer, refused, is_answer, ◌>>=◌}
use Rattle.division.proofs.TestLaws.{le-or-less}
use Rattle.label.specs.Text.{every}
use Rattle.label.specs.Label.{read_label}
use Rattle.label.proofs.PieceLaws.{take-piece, piece-within, piece-take}
use Rattle.label.proofs.FormLaws.{long-form}
use Rattle.label.proofs.NamedLaws.{read-unformed}
use Rattle.catalogue.specs.Line.{label_in, name_in, with_name, read_line}

-- ---- the label is a beginning of the line, and the name its end

pub label-taken : (line : List ℕ) → take (length (label_in line)) line ≡ label_in line
unfolding label_in
label-taken line = take-piece 32 line

pub label-within : (line : List ℕ) → length (label_in line) ≤ length line
unfolding label_in
label-within line = piece-within 32 line

pub label-cut : (n : ℕ) (line : List ℕ) → label_in (take n line) ≡ take n (label_in line)
unfolding label_in
label-cut n line = piece-take 32 n line

pub name-taken : (line : List ℕ) → take (length line - (length (label_in line) + 1)) (name_in line) ≡ name_in line
name-taken line =
    take_all (length line - (length (label_in line) + 1)) (name_in line) (omega (arith, length-drop (length (label_in line) + 1) line))

-- ---- a label of more than 16 bytes is refused, and so is its line

long-formed : (label : List ℕ) → 16 < length label → read_label label ≡ refused 4 16
long-formed label h = read-unformed label (LabelLength 16) (long-form label h)

pub long-label : (line : List ℕ) → 16 < length (label_in line) → read_line line ≡ refused 4 16
unfolding read_line
long-label line h = rw (long-formed (label_in line) h)

pub short-label : (line : List ℕ) → is_answer (read_line line) ≡ true → length (label_in line) ≤ 16
short-label line e = ⊎_elim (λ h. h) (λ h. absurd (no_answer h)) (le-or-less (length (label_in line)) 16)
  where
    no_answer : 16 < length (label_in line) → ⊥
    no_answer h = let z : false ≡ true = rw (long-label line h) at e in let o : ◌≡◌ {A = ℕ} 0 1 = cc in omega arith

-- ---- a line is read by what stands before its first space among the first 17 bytes, and what stands behind that

abbrev pub end_of : List ℕ → ℕ
end_of line = min 17 (length (label_in line))

pub end-within : (line : List ℕ) → end_of line ≤ length line
end-within line = omega (arith, label-within line)

-- where that is all of the line, the line is its label
pub read-bare : (line : List ℕ) → end_of line ≡ length line → read_label (take (end_of line) line) ≡ read_line line
unfolding read_line
read-bare line e =
    let f : length (label_in line) ≡ length line = omega (arith, label-within line) in
    let g : label_in line ≡ line = sym (label-taken line) ∙ rw f (take_all (length line) line (omega arith)) in
    rw (e, take_all (length line) line (omega arith), le-ltb (length (label_in line)) (length line) (omega arith), g) (by (read_label line))
  where
    by : (p : Paper ℕ) → p ≡ (p >>= λ n. answer n)
    by (answer n) = refl
    by (refused n v) = refl

-- and where it is not, what follows the space is the name
pub read_named : (line : List ℕ) → end_of line < length line → (read_label (take (end_of line) line) >>= with_name (take (length line - (end_of line + 1)) (drop (end_of line + 1) line))) ≡ read_line line
unfolding read_line
read_named line h = ⊎_elim short long (le-or-less (length (label_in line)) 16)
  where
    short : length (label_in line) ≤ 16 → (read_label (take (end_of line) line) >>= with_name (take (length line - (end_of line + 1)) (drop (end_of line + 1) line))) ≡ read_line line
    short l =
        let e : end_of line ≡ length (label_in line) = omega arith in
        rw (e, label-taken line, name-taken line, lt-ltb (length (label_in line)) (length line) (omega arith))

    long : 16 < length (label_in line) → (read_label (take (end_of line) line) >>= with_name (take (length line - (end_of line + 1)) (drop (end_of line + 1) line))) ≡ read_line line
    long l =
        let e : end_of line ≡ 17 = omega arith in
        let f : length (take 17 line) ≡ 17 = length-take 17 line ∙ omega (arith, label-within line) in
        rw (e, long-formed (take 17 line) (omega (arith, f)), long-label line l)

-- a label that is refused is its line's refusal
pub read-refused : (line : List ℕ) (why : Refusal) → on_paper why ≡ read_label (take (end_of line) line) → on_paper why ≡ read_line line
read-refused line why e =
    ⊎_elim (λ l. e ∙ read-bare line (omega (arith, end-within line))) (λ h. asked-on why _ e ∙ read_named line h) (le-or-less (length line) (end_of line))

-- ---- bytes that all pass a test

pub every-all : (test : ℕ → Bool) (s : List ℕ) → list_all test s ≡ every test s
unfolding every
every-all test [] = refl
every-all test (b ∷ s) = ap (λ (t : Bool). test b && t) (every-all test s)
