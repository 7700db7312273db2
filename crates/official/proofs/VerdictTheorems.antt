-- What the check answers: what the line reader refuses, 22, and past these one of the three verdicts, each exactly when. Assumes nothing.
use mathlib.Core.Path.{◌≡◌, refl, ap, ◌∙◌}
use mathlib.Core.Bool.{Bool, true, false, false≢true, cond, ◌&&◌}
use mathlib.Core.List.{List}
use mathlib.Core.Logic.{◌↔◌}
use Rattle.std.specs.Prelude.{Option, Some, None}
use Prim.Native.Nat.{ℕ, ◌<◌}
use native.Mathlib.Omega.{arith}
use borrow.Author.Tests.{eqb-true, eq-eqb, ne_eqb}
use Rattle.refusal.specs.Paper.{Paper, answer, refused, refuse◌unless◌, ◌>>◌, ◌>>=◌}
use Rattle.refusal.specs.Numbers.{carries}
use Rattle.refusal.proofs.PaperLaws as paper
use Rattle.refusal.proofs.PaperLaws.{passed, found, same_answer, same_number, same-value}
use Rattle.division.specs.Sheet.{scale_of}
use Rattle.division.proofs.TestLaws.{both}
use Rattle.names.specs.Name.{joined, SameName, is_same_name}
use Rattle.names.specs.Given.{Tells}
use Rattle.names.proofs.NameTheorems.{tells-true, tells-false, same-tested}
use Rattle.catalogue.specs.Line.{has_name, name_in, read_line}
use Rattle.official.specs.Lookup.{name_of, is250000}
use Rattle.official.specs.declared.verdict.Verdict.{Verdict}
use Rattle.official.specs.declared.verdict.Verdict.TheVariants as said
use Rattle.official.specs.Verdict.{agrees, differs, not_listed, verdict, check_at, check_line}
use Rattle.official.specs.Theorems.{row_at, line_of, Agrees, Differs, NotListed}
use Rattle.official.proofs.ListTheorems.{sound}
use Rattle.official.proofs.LookupTheorems.{listed-iff, named-scale}

-- ---- what the line reader refuses is refused so, and a sheet of another scale with 22

pub refused-as-read : (line : List ℕ) {number value : ℕ} → read_line line ≡ refused number value → check_line line ≡ refused number value
unfolding check_line
refused-as-read line e = rw e

pub other-scale : (line : List ℕ) (n : ℕ) → read_line line ≡ answer n → (scale_of n ≡ 1 → ⊥) → check_line line ≡ refused 22 0
unfolding check_line check_at
other-scale line n e s = rw (e, ne_eqb (scale_of n) 1 s)

-- so a refusal that carries a place is the line reader's, and with it the label's
pub place-repeated : (line : List ℕ) (number place : ℕ) → carries number ≡ true → (check_line line ≡ refused number place) ↔ (read_line line ≡ refused number place)
unfolding check_line check_at
place-repeated line number place c = (by (read_line line), refused-as-read line)
  where
    behind : (n : ℕ) (scale : Bool) → ((refuse 22 unless scale) >> answer (verdict (name_of n) line)) ≡ refused number place → ⊥
    behind n true e = paper.differs e
    behind n false e = false≢true (ap carries (same_number e) ∙ c)

    by : (p : Paper ℕ) → (p >>= check_at line) ≡ refused number place → p ≡ refused number place
    by (answer n) e = absurd (behind n (is250000 n) e)
    by (refused m v) e = rw (same_number e, same-value e)

-- and a line of a 1:250 000 sheet gets its verdict
gets-verdict : (line : List ℕ) (n : ℕ) → read_line line ≡ answer n → scale_of n ≡ 1 → check_line line ≡ answer (verdict (name_of n) line)
unfolding check_line check_at
gets-verdict line n e s = rw (e, eq-eqb (scale_of n) 1 s)

record Judged (line : List ℕ) (v : Verdict) : Type 0 where
  sheet : ℕ
  read : read_line line ≡ answer sheet
  scale : scale_of sheet ≡ 1
  is : verdict (name_of sheet) line ≡ v

judged : (line : List ℕ) (v : Verdict) → check_line line ≡ answer v → Judged line v
unfolding check_line check_at
judged line v e =
    let f = found (read_line line) (check_at line) e in
    let p = passed 22 (is250000 f.0) _ f.2 in
    record { sheet = f.0; read = f.1; scale = eqb-true (scale_of f.0) 1 p.0; is = same_answer p.1 }

-- ---- the three are different

abbrev number : Verdict → ℕ
number said.Agrees = 0
number said.Differs = 1
number said.NotListed = 2

agrees-true : (t : Bool) → cond t agrees differs ≡ agrees → t ≡ true
agrees-true true e = refl
agrees-true false e = absurd (omega (arith, ap number e))

differs_false : (t : Bool) → cond t agrees differs ≡ differs → t ≡ false
differs_false true e = absurd (omega (arith, ap number e))
differs_false false e = refl

never-not-listed : (t : Bool) → cond t agrees differs ≡ not_listed → ⊥
never-not-listed true e = omega (arith, ap number e)
never-not-listed false e = omega (arith, ap number e)

-- ---- each exactly when

module _ (line : List ℕ) where
  -- the line has this name
  abbrev has : List ℕ → Bool
  has name = has_name line && is_same_name (name_in line) name

  tells : (name : List ℕ) → Tells (has name) ((has_name line ≡ true) × SameName (name_in line) name)
  tells name = record {
    yes = λ e. let b = both (has_name line) (is_same_name (name_in line) name) e in (b.0, (same-tested (name_in line) name).yes b.1);
    no = λ e p. (same-tested (name_in line) name).no (rw p.0 at e) p.1;
  }

  -- a verdict that is not "not listed" is on a line of a listed sheet
  record Listed (v : Verdict) : Type 0 where
    sheet : ℕ
    read : read_line line ≡ answer sheet
    name : List ℕ
    listed : name_of sheet ≡ Some name
    is : cond (has name) agrees differs ≡ v

  is-listed : (v : Verdict) → (not_listed ≡ v → ⊥) → check_line line ≡ answer v → Listed v
  is-listed v other e = let j = judged line v e in by j (name_of j.sheet) refl j.is
    where
      by : (j : Judged line v) (o : Option (List ℕ)) → name_of j.sheet ≡ o → verdict o line ≡ v → Listed v
      by j None f g = absurd (other g)
      by j (Some name) f g = record { sheet = j.sheet; read = j.read; name = name; listed = f; is = g }

  listed-gets : {t : Bool} (sheet : ℕ) (name : List ℕ) → read_line line ≡ answer sheet → name_of sheet ≡ Some name → has name ≡ t → check_line line ≡ answer (cond t agrees differs)
  listed-gets sheet name e f g = gets-verdict line sheet e (named-scale sheet name f) ∙ rw (f, g)

  pub agrees-iff : (check_line line ≡ answer agrees) ↔ Agrees line
  agrees-iff = (so, λ a. listed-gets a.sheet a.name a.read a.listed (tells-true (tells a.name) (a.named, a.same)))
    where
      so : check_line line ≡ answer agrees → Agrees line
      so e =
          let l = is-listed agrees (λ f. omega (arith, ap number f)) e in
          let t = (tells l.name).yes (agrees-true (has l.name) l.is) in
          record { sheet = l.sheet; read = l.read; name = l.name; listed = l.listed; named = t.0; same = t.1 }

  pub differs-iff : (check_line line ≡ answer differs) ↔ Differs line
  differs-iff = (so, λ d. listed-gets d.sheet d.name d.read d.listed (tells-false (tells d.name) (λ p. d.other p.0 p.1)))
    where
      so : check_line line ≡ answer differs → Differs line
      so e =
          let l = is-listed differs (λ f. omega (arith, ap number f)) e in
          let t = differs_false (has l.name) l.is in
          record { sheet = l.sheet; read = l.read; name = l.name; listed = l.listed; other = λ n s. (tells l.name).no t (n, s) }

  pub not-listed-iff : (check_line line ≡ answer not_listed) ↔ NotListed line
  not-listed-iff = (λ e. let j = judged line not_listed e in by j (name_of j.sheet) refl j.is, λ n. gets-verdict line n.sheet n.read n.scale ∙ rw n.listed)
    where
      by : (j : Judged line not_listed) (o : Option (List ℕ)) → name_of j.sheet ≡ o → verdict o line ≡ not_listed → NotListed line
      by j None f g = record { sheet = j.sheet; read = j.read; scale = j.scale; listed = f }
      by j (Some name) f g = absurd (never-not-listed (has name) g)

-- ---- the list's own lines agree

pub official-agrees : (i : ℕ) → i < 15 → check_line (line_of (row_at i)) ≡ answer agrees
official-agrees i h =
    let s = sound i h in
    (agrees-iff (line_of (row_at i))).1 (record {
      sheet = s.sheet;
      read = s.line;
      name = (row_at i).name;
      listed = (listed-iff s.sheet (row_at i).name).1 (record { place = i; listed = h; label = s.reads; is = refl });
      named = s.named;
      same = ap joined s.name;
    })
