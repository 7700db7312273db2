-- What is told of an answer is told of the definition that it meets. Assumes nothing.
use mathlib.Core.Path.{◌≡◌, refl, ap, ◌∙◌}
use Prim.Native.Nat.{ℕ}
use Rattle.refusal.specs.declared.Refusal.{Refusal}
use Rattle.refusal.specs.Paper.{Paper, answer, refused, ◌>>=◌}
use Rattle.refusal.specs.Numbers.{on_paper, paper}
use Rattle.refusal.proofs.PaperLaws.{on-paper}
use Rattle.shelf.specs.declared.Read.{Read}
use Rattle.shelf.specs.Reading.{Reading, IsRead}
use Rattle.telling.specs.Plain.{counting, read_count}
use Rattle.telling.specs.Told.{status, carried, told_as}

-- a status, and an answer that is told as a number
pub told-by : {A : Type 0} (number : Paper A → Paper ℕ) {p q : Paper A} {r v : ℕ} → p ≡ q → (r ≡ status p) × (v ≡ carried (number p)) → (r ≡ status q) × (v ≡ carried (number q))
told-by {A} number e t = (t.0 ∙ ap status e, t.1 ∙ ap (λ (p : Paper A). carried (number p)) e)

-- or is one
pub told : {p q : Paper ℕ} {r v : ℕ} → p ≡ q → (r ≡ status p) × (v ≡ carried p) → (r ≡ status q) × (v ≡ carried q)
told e t = told-by (λ p. p) e t

-- so it is told alike where the answer would be a number for something else
pub told-refused : {A : Type 0} (next : A → Paper ℕ) (why : Refusal) {r v : ℕ} → (r ≡ status (on_paper {A = ℕ} why)) × (v ≡ carried (on_paper why)) → (r ≡ status (on_paper {A = A} why)) × (v ≡ carried (on_paper why >>= next))
told-refused {A} next why t = rw ((on-paper why).is A) (rw ((on-paper why).is ℕ) at t)

-- how a reading ended, and its count
pub told-read : (reading : Reading) {read : Read} {r v : ℕ} → IsRead reading read → (r ≡ status (paper read.ended)) × (v ≡ carried (counting (paper read.ended) read.placed)) → (r ≡ status reading.ended) × (v ≡ carried (read_count reading))
told-read reading i t = (t.0 ∙ ap status i.ended, t.1 ∙ rw (i.ended, i.placed))

-- what is told as a number is carried by the answer as that number
pub told_through : {A : Type 0} (number : A → ℕ) (p : Paper A) → told_as number p ≡ carried (p >>= λ a. answer (number a))
told_through number (answer a) = refl
told_through number (refused n v) = refl
