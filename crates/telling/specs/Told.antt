-- What a caller in C is told: a status, and numbers behind pointers. Document 01, "Numbers of refusal".
use Rattle.std.specs.Prelude.{ℕ}
use Rattle.refusal.specs.Paper.{Paper, answer, refused}

-- 0 where there is an answer, and otherwise the number of the refusal
abbrev pub status : {A : Type 0} → Paper A → ℕ
status (answer a) = 0
status (refused number value) = number

-- the answer, told as a number, or "the value that it carries"
abbrev pub told_as : {A : Type 0} → (A → ℕ) → Paper A → ℕ
told_as number (answer a) = number a
told_as number (refused n value) = value

abbrev pub carried : Paper ℕ → ℕ
carried = told_as (λ n. n)

-- a number of the answer; "A refusal writes nothing"
abbrev pub written : {A B : Type 0} → (A → B) → Paper A → B → B
written part (answer a) before = part a
written part (refused number value) before = before
