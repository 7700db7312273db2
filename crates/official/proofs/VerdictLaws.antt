-- A line without a name differs, and one with a name is judged by it. Assumes nothing.
use mathlib.Core.Path.{◌≡◌}
use mathlib.Core.Bool.{Bool, true, cond}
use mathlib.Core.List.{List}
use Rattle.std.specs.Prelude.{Some, None}
use Prim.Native.Nat.{ℕ, ◌<◌}
use native.Mathlib.Omega.{arith}
use borrow.Author.Tests.{lt-ltb, le-ltb}
use lib.ListN.{length}
use Rattle.refusal.specs.Paper.{answer}
use Rattle.names.specs.Name.{SameName, is_same_name}
use Rattle.names.specs.Given.{Tells}
use Rattle.names.proofs.NameTheorems.{one-saying, same-tested}
use Rattle.catalogue.specs.Line.{label_in, name_in}
use Rattle.official.specs.Lookup.{name_of, is250000}
use Rattle.official.specs.Verdict.{agrees, differs, not_listed, check_at}

module _ (line : List ℕ) (n : ℕ) (scale : is250000 n ≡ true) where
  pub nothing-listed : name_of n ≡ None → answer not_listed ≡ check_at line n
  unfolding check_at
  nothing-listed e = rw (scale, e)

  module _ {name : List ℕ} (listed : name_of n ≡ Some name) where
    pub bare-differs : length (label_in line) ≡ length line → answer differs ≡ check_at line n
    unfolding check_at
    bare-differs e = rw (scale, listed, le-ltb (length (label_in line)) (length line) (omega arith))

    pub named-judged : {same : Bool} → length (label_in line) < length line → Tells same (SameName (name_in line) name) → answer (cond same agrees differs) ≡ check_at line n
    unfolding check_at
    named-judged {same} h t =
        rw (scale, listed, lt-ltb (length (label_in line)) (length line) h, one-saying (is_same_name (name_in line) name) same (same-tested (name_in line) name) t)
