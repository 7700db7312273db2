-- Every label that is written has 8 to 16 bytes, digits and hyphens. Assumes nothing.
use mathlib.Core.Path.{◌≡◌}
use mathlib.Core.Bool.{true}
use Prim.Native.Nat.{ℕ}
use native.Mathlib.Omega.{arith}
use lib.ListN.{length}
use Rattle.division.specs.Words.{between}
use Rattle.division.specs.Sheet.{is_sheet, scale_of, index_of}
use Rattle.division.proofs.TestLaws.{in_between}
use Rattle.label.specs.Text.{every, decimal}
use Rattle.label.specs.Label.{is_label_byte, mark_of, label_of}
use Rattle.label.specs.Given.{behind, index_fields}
use Rattle.label.proofs.LengthLaws.{label_is, label-low, label-high}
use Rattle.label.proofs.ByteLaws.{plain-append, decimal-plain, behind-plain}

module _ (n : ℕ) (h : is_sheet n ≡ true) where
  -- "8 to 16 bytes"
  pub labels-sized : between 8 16 (length (label_of n)) ≡ true
  labels-sized = in_between 8 16 (length (label_of n)) (label-low n h) (label-high n h)

  -- "Digits and hyphens"
  pub labels-plain : every is_label_byte (label_of n) ≡ true
  labels-plain =
      let mark = mark_of (scale_of n) in
      let fields = index_fields (scale_of n) (index_of n) in
      rw (label_is n) (plain-append (decimal mark) (behind fields) (decimal-plain mark) (behind-plain fields))

  -- so it passes the form's first test, "1 to 16 bytes"
  pub labels-short : between 1 16 (length (label_of n)) ≡ true
  labels-short = in_between 1 16 (length (label_of n)) (omega (arith, label-low n h)) (label-high n h)
