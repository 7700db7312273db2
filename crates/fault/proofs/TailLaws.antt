-- The piece that bytes have from a place on, as the code lends them: all that are left. Assumes nothing.
use Rattle.std.proofs.Common.{◌≡◌, ap, ◌∙◌, ℕ, ◌+◌, ◌-◌, ◌≤◌, List, length, take, drop, length-drop, arith}
use lib.Seq.{take_all}
use Rattle.label.proofs.PieceLaws.{piece, piece-within}

module _ (m : ℕ) (s : List ℕ) (i : ℕ) {end : ℕ} (e : end ≡ length (piece m (take (length s - i) (drop i s)))) where
  pub tail-end : end ≡ length (piece m (drop i s))
  tail-end = e ∙ ap (λ (l : List ℕ). length (piece m l)) (take_all (length s - i) (drop i s) (omega (arith, length-drop i s)))

  pub tail-within : i ≤ length s → i + end ≤ length s
  tail-within h = omega (arith, tail-end, piece-within m (drop i s), length-drop i s)
