-- The label is what stands before the first space, and it is too long or has a fault of its own. Assumes nothing.
use mathlib.Core.Path.{◌≡◌, sym, ap, ◌∙◌}
use native.Mathlib.Omega.{arith}
use lib.ListN.{take, length-take}
use Rattle.label.specs.Label.{formed}
use Rattle.label.proofs.PieceLaws.{piece, take-piece, piece-within}
use Rattle.label.proofs.FormLaws.{long-form}
use Rattle.reading.proofs.at_front.front_fault.Goals as goal

pub returns-then-end-gt16 : goal.returns-then-end-gt16
returns-then-end-gt16 c =
    let l = c.args.front.now in
    sym (long-form (piece 32 l) (omega (arith, c.if-end-gt16.true, c.piece_end-end.ensures)))

pub slice_bounds-form_fault-end : goal.slice_bounds-form_fault-end
slice_bounds-form_fault-end c =
    let l = c.args.front.now in
    omega (arith, c.piece_end-end.ensures, piece-within 32 l, length-take c.piece_end-end.result l)

pub form_fault-requires : goal.form_fault-requires
form_fault-requires c =
    let label : let l = c.args.front.now in take c.piece_end-end.result l ≡ piece 32 l = let l = c.args.front.now in rw c.piece_end-end.ensures (take-piece 32 l) in
    rw label (record { bytes_len_bound = omega (arith, c.if-end-gt16.false, c.piece_end-end.ensures); bytes_value = c.requires })

pub returns : goal.returns
returns c =
    let label : let l = c.args.front.now in take c.piece_end-end.result l ≡ piece 32 l = let l = c.args.front.now in rw c.piece_end-end.ensures (take-piece 32 l) in
    c.form_fault.ensures ∙ ap formed label
