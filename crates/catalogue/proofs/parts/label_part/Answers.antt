-- The label's part begins at the line's start. Assumes nothing.
use Rattle.std.proofs.Common.{◌≡◌, refl, ap, ◌-◌, length-take, arith}
use Rattle.catalogue.specs.Parts.{Part, label_part}
use Rattle.catalogue.proofs.PartLaws.{label-lies, label-first}
use Rattle.catalogue.proofs.parts.label_part.Goals as goal

pub slice_bounds-result-end : goal.slice_bounds-result-end
slice_bounds-result-end c =
    let line = c.args.line.now in
    rw c.spans_of.ensures (omega (arith, (label-lies line).inside, length-take (label_part line).end line))

pub returns : goal.returns
returns c =
    let line = c.args.line.now in
    let e = ap (λ (p : Part). p.start) (label-first line) in
    let n : (label_part line).end - 0 ≡ (label_part line).end = omega arith in
    rw c.spans_of.ensures (record { bytes = rw (e, n); block = refl; place = omega (arith, e) })
