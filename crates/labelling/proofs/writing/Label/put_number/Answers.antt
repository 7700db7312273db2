-- Three digits, of which those that are needed stay. Assumes nothing.
use Rattle.std.proofs.Common.{◌≡◌, sym, ap, ◌∙◌, ◌+◌, ◌<◌, length, arith}
use mir.Val.{bool_byte}
use lib.Seq.{length-take-le}
use Rattle.division.specs.Words.{◌≤?◌}
use Rattle.label.specs.Text.{decimal}
use Rattle.label.specs.Given.{Small}
use Rattle.labelling.proofs.WritingLaws.{last-in, digits-view}
use Rattle.labelling.proofs.writing.Label.put_number.Goals as goal

pub bounds-self-inside-self-inside : goal.bounds-self-inside-self-inside
bounds-self-inside-self-inside c =
    let l : length c.args.self.now ≡ c.self.inside.len = ap length (sym c.self.view_is) ∙ length-take-le c.self.inside.len c.self.inside.bytes (omega (arith, c.self.invariant, c.self.told)) in
    let x : Small 1_000 c.args.v (length (decimal c.args.v)) c.self.inside.len (length c.self.inside.bytes) = record { few = c.requires.few; fits = omega (arith, l, c.requires.fits, c.self.told) } in
    let inside : c.self.inside.len + bool_byte (100 ≤? c.args.v) + bool_byte (10 ≤? c.args.v) < length c.self.inside.bytes = last-in c.self.inside.bytes c.self.inside.len c.args.v x in
    omega (arith, inside, c.from.ensures, c.from-2.ensures, c.self.told)

pub bounds-self-inside-a : goal.bounds-self-inside-a
bounds-self-inside-a c =
    let l : length c.args.self.now ≡ c.self.inside.len = ap length (sym c.self.view_is) ∙ length-take-le c.self.inside.len c.self.inside.bytes (omega (arith, c.self.invariant, c.self.told)) in
    let x : Small 1_000 c.args.v (length (decimal c.args.v)) c.self.inside.len (length c.self.inside.bytes) = record { few = c.requires.few; fits = omega (arith, l, c.requires.fits, c.self.told) } in
    let inside : c.self.inside.len + bool_byte (100 ≤? c.args.v) + bool_byte (10 ≤? c.args.v) < length c.self.inside.bytes = last-in c.self.inside.bytes c.self.inside.len c.args.v x in
    omega (arith, inside, c.from.ensures, c.from-2.ensures, c.self.told)

pub bounds-self-inside-b : goal.bounds-self-inside-b
bounds-self-inside-b c =
    let l : length c.args.self.now ≡ c.self.inside.len = ap length (sym c.self.view_is) ∙ length-take-le c.self.inside.len c.self.inside.bytes (omega (arith, c.self.invariant, c.self.told)) in
    let x : Small 1_000 c.args.v (length (decimal c.args.v)) c.self.inside.len (length c.self.inside.bytes) = record { few = c.requires.few; fits = omega (arith, l, c.requires.fits, c.self.told) } in
    let inside : c.self.inside.len + bool_byte (100 ≤? c.args.v) + bool_byte (10 ≤? c.args.v) < length c.self.inside.bytes = last-in c.self.inside.bytes c.self.inside.len c.args.v x in
    omega (arith, inside, c.from.ensures, c.from-2.ensures, c.self.told)

pub invariant_of-self : goal.invariant_of-self
invariant_of-self c =
    let l : length c.args.self.now ≡ c.self.inside.len = ap length (sym c.self.view_is) ∙ length-take-le c.self.inside.len c.self.inside.bytes (omega (arith, c.self.invariant, c.self.told)) in
    let x : Small 1_000 c.args.v (length (decimal c.args.v)) c.self.inside.len (length c.self.inside.bytes) = record { few = c.requires.few; fits = omega (arith, l, c.requires.fits, c.self.told) } in
    let inside : c.self.inside.len + bool_byte (100 ≤? c.args.v) + bool_byte (10 ≤? c.args.v) < length c.self.inside.bytes = last-in c.self.inside.bytes c.self.inside.len c.args.v x in
    omega (arith, inside, c.from.ensures, c.from-2.ensures, c.self.told)

pub returns : goal.returns
returns c =
    let l : length c.args.self.now ≡ c.self.inside.len = ap length (sym c.self.view_is) ∙ length-take-le c.self.inside.len c.self.inside.bytes (omega (arith, c.self.invariant, c.self.told)) in
    let x : Small 1_000 c.args.v (length (decimal c.args.v)) c.self.inside.len (length c.self.inside.bytes) = record { few = c.requires.few; fits = omega (arith, l, c.requires.fits, c.self.told) } in
    let inside : c.self.inside.len + bool_byte (100 ≤? c.args.v) + bool_byte (10 ≤? c.args.v) < length c.self.inside.bytes = last-in c.self.inside.bytes c.self.inside.len c.args.v x in
    rw (c.from.ensures, c.from-2.ensures, ← c.self.view_is) (digits-view c.self.inside.bytes c.self.inside.len c.args.v x)
