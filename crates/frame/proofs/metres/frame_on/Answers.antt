-- Whole metres are added and halved without rounding. Assumes nothing.
use mathlib.Core.Path.{◌≡◌, ap, ◌∙◌}
use Rattle.frame.specs.Metres.{metres}
use Rattle.frame.proofs.HundredLaws.{middle-added, hundreds-kept}
use Rattle.frame.proofs.metres.frame_on.Goals as goal

pub returns : goal.returns
returns c =
    let h = c.requires in
    let west : c.metres-west.result ≡ metres c.args.ground.west = c.metres-west.ensures ∙ ap metres (hundreds-kept h.0) in
    let east : c.metres-east.result ≡ metres c.args.ground.east = c.metres-east.ensures ∙ ap metres (hundreds-kept h.1) in
    let south : c.metres-south.result ≡ metres c.args.ground.south = c.metres-south.ensures ∙ ap metres (hundreds-kept h.2) in
    let north : c.metres-north.result ≡ metres c.args.ground.north = c.metres-north.ensures ∙ ap metres (hundreds-kept h.3) in
    let across = middle-added h.0 h.1 west east in
    let along = middle-added h.2 h.3 south north in
    λ i. record {
      west = west i;
      east = east i;
      south = south i;
      north = north i;
      middle_e = across i;
      middle_n = along i;
    }
