-- All bytes pass the test of a name's bytes. Assumes nothing.
use Rattle.std.proofs.Common.{◌∙◌, rules}
use Rattle.std.proofs.lemmas.Iterator.{YieldsList-from_slice}
use Rattle.std.proofs.lemmas.Iterator.Search.{all_from_yields_List}
use borrow.Author.Tests.{tests}
use Rattle.catalogue.specs.Line.{is_name_byte}
use Rattle.catalogue.proofs.LineLaws.{every-all}
use Rattle.catalogue.proofs.line.all_name_bytes.Goals as goal

pub returns : goal.returns
returns c =
    let name = c.args.name.now in
    all_from_yields_List is_name_byte _ _ _ c.all.ensures.ran (YieldsList-from_slice name cc) (λ x b q k. search (rules, tests)) ∙ every-all is_name_byte name
