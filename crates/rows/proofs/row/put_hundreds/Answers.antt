-- Four digits, and two stores behind them. Assumes nothing.
use Rattle.refusal.proofs.WroteLaws.{then}
use Rattle.rows.proofs.PairLaws.{pair_put}
use borrow.Author.Rules.{rules}
use Rattle.rows.proofs.row.put_hundreds.Goals as goal

pub returns : goal.returns
returns c =
    let f = c.put_four-a in
    then f.ensures (pair_put f.new.out f.result 0 (search rules))
