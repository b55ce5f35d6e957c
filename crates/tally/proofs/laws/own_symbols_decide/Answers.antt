use Rattle.tally.proofs.CopyLaws.{copies_agree}
use Rattle.tally.proofs.laws.own_symbols_decide.Goals as goal

pub returns : goal.returns
returns c = copies_agree
