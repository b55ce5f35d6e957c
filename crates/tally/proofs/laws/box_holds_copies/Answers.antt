use Rattle.tally.proofs.Exact.{copies_under}
use Rattle.tally.proofs.laws.box_holds_copies.Goals as goal

pub returns : goal.returns
returns c = copies_under
