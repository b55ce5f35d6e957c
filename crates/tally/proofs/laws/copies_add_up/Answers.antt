use Rattle.tally.proofs.CopyLaws.{copies_add}
use Rattle.tally.proofs.laws.copies_add_up.Goals as goal

pub returns : goal.returns
returns c = copies_add
