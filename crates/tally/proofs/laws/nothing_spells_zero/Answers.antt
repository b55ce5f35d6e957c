use Rattle.tally.proofs.CopyLaws.{copies_zero}
use Rattle.tally.proofs.laws.nothing_spells_zero.Goals as goal

pub returns : goal.returns
returns c = copies_zero
