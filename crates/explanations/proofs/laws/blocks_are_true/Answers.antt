use Rattle.explanations.proofs.Lawful.{all_denied}
use Rattle.explanations.proofs.laws.blocks_are_true.Goals as goal

pub returns : goal.returns
returns c = all_denied c.sure_is_true.ensures.sure
