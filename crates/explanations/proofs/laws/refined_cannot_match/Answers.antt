use Rattle.explanations.proofs.Lawful.{refined_none}
use Rattle.explanations.proofs.laws.refined_cannot_match.Goals as goal

pub returns : goal.returns
returns c = refined_none c.reasons_are_whole.ensures.removed
