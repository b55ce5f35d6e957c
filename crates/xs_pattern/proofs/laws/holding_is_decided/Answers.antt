use Rattle.xs_pattern.proofs.Decided.{decide}
use Rattle.xs_pattern.proofs.laws.holding_is_decided.Goals as goal

pub returns : goal.returns
returns c = decide
