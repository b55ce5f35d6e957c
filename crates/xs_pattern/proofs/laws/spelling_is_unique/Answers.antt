use Rattle.xs_pattern.proofs.Answered.{one_under}
use Rattle.xs_pattern.proofs.laws.spelling_is_unique.Goals as goal

pub returns : goal.returns
returns c = one_under
