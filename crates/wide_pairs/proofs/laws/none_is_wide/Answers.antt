use Rattle.wide_pairs.proofs.Narrow.{none_wide}
use Rattle.wide_pairs.proofs.laws.none_is_wide.Goals as goal

pub returns : goal.returns
returns c = none_wide c.width_is_one.ensures.one
