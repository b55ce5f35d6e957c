use Rattle.idle_selectors.proofs.Found.{some_there}
use Rattle.idle_selectors.proofs.finding.holds_some.Goals as goal

pub returns : goal.returns
returns c = some_there c.args.triples.now c.is_empty.result c.is_empty.ensures
