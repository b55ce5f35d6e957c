use Rattle.bag_match.proofs.Hopeful.{hopeless_some}
use Rattle.bag_match.proofs.hopes.is_hopeless.Goals as goal

pub returns-in-Some : goal.returns-in-Some
returns-in-Some c = hopeless_some c.args.shape.now.body _ c.args.counts.now c.args.more.now c.spell_never_more.result c.in-Some.is c.spell_never_more.ensures
