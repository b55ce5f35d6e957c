use Rattle.std.proofs.Common.{refl}
use Rattle.lists.proofs.Tests.{neither}
use Rattle.idle_selectors.specs.Idle.{HasMatch}
use Rattle.idle_selectors.proofs.Found.{no_predicate}
use Rattle.idle_selectors.proofs.finding.has_match.Goals as goal

pub returns-in-None : goal.returns-in-None
returns-in-None c =
    neither (HasMatch c.args.terms.now c.args.graph.now.triples c.args.pattern.now) (no_predicate c.args.terms.now c.args.graph.now.triples c.args.pattern.now (c.in-None.ensures.absent.0 refl))
