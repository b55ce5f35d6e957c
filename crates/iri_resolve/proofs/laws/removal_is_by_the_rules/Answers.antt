use Rattle.iri_resolve.proofs.Rules.{removal}
use Rattle.iri_resolve.proofs.laws.removal_is_by_the_rules.Goals as goal

pub returns : goal.returns
returns c = removal
