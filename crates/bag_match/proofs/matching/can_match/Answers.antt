use Rattle.bag_match.proofs.Matched.{told_of}
use Rattle.bag_match.proofs.matching.can_match.Goals as goal

pub returns-clause-decided : goal.returns-clause-decided
returns-clause-decided g c =
    told_of c.args.schema.now c.args.terms.now c.args.graph.now.triples (g.V.View.known c.args.view.now) c.args.lean c.args.pair c.in_ok-found.found c.is_some.result c.is_some.ensures c.in_ok-found.ensures.found
