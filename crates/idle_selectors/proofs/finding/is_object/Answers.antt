use Rattle.rdf_terms.specs.Order.{by_subject}
use Rattle.idle_selectors.proofs.Found.{object_by}
use Rattle.idle_selectors.proofs.finding.is_object.Goals as goal

pub returns : goal.returns
returns c = object_by (by_subject c.requires.0) c.args.node c.args.graph.now.triples c.ins.result.now (c.ins.ensures c.requires.0 c.requires.1) c.holds_some.result c.holds_some.ensures
