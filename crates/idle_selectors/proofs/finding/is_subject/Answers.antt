use Rattle.rdf_terms.specs.Order.{by_object}
use Rattle.idle_selectors.proofs.Found.{subject_by}
use Rattle.idle_selectors.proofs.finding.is_subject.Goals as goal

pub returns : goal.returns
returns c = subject_by (by_object c.requires.0) c.args.node c.args.graph.now.triples c.outs.result.now (c.outs.ensures c.requires.0 c.requires.1) c.holds_some.result c.holds_some.ensures
