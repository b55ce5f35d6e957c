use Rattle.rdf_terms.specs.Order.{by_object, by_subject}
use Rattle.shape_map.proofs.Focused.{with_object, with_subject}
use Rattle.idle_selectors.proofs.finding.beside.Goals as goal

pub returns-in-Subject : goal.returns-in-Subject
returns-in-Subject c = with_object (by_subject c.requires.0) c.args.focus c.args.other c.args.predicate c.args.graph.now.triples _ c.in-Subject.is (c.ins_by.ensures c.requires.0 c.requires.1)

pub returns-in-Object : goal.returns-in-Object
returns-in-Object c = with_subject (by_object c.requires.0) c.args.focus c.args.other c.args.predicate c.args.graph.now.triples _ c.in-Object.is (c.outs_by.ensures c.requires.0 c.requires.1)
