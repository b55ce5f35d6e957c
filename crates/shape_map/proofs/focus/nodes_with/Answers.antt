use Rattle.shape_map.proofs.Focused.{all_found}
use Rattle.shape_map.proofs.focus.nodes_with.Goals as goal

pub returns-clause-exactly : goal.returns-clause-exactly
returns-clause-exactly c =
    all_found c.args.terms.now c.args.graph.now.triples c.args.pattern.now c.distinct_terms.ensures.distinct c.args.predicate c.requires.predicate _ c.among-triples.ensures _ _ c.in_ok-nodes.ensures c.in_ok-put_in_order.ensures.same
