use Rattle.std.proofs.Common.{refl}
use Rattle.rdf_terms.specs.Order.{compare_at}
use Rattle.lists.proofs.Ordered.{none_sorted}
use Rattle.shape_map.proofs.Focused.{no_predicate}
use Rattle.shape_map.proofs.focus.focus_nodes.Goals as goal

pub returns-in-None-clause-sorted : goal.returns-in-None-clause-sorted
returns-in-None-clause-sorted c = none_sorted (compare_at c.args.terms.now) _ c.new.ensures.items

pub returns-in-None-clause-exactly : goal.returns-in-None-clause-exactly
returns-in-None-clause-exactly c = no_predicate c.args.terms.now c.args.graph.now.triples c.args.pattern.now (c.in-None.ensures.absent.0 refl) _ c.new.ensures.items
