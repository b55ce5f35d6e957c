use Rattle.std.proofs.Common.{refl, rules}
use Rattle.lists.proofs.Sorting.{sorted_rows}
use Rattle.rdf_terms.specs.Order.{compare_at}
use Rattle.rdf_terms.proofs.Orders.{id_total, same_nodes, sorted_once}
use Rattle.label_extents.proofs.nodes.put_in_order.Goals as goal

pub returns-clause-sorted : goal.returns-clause-sorted
returns-clause-sorted c =
    sorted_once c.args.terms.now _ (λ a b. refl) _ _ _ c.in_ok-sort_by.ensures.permutation
    (sorted_rows (compare_at c.args.terms.now) (id_total c.args.terms.now) _ c.in_ok-sort_by.ensures.sorted (λ a r q k. search rules)) c.dedup.ensures.filtered

pub returns-clause-same : goal.returns-clause-same
returns-clause-same c = same_nodes c.args.terms.now _ (λ a b. refl) _ _ _ c.in_ok-sort_by.ensures.permutation c.dedup.ensures.filtered
