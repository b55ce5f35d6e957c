use Rattle.std.proofs.Common.{rules}
use Rattle.lists.proofs.Sorting.{sorted_rows}
use Rattle.shape_map.specs.Selection.{compare_terms}
use Rattle.shape_map.proofs.Ordered.{by_text}
use Rattle.shape_map.proofs.nodes.put_in_order.Goals as goal

pub returns-clause-sorted : goal.returns-clause-sorted
returns-clause-sorted c = sorted_rows compare_terms by_text _ c.in_ok-sort_by.ensures.sorted (λ a r q k. search rules)
