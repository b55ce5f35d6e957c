use Rattle.std.proofs.Common.{rules}
use Rattle.lists.proofs.Sorting.{sorted_rows}
use Rattle.value_sets.specs.StemIndex.{by_bytes}
use Rattle.value_sets.proofs.Between.{bytes_total}
use Rattle.value_sets.proofs.stem_index.in_order.Goals as goal

pub returns-clause-sorted : goal.returns-clause-sorted
returns-clause-sorted c = sorted_rows by_bytes bytes_total _ c.in_ok-sort_by.ensures.sorted (λ a r q k. search rules)
