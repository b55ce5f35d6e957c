use Rattle.std.proofs.Common.{List, rules, subst, sym}
use Rattle.std.specs.List.Sorted.{IsSortedBy}
use Rattle.rdf_terms.specs.Order.{compare_at}
use Rattle.rdf_terms.specs.declared.terms.TermId.{TermId}
use Rattle.graph_index.proofs.Numbered.{all_placed, still_below}
use Rattle.rdf_terms.proofs.Orders.{id_total}
use Rattle.graph_index.proofs.Placed.{apart, follow}
use Rattle.lists.proofs.Sorting.{lower, sorted_rows}
use Rattle.graph_index.proofs.places.places_in.Goals as goal

pub numbered-requires : goal.numbered-requires
numbered-requires c = still_below c.table_len-len.result c.in_ok-ids.ids.items _ c.as_slice.result.now c.as_slice.ensures.value c.in_ok-sort_by.ensures.permutation c.in_ok-ids.ensures.within

pub returns-clause-placed : goal.returns-clause-placed
returns-clause-placed c =
    all_placed c.in_ok-ids.ids.items _ c.as_slice.result.now c.in_ok-places.places.items c.args.triples.now c.as_slice.ensures.value c.in_ok-sort_by.ensures.permutation c.in_ok-ids.ensures.all c.in_ok-places.ensures.all

pub returns-clause-apart : goal.returns-clause-apart
returns-clause-apart c = apart c.as_slice.result.now c.in_ok-places.places.items c.in_ok-places.ensures.places

pub returns-clause-texts : goal.returns-clause-texts
returns-clause-texts c =
    follow c.args.terms.now c.as_slice.result.now
    (subst (λ (v : List TermId). IsSortedBy (lower (compare_at c.args.terms.now) (id_total c.args.terms.now)) v) (sym c.as_slice.ensures.value)
    (sorted_rows (compare_at c.args.terms.now) (id_total c.args.terms.now) _ c.in_ok-sort_by.ensures.sorted (λ a r q k. search rules)))
    c.in_ok-places.places.items c.in_ok-places.ensures.places
