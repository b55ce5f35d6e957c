use Rattle.std.proofs.Common.{◌≡◌, rules, refl, subst, Contains}
use Rattle.std.specs.Prelude.{◌↔◌}
use Rattle.lists.proofs.Sorting.{sorted_rows}
use Rattle.demand.specs.Orders.{compare_pairs}
use Rattle.demand.proofs.PairOrder.{pairs_same, pairs_sorted, pairs_total}
use Rattle.typing_session.proofs.fresh.in_order.Goals as goal

pub returns-clause-sorted : goal.returns-clause-sorted
returns-clause-sorted c =
    pairs_sorted c.args.terms.now _ (λ a b. refl) _ _
    (sorted_rows (compare_pairs c.args.terms.now) (pairs_total c.args.terms.now) _ c.in_ok-sort_by.ensures.sorted (λ a r q k. search rules)) c.dedup.ensures.filtered

pub returns-clause-same : goal.returns-clause-same
returns-clause-same c = λ q.
    let made : c.in_ok-list.list.items ≡ c.args.pairs.now = search rules in
    subst (λ xs. Contains c.dedup.new.self.items q ↔ Contains xs q) made
    (pairs_same c.args.terms.now _ (λ a b. refl) _ _ _ c.in_ok-sort_by.ensures.permutation c.dedup.ensures.filtered q)
