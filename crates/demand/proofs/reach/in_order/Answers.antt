use Rattle.std.proofs.Common.{◌≡◌, rules, subst}
use Rattle.std.proofs.lemmas.List.Sorted.{Contains-permutation, IsPermutation-sym}
use Rattle.std.specs.List.Sorted.{IsPermutation}
use Rattle.lists.proofs.Sorting.{sorted_rows}
use Rattle.demand.specs.Orders.{compare_pairs}
use Rattle.demand.proofs.PairOrder.{pairs_once, pairs_strict, pairs_total}
use Rattle.demand.proofs.reach.in_order.Goals as goal

pub returns-clause-sorted : goal.returns-clause-sorted
returns-clause-sorted c =
    let made : c.in_ok-list.list.items ≡ c.args.pairs.now = search rules in
    pairs_strict c.args.terms.now c.args.pairs.now c.sort_by.new.self.items c.requires.distinct (subst (λ xs. IsPermutation xs c.sort_by.new.self.items) made c.in_ok-sort_by.ensures.permutation)
    (sorted_rows (compare_pairs c.args.terms.now) (pairs_total c.args.terms.now) _ c.in_ok-sort_by.ensures.sorted (λ a r q k. search rules))

pub returns-clause-same : goal.returns-clause-same
returns-clause-same c = λ q.
    let made : c.in_ok-list.list.items ≡ c.args.pairs.now = search rules in
    let moved : IsPermutation c.args.pairs.now c.sort_by.new.self.items = subst (λ xs. IsPermutation xs c.sort_by.new.self.items) made c.in_ok-sort_by.ensures.permutation in
    (Contains-permutation _ _ q (IsPermutation-sym _ _ moved), Contains-permutation _ _ q moved)

pub returns-clause-distinct : goal.returns-clause-distinct
returns-clause-distinct c = pairs_once c.args.terms.now _ (returns-clause-sorted c)
