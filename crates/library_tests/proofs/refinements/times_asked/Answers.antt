use Rattle.std.proofs.Common.{◌≡◌, ◌≤◌, ◌∙◌, ap, arith, length, subst, sym, filter, nat_eq, []}
use Rattle.std.proofs.lemmas.List.Kept.{IsStrictlySortedBy-filter}
use Rattle.std.specs.List.Sorted.{IsStrictlySortedBy}
use Rattle.lists.specs.Distinct.{AreDistinct}
use Rattle.demand.specs.Orders.{compare_pairs, max_pairs}
use Rattle.schema_tree.specs.declared.schema.Pair.{Pair}
use Rattle.schema_tree.specs.Needs.{HoldNeeds}
use Rattle.locality_laws.specs.Local.{AreKept}
use Rattle.typing_refiner.specs.Refinement.{known_by_it}
use Rattle.library_tests.proofs.SampledRefinements.{all_kept, some_distinct, some_few, some_kept}
use Rattle.library_tests.proofs.refinements.times_asked.Goals as goal

pub refine_from-requires-clause-kept : goal.refine_from-requires-clause-kept
refine_from-requires-clause-kept g c =
    all_kept c.args.schema.now c.args.terms.now c.args.graph.now.triples c.args.strata.now 1 (record { yes = []; no = [] }) c.list-all.result.now
    (subst (HoldNeeds c.args.schema.now c.args.graph.now.triples) (sym c.list-all.ensures.list) c.requires.closed)

pub refine_from-requires-2-clause-distinct : goal.refine_from-requires-2-clause-distinct
refine_from-requires-2-clause-distinct g c =
    subst AreDistinct (sym (c.as_slice-row.ensures.value ∙ c.in_ok-row.ensures))
    (some_distinct (λ p. nat_eq p.shape.0 0) c.list-all.result.now (subst AreDistinct (sym c.list-all.ensures.list) c.list-all.ensures.distinct))

pub refine_from-requires-2-clause-sorted : goal.refine_from-requires-2-clause-sorted
refine_from-requires-2-clause-sorted g c =
    subst (IsStrictlySortedBy (compare_pairs c.args.terms.now)) (sym (c.as_slice-row.ensures.value ∙ c.in_ok-row.ensures))
    (IsStrictlySortedBy-filter (compare_pairs c.args.terms.now) (λ (p : Pair). nat_eq p.shape.0 0) c.list-all.result.now
    (subst (IsStrictlySortedBy (compare_pairs c.args.terms.now)) (sym c.list-all.ensures.list) c.requires.sorted))

pub refine_from-requires-2-clause-few : goal.refine_from-requires-2-clause-few
refine_from-requires-2-clause-few g c =
    subst (λ xs. length xs ≤ max_pairs) (sym (c.as_slice-row.ensures.value ∙ c.in_ok-row.ensures))
    (let some = some_few (λ p. nat_eq p.shape.0 0) c.list-all.result.now (subst AreDistinct (sym c.list-all.ensures.list) c.list-all.ensures.distinct) in
    let all = subst (λ xs. length xs ≤ max_pairs) (sym c.list-all.ensures.list) c.list-all.ensures.few in omega (arith, some, all))

pub refine_from-requires-2-clause-kept : goal.refine_from-requires-2-clause-kept
refine_from-requires-2-clause-kept g c =
    subst (AreKept c.args.schema.now c.args.terms.now c.args.graph.now.triples c.args.strata.now 1 (known_by_it c.in_ok-whole.whole)) (sym (c.as_slice-row.ensures.value ∙ c.in_ok-row.ensures))
    (some_kept c.args.schema.now c.args.terms.now c.args.graph.now.triples c.args.strata.now 1 (known_by_it c.in_ok-whole.whole) c.list-all.result.now (λ p. nat_eq p.shape.0 0)
    (subst (HoldNeeds c.args.schema.now c.args.graph.now.triples) (sym c.list-all.ensures.list) c.requires.closed) c.in_ok-whole.ensures.verdicts)
