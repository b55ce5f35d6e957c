use Rattle.std.proofs.Common.{◌≡◌, ◌∷◌, [], ap, arith, false, length, length-append, refl, replicate, rules, subst, sym}
use Rattle.schema_load.specs.Sorting.{IsVisiting}
use Rattle.schema_load.specs.Steps.{Keeps}
use Rattle.schema_load.proofs.Sorts.{kept_none, sorted_all}
use Rattle.schema_load.proofs.Visits.{all_sorted, visiting_all}
use Rattle.schema_load.proofs.sorting.sort.Goals as goal

pub loop-visit-init : goal.loop-visit-init
loop-visit-init c =
    let opened : c.in_ok-opened.opened.items ≡ replicate (length c.args.parts.now) false = search rules in
    let done : c.in_ok-done.done.items ≡ replicate (length c.args.parts.now) false = search rules in
    let none : c.new-order.result.items ≡ [] = search rules in
    record {
      kept = subst (λ ds. Keeps c.args.parts.now c.args.targets.now ds c.new-order.result.items) (sym done)
          (subst (λ xs. Keeps c.args.parts.now c.args.targets.now (replicate (length c.args.parts.now) false) xs) (sym none) (kept_none c.args.parts.now c.args.targets.now));
      visiting =
          subst (λ os. IsVisiting c.args.parts.now c.args.targets.now os c.in_ok-done.done.items c.in_ok-visits.visits.items) (sym opened)
          (subst (λ ds. IsVisiting c.args.parts.now c.args.targets.now (replicate (length c.args.parts.now) false) ds c.in_ok-visits.visits.items) (sym done)
          (visiting_all c.args.parts.now c.args.targets.now (length c.args.parts.now) c.in_ok-visits.visits.items refl c.in_ok-visits.ensures));
    }

pub visit_place-requires-clause-visiting : goal.visit_place-requires-clause-visiting
visit_place-requires-clause-visiting c =
    subst (λ vs. IsVisiting c.args.parts.now c.args.targets.now c.loop-visit.opened.items c.loop-visit.done.items vs) c.in-Some.ensures.items c.loop-visit.invariant.visiting

pub visit_place-requires-clause-kept : goal.visit_place-requires-clause-kept
visit_place-requires-clause-kept c = c.loop-visit.invariant.kept

pub loop-visit-preserved : goal.loop-visit-preserved
loop-visit-preserved c = record { kept = c.in_ok-visit_place.ensures.kept; visiting = c.in_ok-visit_place.ensures.visiting c.if-not-branch.false }

pub loop-visit-smaller : goal.loop-visit-smaller
loop-visit-smaller c =
    let less = c.in_ok-visit_place.ensures.less c.if-not-branch.false in
    let long = ap length c.in-Some.ensures.items in
    let more = length-append c.pop.new.self.items (c.in-Some.visit ∷ []) in
    omega arith

pub returns-then-not-branch-clause-sorted : goal.returns-then-not-branch-clause-sorted
returns-then-not-branch-clause-sorted c = c.in_ok-visit_place.ensures.kept.sorted

pub returns-then-not-branch-clause-circle : goal.returns-then-not-branch-clause-circle
returns-then-not-branch-clause-circle c = λ short. c.in_ok-visit_place.ensures.circle c.if-not-branch.true

pub returns-clause-sorted : goal.returns-clause-sorted
returns-clause-sorted c = c.loop-visit.invariant.kept.sorted

pub returns-clause-all : goal.returns-clause-all
returns-clause-all c = sorted_all c.args.parts.now c.args.targets.now c.loop-visit.done.items c.loop-visit.order.items c.loop-visit.invariant.kept

pub returns-then-not-branch-clause-all : goal.returns-then-not-branch-clause-all
returns-then-not-branch-clause-all c = sorted_all c.args.parts.now c.args.targets.now c.visit_place.new.done.items c.visit_place.new.order.items c.in_ok-visit_place.ensures.kept

pub returns-clause-circle : goal.returns-clause-circle
returns-clause-circle c = λ short.
    let none : c.loop-visit.visits.items ≡ [] = search rules in
    absurd (short (all_sorted c.args.parts.now c.args.targets.now c.loop-visit.opened.items c.loop-visit.done.items c.loop-visit.order.items
    (subst (λ vs. IsVisiting c.args.parts.now c.args.targets.now c.loop-visit.opened.items c.loop-visit.done.items vs) none c.loop-visit.invariant.visiting) c.loop-visit.invariant.kept))
