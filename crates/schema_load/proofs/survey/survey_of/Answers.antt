use Rattle.std.proofs.Common.{◌≡◌, length, rules, subst, sym}
use Rattle.schema_load.specs.Steps.{AreTargets, HasAll, IsSorted}
use Rattle.schema_load.proofs.Leads.{are_inside}
use Rattle.schema_load.proofs.Fulfilled.{no_circles, no_include_circles}
use Rattle.schema_load.proofs.Built.{survey_met}
use Rattle.schema_load.proofs.survey.survey_of.Goals as goal

pub sort-requires-clause-inside : goal.sort-requires-clause-inside
sort-requires-clause-inside c =
    let are : AreTargets c.args.parts.now c.as_slice.result.now = subst (λ ts. AreTargets c.args.parts.now ts) (sym c.as_slice.ensures.value) c.in_ok-targets.ensures in
    are_inside c.args.parts.now c.as_slice.result.now c.requires.fine.whole c.requires.fine.triples are

pub depths_within-requires-clause-no_circle : goal.depths_within-requires-clause-no_circle
depths_within-requires-clause-no_circle c =
    let are : AreTargets c.args.parts.now c.as_slice.result.now = subst (λ ts. AreTargets c.args.parts.now ts) (sym c.as_slice.ensures.value) c.in_ok-targets.ensures in
    let long : length c.in_ok-order.order.items ≡ length c.args.parts.now = search rules in
    let all : HasAll c.args.parts.now c.in_ok-order.order.items = c.in_ok-order.ensures.all long in
    no_circles c.args.parts.now c.as_slice.result.now c.in_ok-order.order.items are c.requires.once c.in_ok-order.ensures.sorted all

pub depths_within-requires-clause-no_include_circle : goal.depths_within-requires-clause-no_include_circle
depths_within-requires-clause-no_include_circle c =
    let are : AreTargets c.args.parts.now c.as_slice.result.now = subst (λ ts. AreTargets c.args.parts.now ts) (sym c.as_slice.ensures.value) c.in_ok-targets.ensures in
    let long : length c.in_ok-order.order.items ≡ length c.args.parts.now = search rules in
    let all : HasAll c.args.parts.now c.in_ok-order.order.items = c.in_ok-order.ensures.all long in
    no_include_circles c.args.parts.now c.as_slice.result.now c.in_ok-order.order.items are c.requires.once c.in_ok-order.ensures.sorted all

pub depths_within-requires-clause-all : goal.depths_within-requires-clause-all
depths_within-requires-clause-all c =
    let long : length c.in_ok-order.order.items ≡ length c.args.parts.now = search rules in
    subst (λ os. HasAll c.args.parts.now os) (sym c.as_slice-3.ensures.value) (c.in_ok-order.ensures.all long)

pub returns-clause-survey : goal.returns-clause-survey
returns-clause-survey c =
    let long : length c.in_ok-order.order.items ≡ length c.args.parts.now = search rules in
    survey_met c.args.parts.now (record { targets = c.in_ok-targets.targets; order = c.in_ok-order.order; depths = c.in_ok-depths.depths }) c.in_ok-targets.ensures c.requires.once c.requires.there c.requires.fine
    (subst (λ ts. IsSorted c.args.parts.now ts c.in_ok-order.order.items) c.as_slice.ensures.value c.in_ok-order.ensures.sorted)
    (c.in_ok-order.ensures.all long) c.in_ok-depths.ensures.limits c.in_ok-depths.ensures.depths
