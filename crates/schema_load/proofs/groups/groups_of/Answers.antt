use Rattle.std.proofs.Common.{[], ◌≡◌, length, refl, rules, subst}
use Rattle.schema_load.specs.Groups.{AreNumbers, IsWalking}
use Rattle.schema_load.proofs.Grouped.{are_groups, begins, each_grouped, on_value}
use Rattle.schema_load.proofs.groups.groups_of.Goals as goal

pub loop-visit-init : goal.loop-visit-init
loop-visit-init c = begins c.args.parts.now c.args.targets.now (length c.args.parts.now) c.in_ok-walk.walk c.in_ok-visits.visits.items refl c.in_ok-walk.ensures c.in_ok-visits.ensures

pub numbers_of-requires : goal.numbers_of-requires
numbers_of-requires c = record {
  grouped = (
      let none : c.loop-visit.visits.items ≡ [] = search rules in
      each_grouped c.args.parts.now c.args.targets.now c.loop-visit.walk c.as_slice.result.now (subst (λ vs. IsWalking c.args.parts.now c.args.targets.now c.loop-visit.walk vs) none c.loop-visit.invariant) c.as_slice.ensures.value
      );
}

pub returns : goal.returns
returns c =
    let none : c.loop-visit.visits.items ≡ [] = search rules in
    on_value c.numbers_of.result (λ groups numbers.
    are_groups c.args.parts.now c.args.targets.now c.loop-visit.walk.standings.items c.loop-visit.walk.trail.items c.loop-visit.walk.starts.items groups.items (length c.loop-visit.walk.firsts.items)
    (subst (λ vs. IsWalking c.args.parts.now c.args.targets.now c.loop-visit.walk vs) none c.loop-visit.invariant)
    (subst (λ s. AreNumbers s groups.items) c.as_slice.ensures.value numbers) c.requires.inside) c.numbers_of.ensures
