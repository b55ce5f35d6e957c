use Rattle.std.proofs.Common.{rules, ◌≡◌, ◌∙◌, ◌<◌, arith, length, map}
use Rattle.typing_refiner.proofs.Membered.{members_first, members_next}
use Rattle.typing_refiner.proofs.Steps.{within}
use Rattle.typing_refiner.proofs.ground.Ground.members.Goals as goal

pub loop-at-init : goal.loop-at-init
loop-at-init c = record {
  members = members_first c.args.self.now (map (λ v. v.items) c.in_ok-lists.lists.items) c.in_ok-lists.ensures.empty;
  count = c.in_ok-lists.ensures.count;
}

pub add_member-requires-clause-strata : goal.add_member-requires-clause-strata
add_member-requires-clause-strata c = λ i. let s = c.requires.strata i in let e = c.loop-at.invariant.count in omega (arith, s, e)

pub loop-at-preserved : goal.loop-at-preserved
loop-at-preserved c = record {
  members = members_next c.args.self.now c.loop-at.at (map (λ v. v.items) c.loop-at.lists.items)
      (map (λ v. v.items) c.add_member.new.lists.items) c.loop-at.invariant.members c.in_ok-add_member.ensures.added;
  count = c.add_member.ensures.same ∙ c.loop-at.invariant.count;
}

pub returns-clause-members : goal.returns-clause-members
returns-clause-members c = λ k i.
    let e : c.loop-at.at ≡ length c.args.self.now.table.now = search rules in (
      (λ h. ((c.loop-at.invariant.members k i).0 h).1),
      (λ o. (c.loop-at.invariant.members k i).1 ((let w = within c.args.self.now k i o in let l : i < c.loop-at.at = omega (arith, w, e) in l), o)),
    )
