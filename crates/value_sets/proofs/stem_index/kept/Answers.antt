use Rattle.std.proofs.Common.{◌++◌, ap, sym, ◌∙◌}
use Rattle.lists.proofs.Members.{yields_on}
use Rattle.value_sets.proofs.Apart.{in_order, next_kept, none_kept, stand_for_all}
use Rattle.value_sets.proofs.stem_index.kept.Goals as goal

pub loop-stem-init : goal.loop-stem-init
loop-stem-init c = (sym c.into_iter-stem-iterator.ensures.into_iter_gives.0, none_kept _ c.new-kept.ensures.items)

pub loop-stem-preserved : goal.loop-stem-preserved
loop-stem-preserved c = (
  yields_on _ c.loop-stem.yielded _ _ c.in-Some.stem c.loop-stem.invariant.0 c.in-Some.ensures.steps.0,
  next_kept c.args.sorted.items c.loop-stem.yielded _ c.loop-stem.kept.items _ c.in-Some.stem (in_order c.args.sorted.items c.requires)
      (c.loop-stem.invariant.0 ∙ ap (λ v. c.loop-stem.yielded ++ v) c.in-Some.ensures.steps.0) c.loop-stem.invariant.1 c.in_ok-keep.ensures,
)

pub returns-clause-all : goal.returns-clause-all
returns-clause-all c =
    stand_for_all c.args.sorted.items c.loop-stem.yielded _ c.loop-stem.kept.items c.loop-stem.invariant.0 (sym c.loop-stem.stem-iterator.rest.ok.0 ∙ c.in-None.ensures.steps.0) c.loop-stem.invariant.1
