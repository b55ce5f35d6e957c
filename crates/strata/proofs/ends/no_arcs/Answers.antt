use Rattle.strata.proofs.ByEnd.{none_next, one_longer}
use Rattle.strata.proofs.ends.no_arcs.Goals as goal

pub loop-preserved : goal.loop-preserved
loop-preserved c = record {
  count = one_longer _ _ _ _ c.in_ok-push.ensures.items c.loop.invariant.count;
  none = none_next (λ v. v.items) c.loop.lists.items c.new.result c.push.new.self.items c.in_ok-push.ensures.items c.new.ensures.items c.loop.invariant.none;
}
