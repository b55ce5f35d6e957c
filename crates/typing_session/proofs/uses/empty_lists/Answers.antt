use Rattle.typing_session.proofs.Using.{empty_more, one_longer}
use Rattle.typing_session.proofs.uses.empty_lists.Goals as goal

pub loop-preserved : goal.loop-preserved
loop-preserved c = record {
  count = one_longer _ _ _ _ c.in_ok-push.ensures.items c.loop.invariant.count;
  empty = empty_more (λ v. v.items) c.loop.lists.items c.push.new.self.items c.new.result c.in_ok-push.ensures.items c.new.ensures.items c.loop.invariant.empty;
}
