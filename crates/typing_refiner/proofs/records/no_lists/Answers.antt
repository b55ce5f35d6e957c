use Rattle.typing_refiner.proofs.Filed.{empty_pushed}
use Rattle.typing_refiner.proofs.Indexing.{one_longer_list}
use Rattle.typing_refiner.proofs.records.no_lists.Goals as goal

pub loop-preserved : goal.loop-preserved
loop-preserved c = record {
  count = one_longer_list _ _ _ _ c.in_ok-push.ensures.items c.loop.invariant.count;
  empty = empty_pushed (λ v. v.items) c.loop.lists.items c.push.new.self.items c.new.result c.in_ok-push.ensures.items c.new.ensures.items c.loop.invariant.empty;
}
