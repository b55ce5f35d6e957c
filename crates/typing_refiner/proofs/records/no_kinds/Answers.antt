use Rattle.typing_refiner.proofs.Filed.{none_pushed}
use Rattle.typing_refiner.proofs.Indexing.{one_longer_list}
use Rattle.typing_refiner.proofs.records.no_kinds.Goals as goal

pub loop-preserved : goal.loop-preserved
loop-preserved c = record {
  count = one_longer_list _ _ _ _ c.in_ok-push.ensures.items c.loop.invariant.count;
  empty = none_pushed c.loop.kinds.items c.push.new.self.items c.in_ok-push.ensures.items c.loop.invariant.empty;
}
