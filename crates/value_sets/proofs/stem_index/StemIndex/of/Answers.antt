use Rattle.value_sets.proofs.Apart.{stand_for_given}
use Rattle.value_sets.proofs.stem_index.StemIndex.of.Goals as goal

pub returns : goal.returns
returns c = stand_for_given c.args.stems.items _ _ c.in_ok-in_order.ensures.same c.in_ok-stems.ensures.all
