use Rattle.std.proofs.Common.{refl}
use Rattle.typing_refiner.proofs.Filed.{pushed_to}
use Rattle.typing_refiner.proofs.records.push_record.Goals as goal

pub returns-clause-pushed : goal.returns-clause-pushed
returns-clause-pushed c =
    pushed_to (λ l. l.items) c.args.lists.now.items _ c.args.stratum c.args.made c.index_mut.result.now c.index_mut.result.now c.push.new.self c.requires.there c.index_mut.ensures.value c.in_ok-push.ensures.items refl
