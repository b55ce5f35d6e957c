use Rattle.std.proofs.Common.{refl}
use Rattle.strata.proofs.ByEnd.{put_to}
use Rattle.strata.proofs.ends.put_arc.Goals as goal

pub returns-clause-put : goal.returns-clause-put
returns-clause-put c =
    put_to (λ l. l.items) c.args.lists.now.items _ c.args.arc c.index_mut.result.now c.index_mut.result.now c.push.new.self c.requires.there c.index_mut.ensures.value c.in_ok-push.ensures.items refl
