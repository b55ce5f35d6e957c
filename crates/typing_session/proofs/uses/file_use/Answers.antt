use Rattle.std.proofs.Common.{refl}
use Rattle.typing_session.proofs.Using.{files_at}
use Rattle.typing_session.proofs.uses.file_use.Goals as goal

pub returns-clause-added : goal.returns-clause-added
returns-clause-added c =
    files_at (λ l. l.items) c.args.lists.now.items _ c.args.found c.index_mut.result.now c.push.new.self c.index_mut.result.now c.requires.there c.index_mut.ensures.value c.in_ok-push.ensures.items refl
