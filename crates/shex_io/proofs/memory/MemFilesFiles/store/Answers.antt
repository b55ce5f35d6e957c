use Rattle.std.proofs.Common.{ap, inl}
use Rattle.shex_io.proofs.memory.MemFilesFiles.store.Goals as goal

pub returns-clause-part : goal.returns-clause-part
returns-clause-part c = inl (ap (λ held. held c.args.name.now) c.in-Err.ensures.refused)
