use Rattle.std.proofs.Common.{ap, inl}
use Rattle.shex_io.proofs.sure.SureFilesFiles.store.Goals as goal

pub returns-in-Err-clause-part : goal.returns-in-Err-clause-part
returns-in-Err-clause-part c = inl (ap (λ held. held c.args.name.now) c.in-Err.ensures.refused)
