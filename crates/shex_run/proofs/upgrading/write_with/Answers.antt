use Rattle.shex_run.proofs.Newest.{keeps_with, made_with}
use Rattle.shex_run.proofs.upgrading.write_with.Goals as goal

pub write-requires : goal.write-requires
write-requires c = keeps_with c.args.head c.args.proof c.requires.fits c.requires.keeps

pub returns : goal.returns
returns c = made_with (λ v. v.items) c.args.head c.args.proof c.write.result c.write.ensures
