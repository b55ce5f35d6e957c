use Rattle.std.proofs.Common.{subst, sym, ◌∙◌}
use Rattle.proof_file.specs.Text.{ProofText}
use Rattle.shex_run.proofs.Newest.{newest_made, none_from}
use Rattle.shex_run.proofs.upgrading.newest.Goals as goal

pub returns-in-Ok-write_with-clause-newest : goal.returns-in-Ok-write_with-clause-newest
returns-in-Ok-write_with-clause-newest c =
    let text = subst (λ bytes. ProofText c.in-Ok.proof bytes) c.as_slice.ensures.value c.in-Ok.ensures.found in
    newest_made c.args.head c.in-Ok.proof c.args.bytes.items c.in-Ok-write_with.text.items text (none_from c.in-Ok.proof.head (sym c.is_some.ensures
    ∙ c.if-is_some.false)) (c.in-Ok-write_with.ensures text.no_feeds)
