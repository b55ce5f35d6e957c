use Rattle.std.proofs.Common.{◌∙◌, ap, not, sym}
use Rattle.std.specs.Prelude.{◌&&◌}
use Rattle.shard_checks.specs.Lines.{is_among}
use Rattle.shard_checks.proofs.compared.Compared.is_missing.Goals as goal

pub returns-then-is_read_at-clause-missing : goal.returns-then-is_read_at-clause-missing
returns-then-is_read_at-clause-missing c = λ all at back are looked.
    ap not (c.has.ensures all are.shard_has) ∙ sym (ap (λ z. z && not (is_among c.args.line.now all)) (sym (c.is_read_at.ensures.read all at back are looked) ∙ c.if-is_read_at.true))

pub returns-else-is_read_at-clause-missing : goal.returns-else-is_read_at-clause-missing
returns-else-is_read_at-clause-missing c = λ all at back are looked.
    c.if-is_read_at.false ∙ sym (ap (λ z. z && not (is_among c.args.line.now all)) (sym (c.is_read_at.ensures.read all at back are looked) ∙ c.if-is_read_at.false))
