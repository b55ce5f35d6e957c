use Rattle.std.proofs.Common.{◌∙◌, ◌||◌, ◌&&◌, ap, sym}
use Rattle.shard_checks.specs.Lines.{is_among}
use Rattle.shard_checks.proofs.compared.Compared.is_read.Goals as goal

pub returns-else-is_node : goal.returns-else-is_node
returns-else-is_node c = λ all at back are.
    let f = c.args.fields.now in
    c.is_read_back.ensures all at back are ∙ sym (ap (λ z. z || (is_among f.predicate.now back && is_among f.object.now at)) c.if-is_node.false)
