use Rattle.std.proofs.Common.{length, rules}
use Rattle.typing_session.proofs.Spreading.{start_met}
use Rattle.typing_session.proofs.reaching.met_at_ends.Goals as goal

pub returns : goal.returns
returns c =
    start_met c.args.kept.now c.args.triple (length c.args.schema.now.shapes) c.new-ends.result.items c.push_node.new.found.items c.push_node-2.new.found.items c.as_slice-2.result.now c.new-met.result c.put_all.new.self
    c.new-ends.ensures.items c.in_ok-push_node.ensures c.in_ok-push_node-2.ensures (search rules) c.new-met.ensures c.in_ok-put_all.ensures c.requires.shapes
