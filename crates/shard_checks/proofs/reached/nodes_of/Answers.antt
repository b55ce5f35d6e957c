use Rattle.std.proofs.Common.{refl}
use Rattle.shard_checks.proofs.Nodes.{are_reached}
use Rattle.shard_checks.proofs.reached.nodes_of.Goals as goal

pub returns : goal.returns
returns c = λ s g roots asked.
    are_reached s c.args.terms.now g roots _ _ _ _ asked refl c.in_ok-nodes.ensures c.in_ok-put_in_order.ensures.sorted c.in_ok-put_in_order.ensures.same
