use Rattle.std.proofs.Common.{◌≡◌, rules}
use Rattle.label_extents.proofs.Gathered.{in_order}
use Rattle.label_extents.proofs.nodes.nodes_of.Goals as goal

pub returns : goal.returns
returns c =
    let same : c.in_ok-nodes.nodes.items ≡ c.in_ok-met.met.keys = search rules in
    in_order c.args.terms.now c.args.graph.now.triples c.triples.result.now c.in_ok-met.met.keys c.in_ok-nodes.nodes.items c.put_in_order.new.nodes.items c.triples.ensures c.in_ok-met.ensures same c.in_ok-put_in_order.ensures.sorted c.in_ok-put_in_order.ensures.same
