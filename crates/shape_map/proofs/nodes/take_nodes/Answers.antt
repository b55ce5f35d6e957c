use Rattle.shape_map.proofs.Ordered.{err_on, ok_on, takes_nodes, taking_stops}
use Rattle.shape_map.proofs.nodes.take_nodes.Goals as goal

pub returns-clause-taken : goal.returns-clause-taken
returns-clause-taken c =
    ok_on c.put_all.result (takes_nodes c.args.items.now c.in_ok-nodes.nodes.items c.put_in_order.new.nodes.items c.in_ok-nodes.ensures.nodes c.in_ok-nodes.ensures.own c.in_ok-put_in_order.ensures.sorted c.in_ok-put_in_order.ensures.same c.args.terms.now c.put_all.new.terms) c.put_all.ensures.added

pub returns-clause-full : goal.returns-clause-full
returns-clause-full c =
    err_on c.put_all.result (taking_stops c.args.items.now c.in_ok-nodes.nodes.items c.put_in_order.new.nodes.items c.in_ok-nodes.ensures.nodes c.in_ok-nodes.ensures.own c.in_ok-put_in_order.ensures.sorted c.in_ok-put_in_order.ensures.same c.args.terms.now) c.put_all.ensures.full
