use Rattle.std.proofs.Common.{arith}
use Rattle.typing_session.proofs.Spreading.{node_all, node_more}
use Rattle.typing_session.proofs.reaching.push_node.Goals as goal

pub loop-number-preserved : goal.loop-number-preserved
loop-number-preserved c = record {
  added = node_more c.args.node c.loop-number.number c.args.found.now.items c.loop-number.found.items c.push.new.self.items c.loop-number.invariant.added c.in_ok-push.ensures.items;
  within = (let t = c.loop-number-test.true in let e = c.as_slice-count.ensures in omega (arith, t, e));
}

pub returns : goal.returns
returns c =
    node_all c.args.node c.loop-number.number _ c.args.schema.now.shapes c.args.found.now.items c.loop-number.found.items c.as_slice-count.ensures
    c.loop-number.invariant.within c.loop-number-test.false c.loop-number.invariant.added
