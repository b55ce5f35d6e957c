use Rattle.std.proofs.Common.{◌-◌, ◌≤◌, arith}
use Rattle.schema_places.proofs.Looking.{edge_at}
use Rattle.schema_places.proofs.things.halve.Goals as goal

pub returns : goal.returns
returns c =
    let i = c.loop-refused.invariant in
    let h = c.loop-refused-test.false in
    let near : c.loop-refused.refused - c.loop-refused.size ≤ 1 = omega (arith, h) in
    edge_at c.args.base.now c.args.source.now c.args.thing c.loop-refused.size c.loop-refused.refused c.loop-refused.place i.0 i.1 near i.2 i.3
