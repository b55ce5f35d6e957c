use Rattle.std.proofs.Common.{arith}
use Rattle.schema_load.proofs.Grouped.{numbers_all, numbers_next, numbers_none}
use Rattle.schema_load.proofs.groups.numbers_of.Goals as goal

pub loop-standing-init : goal.loop-standing-init
loop-standing-init c = numbers_none c.new-groups.result.items c.new-groups.ensures.items

pub number_of-requires : goal.number_of-requires
number_of-requires c = c.requires.grouped c.loop-standing.standing-index c.loop-standing-test.true

pub loop-standing-preserved : goal.loop-standing-preserved
loop-standing-preserved c =
    numbers_next c.args.standings.now c.loop-standing.standing-index c.loop-standing.groups.items c.push.new.self.items c.number_of.result c.loop-standing-test.true c.number_of.ensures c.in_ok-push.ensures.items c.loop-standing.invariant

pub returns : goal.returns
returns c = numbers_all c.args.standings.now c.loop-standing.standing-index c.loop-standing.groups.items (let h = c.loop-standing-test.false in omega arith) c.loop-standing.invariant
