use Rattle.demand.proofs.Growing.{grow_one}
use Rattle.typing_session.proofs.met.Met.put_all.Goals as goal

pub loop-pair-preserved : goal.loop-pair-preserved
loop-pair-preserved c =
    grow_one c.args.self.now c.args.pairs.now c.loop-pair.self c.put.new.self c.loop-pair.pair-index (record { node = record { 0 = 0 }; shape = record { 0 = 0 } }) c.loop-pair-test.true c.loop-pair.invariant c.in_ok-put.ensures
