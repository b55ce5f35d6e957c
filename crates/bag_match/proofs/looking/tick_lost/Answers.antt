use Rattle.std.proofs.Common.{◌<◌, arith, length}
use Rattle.bag_match.proofs.Looked.{looked_next}
use Rattle.bag_match.specs.Searches.{failed_at}
use Rattle.bag_match.proofs.looking.tick_lost.Goals as goal

pub loop-left-preserved : goal.loop-left-preserved
loop-left-preserved g c bound some few =
    let within : c.loop-left.left < c.args.triples = (let t = c.loop-left-test.true in omega (arith, t)) in
    looked_next c.args.steps.now c.loop-left.steps c.tick_failed.new.steps c.loop-left.left (length (failed_at c.args.failed.now c.loop-left.left)) bound (c.loop-left.invariant bound some few)
    (let ticked = c.tick_failed.ensures.ticked in omega (arith, ticked)) (few c.loop-left.left within c.tick_failed.ensures.apart)
