use Rattle.std.proofs.Common.{◌<◌, ◌-◌, arith, length}
use Rattle.lists.proofs.Members.{got_in}
use Rattle.bag_match.proofs.Looked.{looked_next}
use Rattle.bag_match.proofs.looking.tick_looked.Goals as goal

pub loop-done-preserved : goal.loop-done-preserved
loop-done-preserved g c =
    let there = got_in c.args.offered.now c.loop-done.done c.places_at.result.now c.places_at.ensures in
    record {
      least = (let one = c.tick_layer.ensures.some (c.requires.some c.places_at.result.now there) in let before = c.loop-done.invariant.least in omega (arith, one, before));
      most = λ bound some few fewer.
          let behind : length c.args.taken.now - 1 - c.loop-done.done < length c.args.taken.now = (let within = c.loop-done-test.true in omega (arith, within)) in
          looked_next c.args.steps.now c.loop-done.steps c.tick_layer.new.steps c.loop-done.done bound bound (c.loop-done.invariant.most bound some few fewer)
          (c.tick_layer.ensures.few bound (few c.places_at.result.now there) (fewer (length c.args.taken.now - 1 - c.loop-done.done) behind)) (omega arith);
    }
