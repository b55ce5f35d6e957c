use Rattle.std.proofs.Common.{◌≡◌, arith, length}
use Rattle.bag_match.proofs.Unchosen.{sole_next}
use Rattle.bag_match.proofs.sole.sole_places.Goals as goal

pub loop-i-preserved : goal.loop-i-preserved
loop-i-preserved c =
    sole_next c.loop-i.places.items c.push.new.self.items c.args.offered.now c.loop-i.i c.at.result.now _ c.loop-i.invariant c.at.ensures
    (let one : length c.at.result.now ≡ 1 = omega (arith, c.in-len1.len_at_least, c.in-len1.len_below) in one) c.in_ok-push-in-len1.ensures.items
