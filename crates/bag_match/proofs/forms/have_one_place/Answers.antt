use Rattle.std.proofs.Common.{◌≡◌, rules}
use Rattle.schema_tree.specs.Width.{places_for}
use Rattle.bag_match.proofs.OnePlace.{next_left}
use Rattle.bag_match.proofs.forms.have_one_place.Goals as goal

pub loop-i-preserved : goal.loop-i-preserved
loop-i-preserved c = λ t held.
    next_left (λ u. places_for c.args.shape.now c.args.node u ≡ 1) _ _ c.at.result t c.at.ensures.left (search rules) (c.loop-i.invariant t held)
