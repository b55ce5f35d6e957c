use Rattle.std.proofs.Common.{◌+◌, ◌≡◌, ◌≤◌, subst}
use Rattle.std.specs.Prelude.{Some, slice_get}
use Rattle.typing_refiner.proofs.Spending.{look_is}
use Rattle.typing_refiner.proofs.ground.Ground.find_places.Goals as goal

pub returns-clause-spent : goal.returns-clause-spent
returns-clause-spent g c = λ width give.
    let there = subst (λ xs. slice_get xs c.args.at ≡ Some c.pair_at-pair.result) c.as_slice.ensures c.pair_at-pair.ensures in
    subst (λ x. c.find_match.new.steps ≤ c.args.steps.now + x) (look_is c.args.self.now width c.args.at c.pair_at-pair.result there)
    (c.find_match.ensures.most (width c.pair_at-pair.result) (give c.pair_at-pair.result))
