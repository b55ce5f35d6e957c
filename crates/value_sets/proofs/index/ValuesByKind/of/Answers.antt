use Rattle.value_sets.proofs.Indexing.{all_by_kind, next_by_kind}
use Rattle.value_sets.proofs.index.ValuesByKind.of.Goals as goal

pub loop-place-preserved : goal.loop-place-preserved
loop-place-preserved c =
    next_by_kind c.args.values.now c.loop-place.place c.index-values-place.result _ _ c.loop-place-test.true c.index-values-place.is c.in_ok-add.ensures c.loop-place.invariant

pub returns : goal.returns
returns c = all_by_kind c.args.values.now c.loop-place.place _ c.loop-place-test.false c.loop-place.invariant
