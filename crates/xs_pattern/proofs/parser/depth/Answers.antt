use Rattle.xs_pattern.proofs.Depth.{depth_on}
use Rattle.xs_pattern.proofs.parser.depth.Goals as goal

pub loop-token-preserved : goal.loop-token-preserved
loop-token-preserved c =
    depth_on c.args.tokens.now c.loop-token.token-index c.loop-token.groups c.loop-token.deepest _ _ _ _ c.token-item.result
    c.loop-token-test.true c.token-item.is c.loop-token.invariant.1.0 c.loop-token.invariant.1.1 c.loop-token.invariant.0
    c.open_behind-groups.ensures c.layers.ensures.value c.max-deepest.ensures
