use Rattle.xs_pattern.proofs.Depth.{depth_of_pattern}
use Rattle.xs_pattern.proofs.parser.nesting.Goals as goal

pub returns : goal.returns
returns c = depth_of_pattern c.args.tokens.now c.depth.result c.depth.ensures
