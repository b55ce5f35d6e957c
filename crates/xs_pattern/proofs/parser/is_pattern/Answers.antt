use Rattle.xs_pattern.proofs.Parsed.{spelled_meaning}
use Rattle.xs_pattern.specs.Parsing.{tokens_of}
use Rattle.xs_pattern.proofs.parser.is_pattern.Goals as goal

pub returns : goal.returns
returns c = spelled_meaning (tokens_of c.args.tokens.now) c.is_spelled.result c.is_spelled.ensures
