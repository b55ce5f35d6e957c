use Rattle.xs_pattern.proofs.Parsed.{found_pattern, missed_pattern}
use Rattle.xs_pattern.proofs.parser.pattern_of.Goals as goal

pub returns-clause-found : goal.returns-clause-found
returns-clause-found c = found_pattern c.parsed.result _ c.parsed.ensures

pub returns-clause-missed : goal.returns-clause-missed
returns-clause-missed c = missed_pattern c.parsed.result _ c.parsed.ensures
