use Rattle.term_tokens.specs.Scopes.{scope_of}
use Rattle.shex_inputs.proofs.Asking.{map_stops}
use Rattle.shex_inputs.proofs.map.map_of.Goals as goal

pub returns-clause-stops : goal.returns-clause-stops
returns-clause-stops c = map_stops (scope_of c.args.nodes.now) (scope_of c.args.labels.now) c.args.source.now c.read.result c.read.ensures.refused c.read.ensures.complete
