use Rattle.nonconformance.proofs.Causing.{cause_enough, some_cause}
use Rattle.nonconformance.proofs.laws.causes_are_exact.Goals as goal

pub returns-clause-enough : goal.returns-clause-enough
returns-clause-enough c = cause_enough c.layers_are_meanings.ensures.sure_layer c.failed_part_is_enough.ensures

pub returns-clause-some : goal.returns-clause-some
returns-clause-some c = some_cause c.layers_are_meanings.ensures.sure_layer c.nodes_are_decided.ensures
