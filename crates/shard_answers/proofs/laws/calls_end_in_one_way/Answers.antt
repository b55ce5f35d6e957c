use Rattle.shard_answers.proofs.Apart.{answered_not_left, refused_not_left}
use Rattle.shard_answers.proofs.laws.calls_end_in_one_way.Goals as goal

pub returns-clause-answered : goal.returns-clause-answered
returns-clause-answered c = answered_not_left c.inputs_are_one.ensures c.schemas_are_not_left.ensures

pub returns-clause-refused : goal.returns-clause-refused
returns-clause-refused c = refused_not_left c.inputs_are_one.ensures c.schemas_are_not_left.ensures
