use Rattle.typing_session.proofs.Reordered.{answers_are_of_sets, reach_is_of_sets}
use Rattle.typing_session.proofs.set_laws.answers_are_of_sets.Goals as goal

pub returns-clause-answers : goal.returns-clause-answers
returns-clause-answers c = answers_are_of_sets

pub returns-clause-reach : goal.returns-clause-reach
returns-clause-reach c = reach_is_of_sets
