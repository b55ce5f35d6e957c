use Rattle.part_laws.proofs.Texts.{parts_answer_alike, parts_answer_truly}
use Rattle.part_laws.proofs.laws.parts_answer_for_the_whole.Goals as goal

pub returns-clause-alike : goal.returns-clause-alike
returns-clause-alike c =
    parts_answer_alike c.texts_are_distinct.ensures c.width_is_one.ensures.one c.nodes_are_decided.ensures c.refinement_is_local.ensures.closed
    c.verdict_is_one.ensures.one c.verdict_is_one.ensures.some

pub returns-clause-truly : goal.returns-clause-truly
returns-clause-truly c =
    parts_answer_truly c.texts_are_distinct.ensures c.width_is_one.ensures.one c.nodes_are_decided.ensures c.refinement_is_true.ensures.whole c.sure_is_true.ensures.sure
