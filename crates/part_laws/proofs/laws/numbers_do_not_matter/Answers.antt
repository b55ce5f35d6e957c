use Rattle.part_laws.proofs.Numbered.{numbers_do_not_matter}
use Rattle.part_laws.proofs.laws.numbers_do_not_matter.Goals as goal

pub returns : goal.returns
returns c = numbers_do_not_matter c.texts_are_distinct.ensures c.width_is_one.ensures.one c.nodes_are_decided.ensures
