use Rattle.value_sets.proofs.Deciding.{term_told}
use Rattle.value_sets.proofs.value.is_same.Goals as goal

pub returns : goal.returns
returns c = term_told c.args.value.now c.args.term.now c.eq.result c.eq.ensures
