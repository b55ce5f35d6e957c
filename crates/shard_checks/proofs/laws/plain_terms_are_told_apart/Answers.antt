use Rattle.shard_checks.proofs.Apart.{plain_told_apart}
use Rattle.shard_checks.proofs.laws.plain_terms_are_told_apart.Goals as goal

pub returns : goal.returns
returns c = plain_told_apart c.texts_are_distinct.ensures
