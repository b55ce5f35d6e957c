use Rattle.std.proofs.lemmas.Iterator.{YieldsList-from_chars, items_from_collect}
use Rattle.std.proofs.lemmas.Str.{scalars-chars}
use Rattle.shexc_constraints.proofs.patterns.characters.Goals as goal

pub returns-clause-scalars : goal.returns-clause-scalars
returns-clause-scalars c = scalars-chars c.args.text.now c.utf8.text

pub returns-clause-items : goal.returns-clause-items
returns-clause-items c = items_from_collect c.collect.result c.collect.ensures.ran (YieldsList-from_chars c.args.text.now c.utf8.text cc)
