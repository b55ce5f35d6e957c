use Rattle.std.proofs.Common.{◌∙◌, refl}
use Rattle.rdf_cursor.proofs.Numbers.{tag_is}
use Rattle.rdf_cursor.proofs.symbols.Symbol.is.Goals as goal

pub returns : goal.returns
returns c = c.eq.ensures ∙ rw (tag_is c.args.self, tag_is c.args.other) refl
