use Rattle.std.proofs.Common.{◌∙◌}
use Rattle.rdf_cursor.specs.Lent.{spelled}
use Rattle.shexc_constraints.proofs.Unescaping.{no_characters}
use Rattle.shexc_constraints.proofs.patterns.pattern.Goals as goal

pub returns : goal.returns
returns c = no_characters c.args.facets.now (spelled c.args.token) c.as_slice.result.now c.in-empty.len_below (c.as_slice.ensures.value ∙ c.in_ok-characters.ensures.items)
