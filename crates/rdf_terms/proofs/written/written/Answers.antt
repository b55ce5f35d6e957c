use Rattle.std.proofs.Common.{ap, ◌∙◌, drop}
use Rattle.std.specs.Str.{chars}
use Rattle.rdf_terms.proofs.Anonymous.{marked_label, bare_label}
use Rattle.rdf_terms.proofs.written.written.Goals as goal

pub returns-then-starts_with : goal.returns-then-starts_with
returns-then-starts_with c = ap chars c.range_from.ensures.value ∙ marked_label c.args.text.now (drop c.if-starts_with.ensures.cases.0 c.args.text.now) c.if-starts_with.ensures.cases.1.1

pub returns-else-starts_with : goal.returns-else-starts_with
returns-else-starts_with c = bare_label c.args.text.now c.utf8.text c.if-starts_with.ensures.cases
