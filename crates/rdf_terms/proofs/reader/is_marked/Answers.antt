use Rattle.std.proofs.Common.{codes}
use Rattle.std.proofs.lemmas.Str.Pattern.{starts_text}
use Rattle.rdf_terms.proofs.TermReading.{bare_printed, label_printed}
use Rattle.rdf_terms.proofs.reader.is_marked.Goals as goal

pub returns-then-not-begins_with_anon : goal.returns-then-not-begins_with_anon
returns-then-not-begins_with_anon c = bare_printed c.args.text.now c.args.label.now c.begins_with_anon.result c.utf8.text c.requires c.begins_with_anon.ensures c.if-not-begins_with_anon.true

pub returns-else-not-begins_with_anon : goal.returns-else-not-begins_with_anon
returns-else-not-begins_with_anon c =
    label_printed c.args.text.now c.args.label.now c.begins_with_anon.result c.starts_with.result c.utf8.text c.requires c.begins_with_anon.ensures c.if-not-begins_with_anon.false
    (starts_text c.starts_with.result (codes "anon_anon") c.args.text.now c.starts_with.ensures.cases)
