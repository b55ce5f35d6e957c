use Rattle.std.proofs.Common.{sym, ◌∙◌}
use Rattle.rdf_terms.proofs.TermReading.{tag_read, tag_missed}
use Rattle.rdf_terms.proofs.reader.with_tag.Goals as goal

pub returns-in_ok-tagged : goal.returns-in_ok-tagged
returns-in_ok-tagged c = tag_read c.args.lex c.args.tag.now c.in_ok-tagged.field-0 c.requires c.utf8.tag (sym c.is_lower_case.ensures ∙ c.if-is_lower_case.true) c.in_ok-tagged.ensures

pub returns-else-is_lower_case : goal.returns-else-is_lower_case
returns-else-is_lower_case c = tag_missed c.args.lex c.args.tag.now (sym c.is_lower_case.ensures ∙ c.if-is_lower_case.false)
