use Rattle.rdf_terms.proofs.TermReading.{literal_result, no_literal}
use Rattle.rdf_terms.proofs.reader.read_literal.Goals as goal

pub returns-in_default : goal.returns-in_default
returns-in_default c = no_literal c.args.text.now c.in_default.ensures.cases

pub returns-in-Some-2 : goal.returns-in-Some-2
returns-in-Some-2 c =
    literal_result c.args.text.now c.strip_prefix.result c.in-Some.quoted c.in_ok-lex.field-0 c.in-Some-2.lex c.in-Some-2.suffix c.with_suffix.result
    c.strip_prefix.ensures.cases c.in-Some.is c.in_ok-lex.ensures c.in-Some-2.is c.with_suffix.ensures
