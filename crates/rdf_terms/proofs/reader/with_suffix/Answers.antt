use Rattle.std.proofs.Common.{sym, ◌∙◌, length}
use Rattle.std.proofs.lemmas.Bool.{eqb-false}
use Rattle.rdf_terms.proofs.TermReading.{suffix_missed}
use Rattle.rdf_terms.proofs.reader.with_suffix.Goals as goal

pub returns-in-None : goal.returns-in-None
returns-in-None c = suffix_missed c.args.lex c.args.suffix.now (eqb-false (length c.args.suffix.now) 0 (sym c.is_empty.ensures
    ∙ c.if-is_empty.false)) c.in_default.ensures.cases c.in-None.ensures.cases
