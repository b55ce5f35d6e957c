use Rattle.rdf_lex.specs.Prefixes.{base_of}
use Rattle.term_tokens.proofs.Texts.{against, scheme_kept}
use Rattle.term_tokens.proofs.terms.against_base.Goals as goal

pub returns-in-Ok-clause-iri : goal.returns-in-Ok-clause-iri
returns-in-Ok-clause-iri c = against c.args.bounded _ _ _ _ _ c.utf8.reference c.base.ensures.base c.in-Ok.ensures.text c.limit.ensures.answer

pub returns-in-Ok-clause-scheme : goal.returns-in-Ok-clause-scheme
returns-in-Ok-clause-scheme c =
    scheme_kept _ _ c.args.reference.now c.base.result.now (base_of c.args.names.now.prefixes.now) c.base.ensures.base c.in-Ok.ensures.scheme c.args.names.now.absolute c.limit.ensures.same
