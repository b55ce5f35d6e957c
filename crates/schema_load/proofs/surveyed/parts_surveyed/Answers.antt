use Rattle.std.proofs.Common.{map}
use Rattle.std.proofs.lemmas.Result.{err_from_is_err_and}
use Rattle.schema_documents.specs.Tree.{document_of}
use Rattle.schema_load.proofs.Fulfilled.{explained_any, fine_parts}
use Rattle.schema_load.proofs.surveyed.parts_surveyed.Goals as goal

pub survey_named-requires-clause-fine : goal.survey_named-requires-clause-fine
survey_named-requires-clause-fine c = fine_parts (map document_of c.args.docs.items) c.in_ok-parts.field-0.parts.items c.in_ok-parts.ensures.parts

pub returns-clause-refused : goal.returns-clause-refused
returns-clause-refused c =
    λ terms. explained_any (map document_of c.args.docs.items) c.in_ok-parts.field-0.parts.items terms c.survey_named.result c.in_ok-parts.ensures.parts (c.survey_named.ensures.refused terms)

pub returns-in_err-parts-clause-refused : goal.returns-in_err-parts-clause-refused
returns-in_err-parts-clause-refused c = λ terms.
    let p = err_from_is_err_and c.from_residual.result c.from_residual.ensures.1 in
    rw (p.1, p.2) (c.in_err-parts.ensures.refused terms)
