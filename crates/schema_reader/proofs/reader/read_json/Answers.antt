use Rattle.std.proofs.Common.{◌∙◌, ap, map}
use Rattle.std.proofs.lemmas.Result.{err_from_is_err_and}
use Rattle.schema_documents.specs.Tree.{document_of}
use Rattle.schema_reader.specs.Documents.{resolved_import}
use Rattle.schema_reader.proofs.Answered.{alone, based, json_complete, json_none}
use Rattle.schema_reader.proofs.reader.read_json.Goals as goal

pub returns-in_err-doc-clause-complete : goal.returns-in_err-doc-clause-complete
returns-in_err-doc-clause-complete c =
    let p = err_from_is_err_and c.from_residual.result c.from_residual.ensures.1 in
    rw (p.1, p.2) (λ r h. c.in_err-doc.ensures.complete h.0 h.1)

pub returns-in_err-doc-clause-none : goal.returns-in_err-doc-clause-none
returns-in_err-doc-clause-none c =
    let p = err_from_is_err_and c.from_residual.result c.from_residual.ensures.1 in
    rw (p.1, p.2) (json_none c.args.base.now c.args.source.now c.in_err-doc.field-0.0 c.refused_are_none.ensures c.in_err-doc.ensures.cause)

pub returns-clause-complete : goal.returns-clause-complete
returns-clause-complete c = λ r h.
    json_complete c.args.base.now (document_of c.in_ok-doc.doc) h.0
    (record { doc = record { imports = c.in_ok-imports.imports; start = c.in_ok-doc.doc.start; decls = c.in_ok-doc.doc.decls }; prefixes = c.in_ok-prefixes.prefixes }) r
    (based c.args.base.now (document_of c.in_ok-doc.doc) c.in_ok-imports.imports (c.in_ok-imports.ensures.iris ∙ ap (map (resolved_import c.args.base.now)) c.as_slice.ensures))
    (alone c.args.base.now c.in_ok-prefixes.prefixes c.in_ok-prefixes.ensures.base c.in_ok-prefixes.ensures.empty) (c.in_ok-doc.ensures.complete h.0 h.1) h.2 h.3
