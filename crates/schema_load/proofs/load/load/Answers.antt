use Rattle.std.proofs.Common.{map, subst, OnOk}
use Rattle.std.proofs.lemmas.Result.{err_from_is_err_and}
use Rattle.lists.specs.Additions.{AddsAll}
use Rattle.schema_documents.specs.Tree.{document_of}
use Rattle.schema_load.specs.Parts.{predicates_of}
use Rattle.schema_load.proofs.Exact.{exactly_any, exactly_err, loaded_any}
use Rattle.schema_load.proofs.load.load.Goals as goal

pub returns-clause-loaded : goal.returns-clause-loaded
returns-clause-loaded c =
    loaded_any (map document_of c.args.docs.items) c.schema_in.new.terms c.schema_in.result c.requires.ordered (c.schema_in.ensures.stands (map document_of c.args.docs.items) c.in_ok-surveyed.ensures.parts)

pub returns-clause-exactly : goal.returns-clause-exactly
returns-clause-exactly c = λ e refused.
    exactly_any (map document_of c.args.docs.items) c.args.terms.now c.schema_in.new.terms c.schema_in.result e (c.schema_in.ensures.stands (map document_of c.args.docs.items) c.in_ok-surveyed.ensures.parts)
    (subst (λ ps. OnOk c.schema_in.result (AddsAll c.args.terms.now (predicates_of ps) c.schema_in.new.terms)) c.in_ok-surveyed.ensures.parts c.schema_in.ensures.added) c.schema_in.ensures.few (c.schema_in.ensures.refused (map document_of c.args.docs.items) c.in_ok-surveyed.ensures.parts) refused

pub returns-in_err-surveyed-clause-refused : goal.returns-in_err-surveyed-clause-refused
returns-in_err-surveyed-clause-refused c =
    let p = err_from_is_err_and c.from_residual.result c.from_residual.ensures.1 in
    rw (p.1, p.2) (c.in_err-surveyed.ensures.refused c.args.terms.now)

pub returns-in_err-surveyed-clause-exactly : goal.returns-in_err-surveyed-clause-exactly
returns-in_err-surveyed-clause-exactly c = λ e refused.
    let p = err_from_is_err_and c.from_residual.result c.from_residual.ensures.1 in
    rw (p.1, p.2) (exactly_err (map document_of c.args.docs.items) c.args.terms.now c.in_err-surveyed.field-0.0 e (c.in_err-surveyed.ensures.refused c.args.terms.now) refused)
