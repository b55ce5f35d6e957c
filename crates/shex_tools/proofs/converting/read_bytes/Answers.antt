use Rattle.std.proofs.Common.{subst, sym}
use Rattle.std.proofs.lemmas.Result.{err_from_is_err_and}
use Rattle.std.specs.Prelude.{IfErr}
use Rattle.schema_reader.specs.Documents.{AreNone}
use Rattle.shex_tools.proofs.Spelled.{compact_none, json_none}
use Rattle.shex_tools.proofs.converting.read_bytes.Goals as goal

pub returns-in_err-parsed-in-Compact-clause-none : goal.returns-in_err-parsed-in-Compact-clause-none
returns-in_err-parsed-in-Compact-clause-none c =
    let p = err_from_is_err_and c.from_residual.result c.from_residual.ensures.1 in
    let e = c.in_err-parsed-in-Compact.field-0.0 in
    rw (p.1, p.2) (subst (λ f. AreNone f c.args.base.now c.args.source.now e) (sym c.in-Compact.is) (compact_none c.args.base.now c.args.source.now e c.in_err-parsed-in-Compact.ensures.complete))

pub returns-in-Json-clause-none : goal.returns-in-Json-clause-none
returns-in-Json-clause-none c =
    subst (λ f. IfErr c.read-in-Json.result (AreNone f c.args.base.now c.args.source.now)) (sym c.in-Json.is)
    (json_none c.args.base.now c.args.source.now c.read-in-Json.result c.refused_are_none.ensures c.read-in-Json.ensures.cause)
