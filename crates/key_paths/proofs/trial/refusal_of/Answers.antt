use Rattle.std.proofs.Common.{◌≢◌, rules, subst}
use Rattle.serde_json.specs.View.{view}
use Rattle.schema_documents.specs.Tree.{document_of}
use Rattle.schema_documents.specs.declared.error.SchemaError.TheVariants.{Memory}
use Rattle.shexj_reader.specs.Bytes.{IsCause, IsDocumentText}
use Rattle.key_paths.proofs.Trials.{document_there, fault_there}
use Rattle.key_paths.proofs.trial.refusal_of.Goals as goal

pub returns-in-Ok : goal.returns-in-Ok
returns-in-Ok c =
    let doc = document_of c.in-Ok.field-0 in
    document_there doc c.in_ok-text.text.items (view c.args.value.now) (c.in_ok-text.ensures.reads_back c.requires) (subst (IsDocumentText doc) c.as_slice.ensures.value c.in-Ok.ensures.sound)

pub returns : goal.returns
returns c =
    let known : c.in-Err.error ≢ Memory = search rules in
    fault_there c.in_ok-text.text.items (view c.args.value.now) c.in-Err.error (c.in_ok-text.ensures.reads_back c.requires) c.in_ok-text.ensures.utf8 known
    (subst (λ bytes. IsCause bytes c.in-Err.error) c.as_slice.ensures.value c.in-Err.ensures.cause)
