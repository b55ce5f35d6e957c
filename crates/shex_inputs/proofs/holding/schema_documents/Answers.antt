use Rattle.std.proofs.Common.{List, map, subst}
use Rattle.std.proofs.lemmas.List.Elements.{recursion_from_All}
use Rattle.input_names.specs.Lent.{import_of}
use Rattle.input_names.specs.declared.inputs.Import.{Import}
use Rattle.input_names.specs.declared.inputs.Inputs.{Inputs}
use Rattle.schema_documents.specs.Ordered.{IsOrderedDocument}
use Rattle.schema_documents.specs.Tree.{document_of}
use Rattle.schema_files.specs.Named.{Asked}
use Rattle.schema_files.specs.Refusals.{Explains, FaultsAs}
use Rattle.schema_files.specs.Sources.{AreSources}
use Rattle.schema_load.proofs.OrderedParts.{ordered_parts}
use Rattle.shex_inputs.specs.Named.{inputs_with}
use Rattle.shex_inputs.proofs.Sources.{some_documents}
use Rattle.shex_inputs.proofs.Reading.{base_scheme, files_before_map, files_explain, files_faults, files_of_schema}
use Rattle.shex_inputs.proofs.holding.schema_documents.Goals as goal

-- what is asked with these words
abbrev asked_with : Inputs → List Import → Asked
asked_with inputs words = record { root = inputs.schema.now; base = inputs.schema_base.now; words = map import_of words }

pub read_documents-requires : goal.read_documents-requires
read_documents-requires g c = base_scheme c.args.inputs.now.schema_base.now c.requires

pub returns-in-Ok-clause-taken : goal.returns-in-Ok-clause-taken
returns-in-Ok-clause-taken g c = λ map_name.
    let (ss, are, held) = c.in-Ok.ensures.sources in
    let told = g.F.Files.told c.args.files.now in (
      ss,
      subst (λ ws. AreSources told (asked_with c.args.inputs.now ws) ss) c.as_slice-words.ensures.value are,
      held,
    )

pub returns-in-Ok-clause-root : goal.returns-in-Ok-clause-root
returns-in-Ok-clause-root g c =
    let (ss, are, held) = c.in-Ok.ensures.sources in
    some_documents (g.F.Files.told c.args.files.now) (asked_with c.args.inputs.now c.as_slice-words.result.now) c.in-Ok.documents ss are held

pub returns-in-Ok-clause-ordered : goal.returns-in-Ok-clause-ordered
returns-in-Ok-clause-ordered g c =
    let docs = map document_of c.in-Ok.documents.docs.items in
    ordered_parts docs (recursion_from_All IsOrderedDocument docs c.in-Ok.ensures.ordered)

pub returns-in-Err-clause-of_schema : goal.returns-in-Err-clause-of_schema
returns-in-Err-clause-of_schema g c = files_of_schema c.in-Err.error c.files_error.result c.files_error.ensures

pub returns-in-Err-clause-before_map : goal.returns-in-Err-clause-before_map
returns-in-Err-clause-before_map g c = files_before_map c.in-Err.error c.files_error.result c.files_error.ensures

pub returns-in-Err-clause-cause : goal.returns-in-Err-clause-cause
returns-in-Err-clause-cause g c = λ map_name.
    files_explain (g.F.Files.told c.args.files.now) (inputs_with c.args.inputs.now map_name) c.in-Err.error c.files_error.result
    (subst (λ ws. Explains (g.F.Files.told c.args.files.now) (asked_with c.args.inputs.now ws) c.in-Err.error) c.as_slice-words.ensures.value c.in-Err.ensures.cause) c.files_error.ensures

pub returns-in-Err-clause-faults : goal.returns-in-Err-clause-faults
returns-in-Err-clause-faults g c = λ map_name.
    let before = g.F.Files.faults c.args.files.now in
    let after = g.F.Files.faults c.read_documents.new.files in
    let blame = g.F.Files.blame c.read_documents.new.files in
    let act = g.F.Files.act c.read_documents.new.files in
    files_faults (inputs_with c.args.inputs.now map_name) before after blame act c.in-Err.error c.files_error.result
    (subst (λ ws. FaultsAs (asked_with c.args.inputs.now ws) before after blame act c.in-Err.error) c.as_slice-words.ensures.value c.in-Err.ensures.faults) c.files_error.ensures
