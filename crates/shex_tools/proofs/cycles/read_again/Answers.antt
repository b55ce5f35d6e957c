use Rattle.std.proofs.Common.{◌<◌, ◌∙◌, List, ap, length, map, subst, sym}
use Rattle.std.proofs.lemmas.List.Elements.{recursion_from_All}
use Rattle.input_names.specs.Lent.{import_of}
use Rattle.input_names.specs.declared.inputs.Import.{Import}
use Rattle.input_names.specs.declared.inputs.Inputs.{Inputs}
use Rattle.schema_documents.specs.Ordered.{IsOrderedDocument}
use Rattle.schema_documents.specs.Tree.{document_of}
use Rattle.schema_files.specs.Named.{Asked}
use Rattle.schema_files.specs.Refusals.{Explains, FaultsAs}
use Rattle.schema_files.specs.Sources.{AreSources}
use Rattle.schema_load.proofs.OrderedParts.{ordered_parts}
use Rattle.schema_load.specs.Parts.{AreOrdered}
use Rattle.schema_load.specs.Reading.{parts_of}
use Rattle.shex_inputs.proofs.Sources.{some_documents}
use Rattle.tool_words.specs.Lent.{explaining_of}
use Rattle.shex_tools.proofs.Rereading.{file_unshown, refused_still}
use Rattle.shex_tools.proofs.Stopped.{base_scheme}
use Rattle.shex_tools.proofs.cycles.read_again.Goals as goal

-- what is asked with these words
abbrev asked_with : Inputs → List Import → Asked
asked_with inputs words = record { root = inputs.schema.now; base = inputs.schema_base.now; words = map import_of words }

pub read_documents-requires : goal.read_documents-requires
read_documents-requires g c = base_scheme c.args.explaining.now.inputs.schema_base.now c.requires.0

pub returns-in-Ok-clause-read : goal.returns-in-Ok-clause-read
returns-in-Ok-clause-read g c =
    let (ss, are, held) = c.in-Ok.ensures.sources in
    let told = g.F.Files.told c.args.files.now in
    let x = c.args.explaining.now.inputs in (
      ss,
      subst (λ ws. AreSources told (asked_with x ws) ss) c.as_slice-words.ensures.value are,
      ap (map document_of) c.docs_of.ensures ∙ held.documents,
    )

pub returns-in-Ok-clause-root : goal.returns-in-Ok-clause-root
returns-in-Ok-clause-root g c =
    let (ss, are, held) = c.in-Ok.ensures.sources in
    subst (λ ds. 0 < length ds) (sym c.docs_of.ensures)
    (some_documents (g.F.Files.told c.args.files.now) (asked_with c.args.explaining.now.inputs c.as_slice-words.result.now) c.in-Ok.documents ss are held)

pub returns-in-Ok-clause-ordered : goal.returns-in-Ok-clause-ordered
returns-in-Ok-clause-ordered g c =
    let docs = map document_of c.in-Ok.documents.docs.items in
    subst (λ ds. AreOrdered (parts_of (map document_of ds))) (sym c.docs_of.ensures)
    (ordered_parts docs (recursion_from_All IsOrderedDocument docs c.in-Ok.ensures.ordered))

pub returns-in-Err-Refused-clause-faults_stay : goal.returns-in-Err-Refused-clause-faults_stay
returns-in-Err-Refused-clause-faults_stay g c =
    let f = c.read_documents.new.files in
    refused_still (asked_with c.args.explaining.now.inputs c.as_slice-words.result.now) _ _ (g.F.Files.blame f)
    (g.F.Files.act f) c.in-Err-Refused.field-0 _ c.in-Err-Refused.field-0-is c.in-Err-Refused.ensures.faults

pub returns-in-Err-Failed-clause-unshown : goal.returns-in-Err-Failed-clause-unshown
returns-in-Err-Failed-clause-unshown g c =
    let told = g.F.Files.told c.args.files.now in
    let e = explaining_of c.args.explaining.now in
    let x = c.args.explaining.now.inputs in
    let before = g.F.Files.faults c.args.files.now in
    let f = c.read_documents.new.files in
    let same = c.as_slice-words.ensures.value in
    let why = subst (λ ws. Explains told (asked_with x ws) c.in-Err-Failed.field-0) same c.in-Err-Failed.ensures.cause in
    let faults = subst (λ ws. FaultsAs (asked_with x ws) before (g.F.Files.faults f) (g.F.Files.blame f) (g.F.Files.act f) c.in-Err-Failed.field-0) same c.in-Err-Failed.ensures.faults in
    file_unshown told e before (g.F.Files.faults f) (g.F.Files.blame f) (g.F.Files.act f) c.in-Err-Failed.field-0 c.in-Err-Failed.file c.in-Err-Failed.field-0-is why faults
