use Rattle.std.proofs.Common.{◌≡◌, ◌≤◌, ◌∙◌, ap, arith, rules, string_bytes, true}
use Rattle.std.proofs.lemmas.Bool.Decides.{nat_tests}
use Rattle.std.proofs.lemmas.Str.{IsUtf8-string_bytes}
use Rattle.std.specs.Prelude.{Some}
use Rattle.serde_json.specs.Data.{depth}
use Rattle.serde_json.specs.Read.{max_depth}
use Rattle.serde_json.specs.View.{view}
use Rattle.serde_json.specs.Written.{compact_text, has_float}
use Rattle.schema_documents.specs.Tree.{document_of}
use Rattle.shexj_reader.specs.Nesting.{document_nesting, max_nesting}
use Rattle.shexj_writer.specs.Documents.{document_data}
use Rattle.shexj_writer.specs.Whole.{is_whole_document}
use Rattle.shexj_writer.proofs.Exact.{document_exact}
use Rattle.shexj_writer.proofs.ReadBack.{text_back}
use Rattle.shexj_writer.proofs.writing.write.Goals as goal

pub returns-clause-text : goal.returns-clause-text
returns-clause-text c =
    let doc = document_of c.args.doc.now in
    let is : view c.in_ok-value.value ≡ document_data doc = c.in_ok-value.ensures.value in
    c.in_ok-text.ensures.text (ap has_float is ∙ document_exact doc) ∙ ap compact_text is

pub returns-clause-read_back : goal.returns-clause-read_back
returns-clause-read_back c =
    let doc = document_of c.args.doc.now in
    let is : view c.in_ok-value.value ≡ document_data doc = c.in_ok-value.ensures.value in
    let whole : is_whole_document doc ≡ true = search rules in
    let nests : document_nesting doc ≤ max_nesting = grind (arith, nat_tests) in
    let within : depth (view c.in_ok-value.value) ≤ max_depth = grind (arith, nat_tests) in
    λ expressible. text_back doc (string_bytes c.in_ok-text.text) (IsUtf8-string_bytes c.in_ok-text.text)
    (c.in_ok-text.ensures.reads_back within ∙ ap Some is) nests c.in_ok-value.ensures.held whole expressible
