use Rattle.std.proofs.Common.{◌∙◌}
use Rattle.rdf_cursor.specs.Cursors.{ahead}
use Rattle.shexc_reader.proofs.Endings.{found_from, ok_from, err_from, cause_from}
use Rattle.shexc_reader.proofs.reader.read_text.Goals as goal

pub returns-in-Ok-document-clause-found : goal.returns-in-Ok-document-clause-found
returns-in-Ok-document-clause-found c =
    found_from c.args.base.now c.args.text.now c.utf8.text _ c.new-c.ensures.ahead _ c.in-Ok.ensures _ (ahead c.document.new.c) _ c.in-Ok-document.ensures.gives c.into_parsed.ensures.parsed

pub returns-in-Ok-document-clause-complete : goal.returns-in-Ok-document-clause-complete
returns-in-Ok-document-clause-complete c = λ x doc.
    ok_from c.args.base.now c.args.text.now c.utf8.text _ c.new-c.ensures.ahead _ c.in-Ok.ensures _ x (ahead c.document.new.c) _ c.in-Ok-document.ensures.gives c.into_parsed.ensures.parsed doc

pub returns-in-Err-clause-complete : goal.returns-in-Err-clause-complete
returns-in-Err-clause-complete c = λ x doc.
    err_from c.args.base.now c.args.text.now c.utf8.text _ c.new-c.ensures.ahead _ c.in-Ok.ensures x c.in-Err.stop _ _ (ahead c.document.new.c) doc c.in-Err.ensures.gives c.error.ensures

pub returns-in-Err-clause-refused : goal.returns-in-Err-clause-refused
returns-in-Err-clause-refused c =
    cause_from c.args.base.now c.args.text.now c.utf8.text _ c.new-c.ensures.ahead _ c.in-Ok.ensures c.in-Err.stop _ _ (ahead c.document.new.c) _ c.in-Err.ensures.gives (c.in-Err.ensures.source
    ∙ c.new-c.ensures.source) c.place.ensures c.error.ensures
