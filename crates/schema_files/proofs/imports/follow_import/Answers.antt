use Rattle.std.proofs.Common.{◌+◌, ◌∙◌, ap, encode_utf8_all, get_or, subst, sym}
use Rattle.schema_files.specs.Held.{AreFollowed, ComesTo, IsFollowed, and_next, asked_of, imports_before, sources_of}
use Rattle.schema_files.proofs.Steps.{comes_here, followed_here, number_inside}
use Rattle.schema_files.proofs.imports.follow_import.Goals as goal

pub import-iri-requires : goal.import-iri-requires
import-iri-requires g c =
    number_inside (asked_of c.args.asked.now) c.args.held.now.items c.args.at c.index-documents-at.result c.requires.inside
    (c.index-documents-at.is ∙ ap (λ hs. get_or hs c.args.at c.index-documents-at.result) c.as_slice-documents.ensures.value) c.args.number c.requires.number

pub read_import-requires-clause-next : goal.read_import-requires-clause-next
read_import-requires-clause-next g c =
    let a = asked_of c.args.asked.now in
    subst (λ hs. ComesTo a (sources_of a hs) (record { by = c.index-documents-at.result.file; iri = encode_utf8_all c.import-iri.result.now })) (sym c.as_slice-documents.ensures.value)
    (comes_here a c.args.held.now.items c.args.at c.index-documents-at.result c.requires.inside
    (c.index-documents-at.is
    ∙ ap (λ hs. get_or hs c.args.at c.index-documents-at.result) c.as_slice-documents.ensures.value) c.args.number c.requires.number c.import-iri.result.now c.import-iri.ensures.iri c.requires.followed)

pub returns-clause-followed : goal.returns-clause-followed
returns-clause-followed g c =
    let a = asked_of c.args.asked.now in
    subst (λ hs. AreFollowed a (sources_of a hs) (imports_before (sources_of a hs) c.args.at (c.args.number + 1))) (sym c.in_ok-add.ensures)
    (followed_here a c.args.held.now.items c.args.at c.index-documents-at.result c.requires.inside
    (c.index-documents-at.is
    ∙ ap (λ hs. get_or hs c.args.at c.index-documents-at.result) c.as_slice-documents.ensures.value) c.args.number c.requires.number c.import-iri.result.now c.import-iri.ensures.iri c.requires.followed
    c.in_ok-next.next (subst (λ hs. IsFollowed c.args.asked.now (and_next hs c.in_ok-next.next) (encode_utf8_all c.import-iri.result.now)) c.as_slice-documents.ensures.value c.in_ok-next.ensures.followed))
