use Rattle.std.proofs.Common.{ap, encode_utf8_all, sym, ◌∙◌}
use Rattle.std.proofs.lemmas.Str.{chars-IsAscii, encodes-chars}
use Rattle.std.specs.Cmp.Lexicographic.{bytes_decides}
use Rattle.std.specs.Str.{chars}
use Rattle.rdf_terms.proofs.Characters.{ascii_codes}
use Rattle.node_constraint.proofs.datatypes.is_iri.Goals as goal

pub returns : goal.returns
returns c =
    let iri = c.args.iri.now in
    let own = chars-IsAscii iri (ascii_codes iri c.requires) in
    let told = bytes_decides c.as_str.result.now iri in (
      λ t. sym c.as_str.ensures.characters ∙ ap chars (told.0 (sym c.eq.ensures ∙ t)) ∙ own,
      λ e. c.eq.ensures ∙ told.1 (c.as_str.ensures.bytes ∙ ap encode_utf8_all (e ∙ sym own) ∙ encodes-chars iri c.utf8.iri),
    )
