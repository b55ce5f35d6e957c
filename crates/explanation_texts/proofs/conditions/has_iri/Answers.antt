use Rattle.std.proofs.Common.{◌∙◌, ap, encode_utf8_all, sym}
use Rattle.std.proofs.lemmas.Str.{encodes-chars}
use Rattle.std.specs.Str.{chars}
use Rattle.explanation_texts.specs.Conditions.{has_datatype}
use Rattle.explanation_texts.proofs.Spelled.{same_by_bytes}
use Rattle.explanation_texts.proofs.conditions.has_iri.Goals as goal

pub returns-in-Lit : goal.returns-in-Lit
returns-in-Lit c =
    same_by_bytes c.in-Lit.literal.datatype (chars c.args.iri.now) c.as_str.result.now c.args.iri.now c.eq.result c.eq.ensures
    (c.as_str.ensures.bytes ∙ ap encode_utf8_all c.datatype.ensures) (sym (encodes-chars c.args.iri.now c.utf8.iri))
    ∙ sym (ap (has_datatype (chars c.args.iri.now)) c.in-Lit.is)
