use Rattle.std.proofs.Common.{ap, sym, ◌∙◌, refl, nat_eq, encode_utf8_all}
use Rattle.std.proofs.lemmas.Str.{encodes-IsAscii}
use Rattle.std.specs.Cmp.Lexicographic.{pointwise}
use Rattle.rdf_terms.specs.Vocabulary.{xsd_string}
use Rattle.rdf_terms.proofs.Characters.{ascii_codes}
use Rattle.rdf_terms.proofs.order.is_string.Goals as goal

pub returns : goal.returns
returns c =
    c.eq.ensures
    ∙ ap (λ z. pointwise nat_eq z xsd_string) c.as_str.ensures.bytes
    ∙ ap (λ z. pointwise nat_eq (encode_utf8_all c.args.datatype.now) z) (sym (encodes-IsAscii xsd_string (ascii_codes xsd_string refl)))
