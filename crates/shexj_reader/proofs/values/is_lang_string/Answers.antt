use Rattle.std.proofs.Common.{ap, sym, ◌∙◌, refl, encode_utf8_all}
use Rattle.std.proofs.lemmas.Str.{chars-IsAscii, encodes-IsAscii}
use Rattle.std.specs.Cmp.Lexicographic.{bytes_decides}
use Rattle.std.specs.Str.{IsAscii, chars}
use Rattle.rdf_terms.specs.Vocabulary.{rdf_lang_string}
use Rattle.rdf_terms.proofs.Characters.{ascii_codes}
use Rattle.shexj_reader.proofs.values.is_lang_string.Goals as goal

low : IsAscii rdf_lang_string
low = ascii_codes rdf_lang_string refl

pub returns : goal.returns
returns c = (
  λ h. sym c.as_str.ensures.characters ∙ ap chars ((bytes_decides c.as_str.result.now rdf_lang_string).0 (sym c.eq.ensures ∙ h)) ∙ chars-IsAscii rdf_lang_string low,
  λ e. c.eq.ensures ∙ (bytes_decides c.as_str.result.now rdf_lang_string).1 (c.as_str.ensures.bytes ∙ ap encode_utf8_all e ∙ encodes-IsAscii rdf_lang_string low),
)
