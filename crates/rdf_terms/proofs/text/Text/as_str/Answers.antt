use Rattle.std.proofs.Common.{◌∙◌, ap, sym, encode_utf8_all, string_bytes}
use Rattle.std.proofs.lemmas.Str.{IsUtf8-string_bytes, encodes-chars, scalars-chars}
use Rattle.std.specs.Str.{all_scalars}
use Rattle.rdf_terms.proofs.text.Text.as_str.Goals as goal

pub returns-clause-bytes : goal.returns-clause-bytes
returns-clause-bytes c =
    c.as_str.ensures.value
    ∙ sym (encodes-chars (string_bytes c.self.inside.inner) (IsUtf8-string_bytes c.self.inside.inner))
    ∙ ap encode_utf8_all c.self.view_is

pub returns-clause-scalars : goal.returns-clause-scalars
returns-clause-scalars c =
    sym (ap all_scalars c.self.view_is) ∙ scalars-chars (string_bytes c.self.inside.inner) (IsUtf8-string_bytes c.self.inside.inner)
