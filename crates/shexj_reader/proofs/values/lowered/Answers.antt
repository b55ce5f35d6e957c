use Rattle.std.proofs.Common.{◌≡◌, List, ℕ, ap, subst, ◌∙◌, map, string_bytes}
use Rattle.std.proofs.lemmas.Str.{IsUtf8-string_bytes, encodes-chars}
use Rattle.std.specs.Char.{to_ascii_lowercase}
use Rattle.std.specs.Str.{chars, IsUtf8}
use Rattle.rdf_terms.proofs.Characters.{lowered_chars}
use Rattle.shexj_reader.proofs.values.lowered.Goals as goal

-- the characters of the lowered bytes
lowered_is : (text bytes : List ℕ) → IsUtf8 text → IsUtf8 bytes → bytes ≡ map to_ascii_lowercase text → chars bytes ≡ map to_ascii_lowercase (chars text)
lowered_is text bytes utf8 new e = ap chars e ∙ lowered_chars text (chars text) (subst IsUtf8 e new) (encodes-chars text utf8)

pub returns : goal.returns
returns c =
    c.from_string.ensures
    ∙ lowered_is c.args.text.now (string_bytes c.make_ascii_lowercase.new.self) c.utf8.text (IsUtf8-string_bytes c.make_ascii_lowercase.new.self)
    (c.make_ascii_lowercase.ensures.bytes ∙ ap (map to_ascii_lowercase) c.in_ok-own.ensures.ok)
