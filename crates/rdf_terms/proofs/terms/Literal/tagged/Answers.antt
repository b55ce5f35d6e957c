use Rattle.std.proofs.Common.{◌≡◌, ℕ, List, Some, ap, sym, ◌∙◌, subst, refl, map, string_bytes, true}
use Rattle.std.proofs.lemmas.Str.{chars-IsAscii, encodes-chars, IsUtf8-string_bytes}
use Rattle.std.specs.Char.{to_ascii_lowercase}
use Rattle.std.specs.Str.{chars, IsUtf8}
use Rattle.rdf_terms.specs.Literals.{is_lowered}
use Rattle.rdf_terms.specs.Vocabulary.{rdf_lang_string}
use Rattle.rdf_terms.proofs.Characters.{lowered, lowered_chars, ascii_codes}
use Rattle.rdf_terms.proofs.terms.Literal.tagged.Goals as goal

tag_is : (tag bytes text : List ℕ) → IsUtf8 tag → IsUtf8 bytes → bytes ≡ map to_ascii_lowercase tag → text ≡ chars bytes → text ≡ map to_ascii_lowercase (chars tag)
tag_is tag bytes text utf8 new e is =
    is ∙ ap chars e ∙ lowered_chars tag (chars tag) (subst IsUtf8 e new) (encodes-chars tag utf8)

string_chars : chars rdf_lang_string ≡ rdf_lang_string
string_chars = chars-IsAscii rdf_lang_string (ascii_codes rdf_lang_string refl)

pub invariant_of-result : goal.invariant_of-result
invariant_of-result c =
    let tag : c.from_string.result ≡ map to_ascii_lowercase (chars c.args.tag.now) =
    tag_is c.args.tag.now (string_bytes c.make_ascii_lowercase.new.self) c.from_string.result c.utf8.tag (IsUtf8-string_bytes c.make_ascii_lowercase.new.self)
    (c.make_ascii_lowercase.ensures.bytes ∙ ap (map to_ascii_lowercase) c.in_ok-lowered.ensures.ok) c.from_string.ensures in
    record {
      tagged = (λ some. c.in_ok-datatype.ensures ∙ string_chars, λ e. refl);
      lowered = subst (λ t. is_lowered t ≡ true) (sym tag) (lowered (chars c.args.tag.now));
    }

pub returns : goal.returns
returns c =
    let tag : c.from_string.result ≡ map to_ascii_lowercase (chars c.args.tag.now) =
    tag_is c.args.tag.now (string_bytes c.make_ascii_lowercase.new.self) c.from_string.result c.utf8.tag (IsUtf8-string_bytes c.make_ascii_lowercase.new.self)
    (c.make_ascii_lowercase.ensures.bytes ∙ ap (map to_ascii_lowercase) c.in_ok-lowered.ensures.ok) c.from_string.ensures in
    λ i. record { lex = c.args.lex; datatype = (c.in_ok-datatype.ensures ∙ string_chars) i; lang = Some (tag i) }
