-- The datatypes of floating-point numbers, as characters and as bytes.
use Rattle.std.proofs.Common.{◌≡◌, ◌∙◌, List, ℕ, Bool, ap, encode_utf8_all, refl}
use Rattle.std.proofs.lemmas.Str.{chars-IsAscii}
use Rattle.std.specs.Str.{bytes_eq, chars}
use Rattle.rdf_terms.specs.Texts.{same_text}
use Rattle.rdf_terms.specs.Vocabulary.{xsd_double, xsd_float}
use Rattle.rdf_terms.proofs.Characters.{ascii_codes}

pub float_chars : chars xsd_float ≡ xsd_float
float_chars = chars-IsAscii xsd_float (ascii_codes xsd_float refl)

pub double_chars : chars xsd_double ≡ xsd_double
double_chars = chars-IsAscii xsd_double (ascii_codes xsd_double refl)

-- two texts are compared by their bytes
pub same_by_bytes : (a b : List ℕ) (x y : List ℕ) (r : Bool) →
    r ≡ bytes_eq x y → x ≡ encode_utf8_all a → y ≡ encode_utf8_all b → r ≡ same_text a b
same_by_bytes a b x y r h p q = h ∙ ap (λ z. bytes_eq z y) p ∙ ap (bytes_eq (encode_utf8_all a)) q
