-- What a scheme in front of an IRI tells: the IRI is no blank label, and none of the words that type the objects of value sets.
use Rattle.std.proofs.Common.{◌≡◌, ℕ, Bool, true, false, true≢false, List, [], ◌∷◌, ◌++◌, codes, Option, Some, None, encode_utf8_all, refl, sym, ap, subst, ◌∙◌, arith, nat_eq}
use Rattle.std.specs.Prelude.{◌||◌, if◌then◌else◌}
use Rattle.std.specs.Char.{is_ascii_alphabetic}
use Rattle.std.specs.List.{list_all, list_any, starts_with}
use Rattle.std.specs.Str.{chars, bytes_eq, IsAscii}
use Rattle.std.proofs.Math.Utf8.{encode}
use Rattle.std.proofs.lemmas.Bool.{false≢true}
use Rattle.std.proofs.lemmas.Bool.Decides.{nat_tests}
use Rattle.std.proofs.lemmas.List.{append_assoc}
use Rattle.std.proofs.lemmas.List.Elements.{All-weaker}
use Rattle.std.proofs.lemmas.List.Sums.{AllPass-from_list_all}
use Rattle.std.proofs.lemmas.Str.{encodes-append, encodes-IsAscii, IsAscii-append}
use Rattle.std.proofs.lemmas.Str.Ascii.{IsAscii-nil, IsAscii-cons, IsAscii-from_all}
use Rattle.iri_resolve.specs.Reference.{is_scheme, is_scheme_byte}
use Rattle.iri_resolve.proofs.Unique.{both}
use Rattle.rdf_terms.proofs.Characters.{front_chars, ascii_codes, starts_not}
use Rattle.rdf_terms.specs.Vocabulary.{xsd_string, xsd_integer, xsd_decimal, xsd_double, xsd_boolean}
use Rattle.schema_documents.specs.declared.label.Label.TheVariants as Labels
use Rattle.serde_json.specs.Data.{string}
use Rattle.shexc_reader.proofs.Schemes.{IsLed, scheme_low}
use Rattle.shexj_reader.specs.Keys.{word}
use Rattle.shexj_reader.specs.Values.{IsOfLiteral, range_type, stem_type}
use Rattle.shexj_writer.specs.Expressible.{IsLabel}
use Rattle.shexj_writer.specs.Values.{datatype_data}

-- a text that begins with a scheme and `:` does so with more behind it
pub led_on : (text more : List ℕ) → IsLed text → IsLed (text ++ more)
led_on text more l = record {
  name = l.name;
  rest = l.rest ++ more;
  named = l.named;
  whole = ap (λ (t : List ℕ). t ++ more) l.whole ∙ append_assoc (l.name ++ codes ":") l.rest more;
}

-- a scheme is ASCII, so the characters of the text begin with it
front_low : (name : List ℕ) → is_scheme name ≡ true → IsAscii (name ++ codes ":")
front_low name e = IsAscii-append name (codes ":") (scheme_low name e) (ascii_codes (codes ":") refl)

chars_led : (text : List ℕ) (l : IsLed text) → chars text ≡ l.name ++ codes ":" ++ chars l.rest
chars_led text l = ap chars l.whole ∙ front_chars (l.name ++ codes ":") l.rest (front_low l.name l.named)

bytes_led : (text : List ℕ) (l : IsLed text) → encode_utf8_all (chars text) ≡ l.name ++ codes ":" ++ encode_utf8_all (chars l.rest)
bytes_led text l =
    let front = l.name ++ codes ":" in
    ap encode_utf8_all (chars_led text l) ∙ encodes-append front (chars l.rest) ∙ ap (λ (t : List ℕ). t ++ encode_utf8_all (chars l.rest)) (encodes-IsAscii front (front_low l.name l.named))

-- ---- labels

same_head : (x y : ℕ) (xs ys : List ℕ) → x ∷ xs ≡ y ∷ ys → x ≡ y
same_head x y xs ys e = cc

no_letter : (b : ℕ) → is_ascii_alphabetic b ≡ true → b ≡ 95 → ⊥
no_letter b e is = false≢true (subst (λ (n : ℕ). is_ascii_alphabetic n ≡ true) is e)

not_blank : (name rest : List ℕ) → is_scheme name ≡ true → starts_with nat_eq (name ++ codes ":" ++ rest) (codes "_:") ≡ false
not_blank [] rest e = absurd (false≢true e)
not_blank (b ∷ bs) rest e =
    let w = both (is_ascii_alphabetic b) (list_all is_scheme_byte bs) e in
    starts_not (b ∷ (bs ++ codes ":" ++ rest)) (codes "_:") (λ more same. no_letter b w.0 (same_head b 95 (bs ++ codes ":" ++ rest) (58 ∷ more) same))

pub label_led : (iri : List ℕ) → IsLed iri → IsLabel (Labels.Iri (chars iri))
label_led iri l = subst (λ (t : List ℕ). starts_with nat_eq t (codes "_:") ≡ false) (sym (chars_led iri l)) (not_blank l.name (chars l.rest) l.named)

-- ---- datatypes

abbrev has_colon : List ℕ → Bool
has_colon text = list_any (λ b. nat_eq b 58) text

or_later : (a b : Bool) → b ≡ true → (a || b) ≡ true
or_later true b e = refl
or_later false b e = e

colon_in : (name rest : List ℕ) → has_colon (name ++ codes ":" ++ rest) ≡ true
colon_in [] rest = refl
colon_in (b ∷ bs) rest = or_later (nat_eq b 58) (has_colon (bs ++ codes ":" ++ rest)) (colon_in bs rest)

apart : (bs name : List ℕ) → has_colon bs ≡ true → has_colon name ≡ false → Path (Option (List ℕ)) (Some bs) (Some name) → ⊥
apart bs name h none e = let same : bs ≡ name = cc in true≢false (sym h ∙ ap has_colon same ∙ none)

stem_plain : (kind : _) → has_colon (stem_type kind) ≡ false
stem_plain kind = grind arith

range_plain : (kind : _) → has_colon (range_type kind) ≡ false
range_plain kind = grind arith

-- a type with a colon is that of a literal
with_colon : (bs : List ℕ) → has_colon bs ≡ true → IsOfLiteral (Some bs)
with_colon bs h = record {
  no_stem = λ kind e. apart bs (stem_type kind) h (stem_plain kind) e;
  no_range = λ kind e. apart bs (range_type kind) h (range_plain kind) e;
  no_language = λ e. apart bs (codes "Language") h refl e;
  no_wildcard = λ e. apart bs (codes "Wildcard") h refl e;
}

pub without_type : IsOfLiteral None
without_type = record {
  no_stem = λ kind e. cc;
  no_range = λ kind e. cc;
  no_language = λ e. cc;
  no_wildcard = λ e. cc;
}

-- the type that is written for a datatype
abbrev pub IsWritten : List ℕ → Type 0
IsWritten datatype = IsOfLiteral (word (datatype_data None datatype))

written_at : (b : Bool) (bs : List ℕ) → has_colon bs ≡ true → IsOfLiteral (word (if b then None else Some (string bs)))
written_at true bs h = without_type
written_at false bs h = with_colon bs h

written_by : (datatype : List ℕ) → has_colon (encode_utf8_all datatype) ≡ true → IsWritten datatype
written_by datatype h = written_at (bytes_eq (encode_utf8_all datatype) xsd_string) (encode_utf8_all datatype) h

pub datatype_led : (iri : List ℕ) → IsLed iri → IsWritten (chars iri)
datatype_led iri l = written_by (chars iri) (ap has_colon (bytes_led iri l) ∙ colon_in l.name (encode_utf8_all (chars l.rest)))

pub string_written : IsWritten xsd_string
unfolding encode
string_written = without_type

pub integer_written : IsWritten xsd_integer
unfolding encode
integer_written = written_by xsd_integer refl

pub decimal_written : IsWritten xsd_decimal
unfolding encode
decimal_written = written_by xsd_decimal refl

pub double_written : IsWritten xsd_double
unfolding encode
double_written = written_by xsd_double refl

pub boolean_written : IsWritten xsd_boolean
unfolding encode
boolean_written = written_by xsd_boolean refl
