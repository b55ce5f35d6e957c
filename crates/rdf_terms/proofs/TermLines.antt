-- Terms that can stand on one line: they have a text of their own, and no line feed in it.
use Rattle.std.proofs.Common.{◌≡◌, ◌≢◌, ℕ, ◌+◌, ◌≤◌, Bool, true, false, cond, not, nat_eq, ◌==◌, List, [], ◌∷◌, ◌++◌, encode_utf8, encode_utf8_all, flat_map, map, codes, decimal, Option, Some, None, refl, sym, ◌∙◌, arith, true≢false}
use Rattle.std.specs.Char.{to_ascii_lowercase}
use Rattle.std.specs.Prelude.{ltb, ◌↔◌, IsSome}
use Rattle.std.specs.Cmp.Lexicographic.{bytes_decides}
use Rattle.std.specs.List.{list_all, starts_with}
use Rattle.std.specs.Str.{bytes_eq}
use Rattle.std.specs.Str.Parse.{AllDigits}
use Rattle.std.proofs.lemmas.Bool.{ne_eqb}
use Rattle.std.proofs.lemmas.Fmt.{decimal_is_IsNumeral}
use Rattle.std.proofs.lemmas.Str.Parse.{tells_digits}
use Rattle.rdf_terms.specs.Literals.{LiteralParts, IsLowered}
use Rattle.rdf_terms.specs.Vocabulary.{rdf_lang_string, xsd_string}
use Rattle.rdf_terms.specs.Sameness.{text_decides}
use Rattle.rdf_terms.specs.Texts.{same_text}
use Rattle.rdf_terms.specs.Written.{iri_text, escaped, suffix_text, literal_text, term_text, printed_name}
use Rattle.rdf_terms.specs.declared.terms.Name.{Name}
use Rattle.rdf_terms.specs.declared.terms.Name.TheVariants.{Label, Fresh}
use Rattle.rdf_terms.specs.declared.terms.Term.{Term}
use Rattle.rdf_terms.specs.declared.terms.Term.TheVariants.{Iri, Blank, Lit}
use Rattle.rdf_terms.specs.Values.{IsWhole}
use Rattle.rdf_terms.specs.OneLine.{HasOneLine}
use Rattle.rdf_terms.proofs.Characters.{lowered}
use Rattle.rdf_terms.proofs.OneLine.{Plain, lacks_feed, plain_append, plain_encode, plain_encodes, plain_passing}

-- no text that is written as it is has a line feed, an anonymous node has a number from 1 on, and the parts of a literal go together
abbrev pub PlainName : Name → Type 0
PlainName (Label label) = Plain label
PlainName (Fresh n) = (1 ≤ n) × (n ≤ 4294967295)

abbrev pub PlainTag : Option (List ℕ) → Type 0
PlainTag None = Unit {0}
PlainTag (Some tag) = Plain tag

-- a datatype and a tag that stand behind a lexical form
pub record PlainSuffix (datatype : List ℕ) (lang : Option (List ℕ)) : Type 0 where
  pub tagged : IsSome lang ↔ (datatype ≡ rdf_lang_string)
  pub lowered : IsLowered lang
  pub plain : Plain datatype
  pub plain_tag : PlainTag lang

abbrev pub PlainTerm : Term → Type 0
PlainTerm (Iri iri) = Plain iri
PlainTerm (Blank name) = PlainName name
PlainTerm (Lit l) = PlainSuffix l.datatype l.lang

pub plain_written : (text : List ℕ) → list_all (λ c. not (nat_eq c 10)) text ≡ true → Plain text
plain_written text h = plain_passing (λ c. not (nat_eq c 10)) text refl h

plain_lang_string : Plain rdf_lang_string
plain_lang_string = plain_written rdf_lang_string refl

-- a datatype without a tag is another than rdf:langString
pub differs : (datatype : List ℕ) → same_text datatype rdf_lang_string ≡ false → datatype ≢ rdf_lang_string
differs datatype e same = true≢false (sym ((text_decides datatype rdf_lang_string).1 same) ∙ e)

known_differs : (datatype : List ℕ) → bytes_eq datatype rdf_lang_string ≡ false → datatype ≢ rdf_lang_string
known_differs datatype e same = true≢false (sym ((bytes_decides datatype rdf_lang_string).1 same) ∙ e)

pub untagged : (datatype : List ℕ) → datatype ≢ rdf_lang_string → Plain datatype → PlainSuffix datatype None
untagged datatype n h = record { tagged = (λ e. absurd (true≢false (sym e)), λ e. absurd (n e)); lowered = tt; plain = h; plain_tag = tt }

pub untagged_known : (datatype : List ℕ) → bytes_eq datatype rdf_lang_string ≡ false → list_all (λ c. not (nat_eq c 10)) datatype ≡ true → PlainSuffix datatype None
untagged_known datatype e h = untagged datatype (known_differs datatype e) (plain_written datatype h)

pub untagged_string : PlainSuffix xsd_string None
untagged_string = untagged_known xsd_string refl refl

pub plain_iri : (iri : List ℕ) → Plain iri → Plain (iri_text iri)
plain_iri iri h = plain_append (codes "<") (encode_utf8_all iri ++ codes ">") (refl, tt) (plain_append (encode_utf8_all iri) (codes ">") (plain_encodes iri h) (refl, tt))

escaped_by : (c : ℕ) (a b d e : Bool) → nat_eq c 10 ≡ d → Plain (cond a (codes "\\\"") (cond b (codes "\\\\") (cond d (codes "\\n") (cond e (codes "\\r") (encode_utf8 c)))))
escaped_by c true b d e h = (refl, (refl, tt))
escaped_by c false true d e h = (refl, (refl, tt))
escaped_by c false false true e h = (refl, (refl, tt))
escaped_by c false false false true h = (refl, (refl, tt))
escaped_by c false false false false h = plain_encode c h

pub plain_escaped : (cs : List ℕ) → Plain (flat_map escaped cs)
plain_escaped [] = tt
plain_escaped (c ∷ cs) = plain_append (escaped c) (flat_map escaped cs) (escaped_by c (c == 34) (c == 92) (c == 10) (c == 13) refl) (plain_escaped cs)

plain_suffix : (l : LiteralParts) (lang : Option (List ℕ)) → Plain l.datatype → PlainTag lang → Plain (suffix_text l lang)
plain_suffix l (Some tag) h k = plain_append (codes "@") (encode_utf8_all tag) (refl, tt) (plain_encodes tag k)
plain_suffix l None h k = by (same_text l.datatype xsd_string)
  where
    by : (b : Bool) → Plain (cond b [] (codes "^^" ++ iri_text l.datatype))
    by true = tt
    by false = plain_append (codes "^^") (iri_text l.datatype) (refl, (refl, tt)) (plain_iri l.datatype h)

plain_literal : (l : LiteralParts) → Plain l.datatype → PlainTag l.lang → Plain (literal_text l)
plain_literal l h k =
    plain_append (codes "\"") (flat_map escaped l.lex ++ (codes "\"" ++ suffix_text l l.lang)) (refl, tt)
    (plain_append (flat_map escaped l.lex) (codes "\"" ++ suffix_text l l.lang) (plain_escaped l.lex)
    (plain_append (codes "\"") (suffix_text l l.lang) (refl, tt) (plain_suffix l l.lang h k)))

plain_digits : (ds : List ℕ) → AllDigits 10 ds → Plain ds
plain_digits [] h = tt
plain_digits (c ∷ cs) h = let p = tells_digits.parts c cs h in (ne_eqb c 10 (λ e. absurd (omega (arith, p.0.0, e))), plain_digits cs p.1)

plain_name : (name : Name) → PlainName name → Plain (printed_name name)
plain_name (Label label) h = plain_append (cond (starts_with nat_eq label (codes "anon")) (codes "anon_") []) (encode_utf8_all label)
    (by (starts_with nat_eq label (codes "anon"))) (plain_encodes label h)
  where
    by : (b : Bool) → Plain (cond b (codes "anon_") [])
    by true = plain_written (codes "anon_") refl
    by false = tt
plain_name (Fresh n) (one, h) = plain_append (codes "anon") (decimal n) (plain_written (codes "anon") refl) (plain_digits (decimal n) (decimal_is_IsNumeral n (omega arith)).0.1)

plain_text : (t : Term) → PlainTerm t → Plain (term_text t)
plain_text (Iri iri) h = plain_iri iri h
plain_text (Blank name) h = plain_append (codes "_:") (printed_name name) (refl, (refl, tt)) (plain_name name h)
plain_text (Lit l) h = plain_literal l h.plain h.plain_tag

whole : (t : Term) → PlainTerm t → IsWhole t
whole (Iri iri) h = tt
whole (Blank (Label label)) h = tt
whole (Blank (Fresh n)) h = h.0
whole (Lit l) h = record { tagged = h.tagged; lowered = h.lowered }

pub has_line : (t : Term) → PlainTerm t → HasOneLine t
has_line t h = (whole t h, lacks_feed (term_text t) (plain_text t h))

-- a tag in lower case
lower_by : (c : ℕ) (a b : Bool) → nat_eq c 10 ≡ false → nat_eq (cond a c (cond b (c + 32) c)) 10 ≡ false
lower_by c true b h = h
lower_by c false true h = ne_eqb (c + 32) 10 (λ e. absurd (omega (arith, e)))
lower_by c false false h = h

plain_lowered : (cs : List ℕ) → Plain cs → Plain (map to_ascii_lowercase cs)
plain_lowered [] h = tt
plain_lowered (c ∷ cs) (e, h) = (lower_by c (ltb c 65) (ltb c 91) e, plain_lowered cs h)

pub tagged_lowered : (cs : List ℕ) → Plain cs → PlainSuffix rdf_lang_string (Some (map to_ascii_lowercase cs))
tagged_lowered cs h = record { tagged = (λ e. refl, λ e. refl); lowered = lowered cs; plain = plain_lang_string; plain_tag = plain_lowered cs h }
