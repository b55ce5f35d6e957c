-- Datatypes of literals, and forms of numbers.
use Rattle.std.proofs.Common.{◌≡◌, ℕ, ◌+◌, Bool, true, false, ◌&&◌, List, [], ◌++◌, length, take, drop, nat_eq, refl, sym, ◌∙◌, ap, subst, arith, ◌==◌, encode_utf8_all, IsTrue, ◌↔◌}
use Rattle.std.proofs.lemmas.Bool.{and_parts}
use Rattle.std.proofs.lemmas.List.{drop_all, take-append-drop}
use Rattle.std.proofs.lemmas.Slice.Eq.{bytes_eq-Decides}
use Rattle.std.specs.List.{after_first, before_first, list_any, position_or_len, starts_with}
use Rattle.std.specs.Str.{bytes_eq}
use Rattle.xs_text.proofs.Names.{numeric_texts_are_decimals}
use Rattle.xs_text.specs.Datatype.{is_in_lexical_space, is_scientific, namespace, numeric_names}
use Rattle.xs_text.specs.Decimal.{is_decimal, is_integer}
use Rattle.rdf_terms.specs.Literals.{LiteralParts}
use Rattle.rdf_terms.specs.Sameness.{text_decides}
use Rattle.rdf_terms.specs.Texts.{same_text}
use Rattle.node_constraint.specs.Datatypes.{is_number, is_numeric, is_valid}

-- what begins with the namespace is it and the rest
begun : (iri n : List ℕ) → starts_with nat_eq iri n ≡ true → iri ≡ n ++ drop (length n) iri
begun iri n e =
    sym (take-append-drop (length n) iri)
    ∙ ap (λ f. f ++ drop (length n) iri) (sym ((bytes_eq-Decides n (take (length n) iri)).0 e))

not_begun : (iri n : List ℕ) (b : Bool) → starts_with nat_eq iri n ≡ b → ((rest : List ℕ) → iri ≡ n ++ rest → ⊥) → b ≡ false
not_begun iri n false e h = refl
not_begun iri n true e h = absurd (h (drop (length n) iri) (begun iri n e))

-- an IRI outside the namespace is that of no numeric datatype
pub outside : (iri : List ℕ) → ((rest : List ℕ) → iri ≡ namespace ++ rest → ⊥) → false ≡ is_numeric iri
outside iri h =
    ap (λ b. b && list_any (bytes_eq (drop (length namespace) iri)) numeric_names) (sym (not_begun iri namespace (starts_with nat_eq iri namespace) refl h))

-- the valid lexical forms of a numeric datatype are decimals
pub numeric_decimal : (iri lex : List ℕ) → is_numeric iri ≡ true → is_in_lexical_space iri lex ≡ true → is_decimal lex ≡ true
numeric_decimal iri lex numeric valid =
    let both = and_parts (starts_with nat_eq iri namespace) (list_any (bytes_eq (drop (length namespace) iri)) numeric_names) numeric in
    numeric_texts_are_decimals (drop (length namespace) iri) lex both.1
    (subst (λ z. is_in_lexical_space z lex ≡ true) (begun iri namespace both.0) valid)

-- without the letter there is no exponent
pub no_letter : (letter : ℕ) (text : List ℕ) → position_or_len (λ c. c == letter) text ≡ length text → false ≡ is_scientific letter text
no_letter letter text at =
    none (is_decimal (before_first (λ c. c == letter) text)) (after_first (λ c. c == letter) text)
    (drop_all (position_or_len (λ c. c == letter) text + 1) text (omega arith))
  where
    none : (b : Bool) (rest : List ℕ) → rest ≡ [] → false ≡ (b && is_integer rest)
    none true rest e = ap is_integer (sym e)
    none false rest e = refl

-- the parts around the letter
pub parts_told : (letter : ℕ) (text m e : List ℕ) (r : Bool) → r ≡ (is_decimal m && is_integer e) → m ≡ before_first (λ c. c == letter) text →
    e ≡ after_first (λ c. c == letter) text → r ≡ is_scientific letter text
parts_told letter text m e r told is_m is_e =
    told ∙ ap (λ z. is_decimal z && is_integer e) is_m ∙ ap (λ z. is_decimal (before_first (λ c. c == letter) text) && is_integer z) is_e

-- a literal that is a number has a decimal as its lexical form
pub decimal_form : (l : LiteralParts) (d : List ℕ) → is_number l ≡ true → d ≡ encode_utf8_all l.lex → is_decimal d ≡ true
decimal_form l d number is =
    let both = and_parts (is_numeric (encode_utf8_all l.datatype)) (is_valid l.datatype l.lex) number in
    ap is_decimal is ∙ numeric_decimal (encode_utf8_all l.datatype) (encode_utf8_all l.lex) both.0 both.1

-- a literal is of its own datatype where its lexical form is valid
pub literal_told : (o own l lex datatype : List ℕ) (e v : Bool) → o ≡ own → l ≡ lex → e ≡ same_text o datatype → e ≡ true → v ≡ is_valid datatype l →
    IsTrue v ↔ ((own ≡ datatype) × IsTrue (is_valid datatype lex))
literal_told o own l lex datatype e v is_own is_lex told holds valid =
    let same : own ≡ datatype = sym is_own ∙ (text_decides o datatype).0 (sym told ∙ holds) in
    let test : v ≡ is_valid datatype lex = valid ∙ ap (is_valid datatype) is_lex in
    (λ h. (same, sym test ∙ h), λ p. test ∙ p.1)
