-- Datatypes of literals (ShEx 2.1, section 5.4, Datatype Constraints; XML Schema Part 2, version 1.1). Lexical spaces are stated over the bytes of texts.
use Rattle.std.specs.Prelude.{ℕ, Bool, ◌&&◌, IsTrue, List, length, drop, nat_eq, Option, Some, None, if◌then◌else◌, ◌≡◌, ⊤, encode_utf8_all}
use Rattle.std.specs.List.{list_any, starts_with}
use Rattle.std.specs.Str.{bytes_eq}
use Rattle.rdf_terms.specs.Literals.{LiteralParts}
use Rattle.rdf_terms.specs.declared.terms.Term.{Term}
use Rattle.rdf_terms.specs.declared.terms.Term.TheVariants as Terms
use Rattle.xs_text.specs.Datatype.{is_in_lexical_space, namespace, numeric_names}

-- the lexical form is in the lexical space of the datatype
abbrev pub is_valid : List ℕ → List ℕ → Bool
is_valid datatype lex = is_in_lexical_space (encode_utf8_all datatype) (encode_utf8_all lex)

-- the term is a literal of the datatype, and its lexical form is valid
abbrev pub IsOfDatatype : List ℕ → Term → Type 0
IsOfDatatype datatype (Terms.Lit literal) = (literal.datatype ≡ datatype) × IsTrue (is_valid datatype literal.lex)
IsOfDatatype datatype term = ⊥

-- the term is of the datatype, if one is asked for
abbrev pub IsOfDatatypeIfAny : Option (List ℕ) → Term → Type 0
IsOfDatatypeIfAny None term = ⊤
IsOfDatatypeIfAny (Some datatype) term = IsOfDatatype datatype term

-- the IRI is that of decimal, of integer or of a type derived from integer (XML Schema Part 2, sections 3.3.3 and 3.4.13 to 3.4.25)
abbrev pub is_numeric : List ℕ → Bool
is_numeric iri = starts_with nat_eq iri namespace && list_any (bytes_eq (drop (length namespace) iri)) numeric_names

-- the literal is of such a datatype, and its lexical form is valid
abbrev pub is_number : LiteralParts → Bool
is_number literal = is_numeric (encode_utf8_all literal.datatype) && is_valid literal.datatype literal.lex

-- the decimal text of a literal, if it is such a literal
abbrev pub decimal_in : LiteralParts → Option (List ℕ)
decimal_in literal = if is_number literal then Some (encode_utf8_all literal.lex) else None

-- the decimal text of a term, if it is such a literal
abbrev pub decimal_of : Term → Option (List ℕ)
decimal_of (Terms.Iri iri) = None
decimal_of (Terms.Blank name) = None
decimal_of (Terms.Lit literal) = decimal_in literal
