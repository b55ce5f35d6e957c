-- The text of a term: its canonical spelling in N-Triples (section 4), but that the characters of an IRI and of a label stand as
-- they are, also those that N-Triples does not allow there.
use Rattle.std.specs.Prelude.{ℕ, List, [], ◌++◌, ◌==◌, if◌then◌else◌, Option, Some, None, codes, nat_eq, encode_utf8, encode_utf8_all}
use Rattle.std.specs.List.{starts_with, flat_map}
use Rattle.std.specs.Fmt.{decimal}
use Rattle.rdf_terms.specs.Literals.{LiteralParts}
use Rattle.rdf_terms.specs.Vocabulary.{xsd_string}
use Rattle.rdf_terms.specs.Texts.{same_text}
use Rattle.rdf_terms.specs.declared.terms.Name.{Name}
use Rattle.rdf_terms.specs.declared.terms.Name.TheVariants.{Label, Fresh}
use Rattle.rdf_terms.specs.declared.terms.Term.{Term}
use Rattle.rdf_terms.specs.declared.terms.Term.TheVariants.{Iri, Blank, Lit}

-- an IRI in angle brackets (N-Triples, section 2.2)
abbrev pub iri_text : List ℕ → List ℕ
iri_text iri = codes "<" ++ (encode_utf8_all iri ++ codes ">")

-- the printed name of a blank node, without `_:`: the n-th anonymous node is anonN, and a label that begins with anon
-- has anon_ before it, so that no two nodes share a name
abbrev pub printed_name : Name → List ℕ
printed_name (Label label) = (if starts_with nat_eq label (codes "anon") then codes "anon_" else []) ++ encode_utf8_all label
printed_name (Fresh n) = codes "anon" ++ decimal n

-- a character of a quoted string: quote, backslash, line feed and carriage return are escaped (N-Triples, section 2.3)
abbrev pub escaped : ℕ → List ℕ
escaped c =
    if c == 34 then codes "\\\""
    else if c == 92 then codes "\\\\"
    else if c == 10 then codes "\\n"
    else if c == 13 then codes "\\r"
    else encode_utf8 c

-- what follows the quoted string: the tag, or the datatype unless it is xsd:string
abbrev pub suffix_text : LiteralParts → Option (List ℕ) → List ℕ
suffix_text l (Some tag) = codes "@" ++ encode_utf8_all tag
suffix_text l None = if same_text l.datatype xsd_string then [] else codes "^^" ++ iri_text l.datatype

-- a literal (N-Triples, section 2.3)
abbrev pub literal_text : LiteralParts → List ℕ
literal_text l = codes "\"" ++ (flat_map escaped l.lex ++ (codes "\"" ++ suffix_text l l.lang))

-- the text of a term (N-Triples, section 2)
abbrev pub term_text : Term → List ℕ
term_text (Iri iri) = iri_text iri
term_text (Blank name) = codes "_:" ++ printed_name name
term_text (Lit literal) = literal_text literal
