-- What is to be read, and what makes a text the name of a file or a base.
use Rattle.std.specs.Prelude.{◌||◌, ◌&&◌, ℕ, Bool, List, codes, is_some, nat_eq}
use Rattle.std.specs.List.{ends_with, list_all, list_any}
use Rattle.std.specs.Str.{bytes_eq, chars}
use Rattle.iri_resolve.specs.Reference.{scheme_of}
use Rattle.rdf_lex.specs.Characters.{has, iri_char}

-- a name, an IRI or another text, as its bytes
abbrev pub Text : Type 0
Text = List ℕ

-- an IRI, and the file that holds the document which is imported by it
pub record Import : Type 0 where
  pub iri : Text
  pub file : Text

-- the files of a schema and of data, their bases, and the files of imported documents
pub record Inputs : Type 0 where
  pub schema : Text
  pub data_file : Text
  pub schema_base : Text
  pub data_base : Text
  pub imports : List Import

-- the text is one of these
abbrev pub is_among : Text → List Text → Bool
is_among text texts = list_any (λ other. bytes_eq other text) texts

-- the name of a schema file ends in `.shex` (ShExC), `.json` or `.shexj` (ShExJ)
unfoldable pub is_schema_name : Text → Bool
is_schema_name name = ends_with nat_eq name (codes ".shex") || (ends_with nat_eq name (codes ".json") || ends_with nat_eq name (codes ".shexj"))

-- the name of a data file ends in `.nt` (N-Triples) or `.ttl` (Turtle)
unfoldable pub is_data_name : Text → Bool
is_data_name name = ends_with nat_eq name (codes ".nt") || ends_with nat_eq name (codes ".ttl")

-- a base has a scheme (RFC 3986, section 3.1), and only characters that an IRI may have unescaped (RDF 1.1 Turtle, section 6.5, IRIREF)
unfoldable pub is_base : Text → Bool
is_base text = is_some (scheme_of text) && list_all (has iri_char) (chars text)
