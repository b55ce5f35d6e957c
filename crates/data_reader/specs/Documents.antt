-- What the bytes of data are, by their format.
use Rattle.std.specs.Prelude.{◌≡◌, ℕ, List, Option, None, Contains}
use Rattle.graph_index.specs.declared.loading.TermTriple.{TermTriple}
use Rattle.rdf_lex.specs.declared.prefixes.Prefixes.{Prefixes}
use Rattle.graph_index.specs.Loading.{HaveOneLine}
use Rattle.rdf_terms.specs.OneLine.{IsOneLine}
use Rattle.rdf_lex.specs.Prefixes.{AreOneLine, base_of, iri_under}
use Rattle.nt_reader.specs.Grammar as ntriples
use Rattle.turtle_reader.specs.Documents as turtle
use Rattle.turtle_reader.specs.States.{DocumentScope}
use Rattle.data_reader.specs.declared.format.Format.{Format}
use Rattle.data_reader.specs.declared.format.Format.TheVariants.{NTriples, Turtle}

-- a base, and the IRI of each prefix, as bytes (RDF 1.1 Turtle, section 2.4)
pub record Context : Type 0 where
  pub base : List ℕ
  pub prefixes : List ℕ → Option (List ℕ)

-- this base, and no prefix
abbrev pub bare : List ℕ → Context
bare base = record { base = base; prefixes = λ prefix. None }

-- the base and the prefixes of a scope
abbrev pub context_in : DocumentScope → Context
context_in scope = record { base = scope.base; prefixes = scope.prefixes }

-- what the code holds
abbrev pub context_of : Prefixes → Context
context_of p = record { base = base_of p; prefixes = iri_under p }

-- under this base the bytes are a document within the limits, with these base and prefixes at its end and these triples
-- (RDF 1.1 N-Triples, section 7; RDF 1.1 Turtle, section 6.5)
abbrev pub IsData : Format → List ℕ → Context × List TermTriple → List ℕ → Type 0
IsData NTriples base (last, triples) bytes = (bare base ≡ last) × ntriples.IsDocument bytes triples
IsData Turtle base (last, triples) bytes = (scope : DocumentScope) × (context_in scope ≡ last) × turtle.IsDocument base bytes (scope, triples)

-- under a base on one line each term of data can stand on one line, and so are the base and the IRIs of the prefixes at the end of the data
-- (RDF 1.1 N-Triples, section 7; RDF 1.1 Turtle, sections 6.5 and 7; RDF 1.1 Concepts, section 3.3)
abbrev pub DataHaveLines : Type 0
DataHaveLines = (format : Format) (base bytes : List ℕ) (last : Context) (triples : List TermTriple) → IsOneLine base → IsData format base (last, triples) bytes
    → AreOneLine last.base last.prefixes × ((t : TermTriple) → Contains triples t → HaveOneLine t)
