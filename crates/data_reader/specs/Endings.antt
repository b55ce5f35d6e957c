-- What the answers of the reader say of the bytes, of the table and of the graph.
use Rattle.std.specs.Prelude.{◌≡◌, ℕ, List, Result, Ok, Err}
use Rattle.graph_index.specs.declared.read_error.ReadError.{ReadError}
use Rattle.graph_index.specs.declared.read_error.ReadError.TheVariants as error
use Rattle.graph_index.specs.declared.loading.TermTriple.{TermTriple}
use Rattle.graph_index.specs.Loading.{Loads}
use Rattle.rdf_lex.specs.declared.prefixes.Prefixes.{Prefixes}
use Rattle.rdf_terms.specs.declared.terms.Term.{Term}
use Rattle.rdf_terms.specs.declared.terms.Triple.{Triple}
use Rattle.nt_reader.specs.Endings as ntriples
use Rattle.turtle_reader.specs.Documents as turtle
use Rattle.data_reader.specs.declared.format.Format.{Format}
use Rattle.data_reader.specs.declared.format.Format.TheVariants.{NTriples, Turtle}
use Rattle.data_reader.specs.Documents.{Context, IsData, context_of}

-- what was read: the document that the bytes are, with these base and prefixes at its end, and its triples in the table and
-- the graph
pub record IsRead (format : Format) (base bytes : List ℕ) (p : Prefixes) (terms : List Term) (graph : List Triple) (new_terms : List Term) (new_graph : List Triple) : Type 0 where
  pub triples : List TermTriple
  pub spelled : IsData format base (context_of p, triples) bytes
  pub loaded : Loads terms graph triples new_terms new_graph

-- the table and the graph became these, and the base and the prefixes are those of the document; or memory ran out
abbrev pub ReadsTo : Result Prefixes ReadError → Context → List Term → List Triple → List Term → List Triple → Type 0
ReadsTo (Ok p) last wanted_terms wanted_graph terms graph = (context_of p ≡ last) × (terms ≡ wanted_terms) × (graph ≡ wanted_graph)
ReadsTo (Err e) last wanted_terms wanted_graph terms graph = e ≡ error.Memory

-- what has to be there for each refusal, by the format
abbrev pub Explains : Format → List ℕ → ReadError → List ℕ → List Term → List Triple → Type 0
Explains NTriples base e bytes terms graph = ntriples.Explains e bytes terms graph
Explains Turtle base e bytes terms graph = turtle.Explains base e bytes terms graph

-- bytes are, in one format and under one base, one document at most
abbrev pub DataAreOne : Type 0
DataAreOne = (format : Format) (base bytes : List ℕ) (a b : Context × List TermTriple) → IsData format base a bytes → IsData format base b bytes → a ≡ b
