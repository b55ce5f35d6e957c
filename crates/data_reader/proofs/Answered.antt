-- What the readers of the two formats answer, said of data.
use Rattle.std.proofs.Common.{◌≡◌, ◌∙◌, ℕ, List, refl, sym, Result, Ok, Err, None}
use Rattle.graph_index.specs.declared.read_error.ReadError.{ReadError}
use Rattle.graph_index.specs.declared.read_error.ReadError.TheVariants as error
use Rattle.rdf_lex.specs.declared.prefixes.Prefixes.{Prefixes}
use Rattle.rdf_lex.specs.Prefixes.{base_of, iri_under}
use Rattle.rdf_terms.specs.declared.terms.Term.{Term}
use Rattle.rdf_terms.specs.declared.terms.Triple.{Triple}
use Rattle.turtle_reader.specs.Documents as turtle
use Rattle.turtle_reader.specs.States.{DocumentScope}
use Rattle.data_reader.specs.Documents.{Context, bare, context_in, context_of}
use Rattle.data_reader.specs.Endings.{ReadsTo}

-- ---- Turtle

same_context : (p : Prefixes) (v : DocumentScope) → turtle.AreLast p v → context_in v ≡ context_of p
same_context p v last = λ i. record { base = sym last.base i; prefixes = sym last.prefixes i }

pub turtle_reads : (result : Result Prefixes ReadError) (v : DocumentScope) (last : Context) (wanted terms : List Term) (wanted_graph graph : List Triple) →
    context_in v ≡ last → turtle.ReadsTo result v wanted wanted_graph terms graph → ReadsTo result last wanted wanted_graph terms graph
turtle_reads (Ok p) v last wanted terms wanted_graph graph is (are, t, g) = (sym (same_context p v are) ∙ is, t, g)
turtle_reads (Err error.Memory) v last wanted terms wanted_graph graph is h = refl
turtle_reads (Err error.NotUtf8) v last wanted terms wanted_graph graph is h = absurd h
turtle_reads (Err (error.Syntax at)) v last wanted terms wanted_graph graph is h = absurd h
turtle_reads (Err (error.Prefix at)) v last wanted terms wanted_graph graph is h = absurd h
turtle_reads (Err error.Deep) v last wanted terms wanted_graph graph is h = absurd h
turtle_reads (Err (error.Long at)) v last wanted terms wanted_graph graph is h = absurd h
turtle_reads (Err error.Full) v last wanted terms wanted_graph graph is h = absurd h

-- ---- N-Triples

-- prefixes that are made of a base alone
pub bare_context : (base : List ℕ) (p : Prefixes) → base_of p ≡ base → ((prefix : List ℕ) → iri_under p prefix ≡ None) → bare base ≡ context_of p
bare_context base p own none = λ i. record { base = sym own i; prefixes = λ prefix. sym (none prefix) i }
