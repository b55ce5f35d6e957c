-- What a statement is read with (RDF 1.1 Turtle, section 7.1, parser state).
use Rattle.std.specs.Prelude.{ℕ, ◌+◌, List, [], ◌∷◌, ◌++◌, Option, Some, None, if◌then◌else◌}
use Rattle.std.specs.Str.{bytes_eq}
use Rattle.rdf_terms.specs.declared.terms.Name.TheVariants.{Fresh}
use Rattle.rdf_terms.specs.declared.terms.Term.{Term}
use Rattle.rdf_terms.specs.declared.terms.Term.TheVariants.{Blank}
use Rattle.rdf_lex.specs.Prefixes.{base_of, iri_under}
use Rattle.graph_index.specs.declared.loading.TermTriple.{TermTriple}
use Rattle.term_tokens.specs.Scopes as tokens
use Rattle.term_tokens.specs.Terms.{iri_term}
use Rattle.turtle_reader.specs.declared.state.State.{State}
use Rattle.turtle_reader.specs.Objects.{all_triples_of}

-- the base and the IRI of each prefix, as bytes; the number of the next anonymous node; and the triples so far
pub record DocumentScope : Type 0 where
  pub base : List ℕ
  pub prefixes : List ℕ → Option (List ℕ)
  pub next : ℕ
  pub triples : List TermTriple

-- the base and the prefixes, by which names and references stand for IRIs
abbrev pub names_in : DocumentScope → tokens.Scope
names_in v = record { base = v.base; prefixes = v.prefixes }

-- an anonymous node
abbrev pub anonymous : ℕ → Term
anonymous n = Blank (Fresh n)

-- a triple more
abbrev pub added : Term → List ℕ → Term → DocumentScope → DocumentScope
added s p o v = record v { triples = v.triples ++ record { subject = s; predicate = iri_term p; object = o } ∷ [] }

-- the next number is used
abbrev pub counted : DocumentScope → DocumentScope
counted v = record v { next = v.next + 1 }

-- a prefix stands for an IRI from here on (section 2.4)
abbrev pub declared : List ℕ → List ℕ → DocumentScope → DocumentScope
declared prefix iri v = record v { prefixes = λ other. if bytes_eq other prefix then Some iri else v.prefixes other }

-- the base from here on (section 2.4)
abbrev pub rebased : List ℕ → DocumentScope → DocumentScope
rebased iri v = record v { base = iri }

-- before a further statement there is no triple of it
abbrev pub begun : DocumentScope → DocumentScope
begun v = record v { triples = [] }

-- the scope in which a document begins, whose base is given: no prefix is declared
abbrev pub start : List ℕ → DocumentScope
start base = record { base = base; prefixes = λ prefix. None; next = 1; triples = [] }

-- what the code holds
abbrev pub scope_of : State → DocumentScope
scope_of s = record { base = base_of s.prefixes; prefixes = iri_under s.prefixes; next = s.next; triples = all_triples_of s.lists.items }
