-- The base and the prefixes in force (RDF 1.1 Turtle, section 7.1).
use Rattle.std.specs.Prelude.{ℕ, List, Option}
use Rattle.rdf_lex.specs.Prefixes.{base_of, iri_under}
use Rattle.rdf_lex.specs.declared.prefixes.Prefixes.{Prefixes}
use Rattle.term_tokens.specs.declared.names.Names.{Names}

-- the base and the IRI of each prefix, as bytes
pub record Scope : Type 0 where
  pub base : List ℕ
  pub prefixes : List ℕ → Option (List ℕ)

-- what the code holds
abbrev pub scope_of : Prefixes → Scope
scope_of p = record { base = base_of p; prefixes = iri_under p }

abbrev pub scope_in : Names → Scope
scope_in n = scope_of n.prefixes.now
