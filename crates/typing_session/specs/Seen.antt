-- What contracts see of a session (own).
use Rattle.std.specs.Prelude.{ℕ, List}
use Rattle.rdf_terms.specs.declared.terms.Term.{Term}
use Rattle.rdf_terms.specs.declared.terms.Triple.{Triple}
use Rattle.schema_tree.specs.declared.schema.Pair.{Pair}
use Rattle.schema_tree.specs.declared.schema.Schema.{Schema}

-- the triples, the terms that they count, the schema with strata of its Shapes, the budget, and the pairs on which there is
-- a verdict
pub record Seen : Type 0 where
  pub graph : List Triple
  pub terms : List Term
  pub schema : Schema
  pub strata : List ℕ
  pub budget : ℕ
  pub kept : List Pair

-- what is seen, with these terms
abbrev pub with_terms : List Term → Seen → Seen
with_terms terms x = record { graph = x.graph; terms = terms; schema = x.schema; strata = x.strata; budget = x.budget; kept = x.kept }

-- what is seen, with these pairs kept
abbrev pub with_kept : List Pair → Seen → Seen
with_kept kept x = record { graph = x.graph; terms = x.terms; schema = x.schema; strata = x.strata; budget = x.budget; kept = kept }

-- what is seen, with this graph and these pairs kept
abbrev pub with_graph : List Triple → List Pair → Seen → Seen
with_graph graph kept x = record { graph = graph; terms = x.terms; schema = x.schema; strata = x.strata; budget = x.budget; kept = kept }
