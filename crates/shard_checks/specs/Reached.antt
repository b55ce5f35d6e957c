-- The nodes that roots reach (own).
use Rattle.std.specs.Prelude.{ℕ, List, [], ◌∷◌, ◌++◌, ◌≡◌, ◌↔◌, Contains, None}
use Rattle.std.specs.List.Sorted.{IsStrictlySortedBy}
use Rattle.demand.specs.declared.reach.Root.{Root}
use Rattle.demand.specs.Demand.{IsAsked}
use Rattle.rdf_terms.specs.declared.terms.Term.{Term}
use Rattle.rdf_terms.specs.declared.terms.TermId.{TermId}
use Rattle.rdf_terms.specs.declared.terms.Triple.{Triple}
use Rattle.rdf_terms.specs.Order.{compare_at}
use Rattle.schema_tree.specs.declared.schema.Pair.{Pair}
use Rattle.schema_tree.specs.declared.schema.Schema.{Schema}
use Rattle.shard_checks.specs.Written.{number_on_line}

-- the nodes of the pairs that the roots reach, each once, in the order of their texts
pub record AreReached (s : Schema) (terms : List Term) (g : List Triple) (roots : List Root) (nodes : List TermId) : Type 0 where
  pub sorted : IsStrictlySortedBy (compare_at terms) nodes
  pub exactly : (n : TermId) → Contains nodes n ↔ ((q : Pair) × IsAsked s g roots q × (q.node ≡ n))

-- a node's term, labels of blank nodes as they stand, and a line feed
abbrev pub node_line : List Term → TermId → List ℕ
node_line terms n = number_on_line None terms n ++ 10 ∷ []
