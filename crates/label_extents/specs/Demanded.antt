-- The pairs on which extents depend (own).
use Rattle.std.specs.Prelude.{List, ◌<◌, ◌↔◌, Contains, length, ⊤}
use Rattle.std.specs.List.Sorted.{IsStrictlySortedBy}
use Rattle.lists.specs.Distinct.{AreDistinct}
use Rattle.rdf_terms.specs.declared.terms.Term.{Term}
use Rattle.rdf_terms.specs.declared.terms.TermId.{TermId}
use Rattle.rdf_terms.specs.declared.terms.Triple.{Triple}
use Rattle.schema_documents.specs.declared.label.Label.{Label}
use Rattle.schema_tree.specs.declared.schema.ExprId.{ExprId}
use Rattle.schema_tree.specs.declared.schema.Pair.{Pair}
use Rattle.schema_tree.specs.declared.schema.Schema.{Schema}
use Rattle.schema_tree.specs.Needs.{Reaches}
use Rattle.demand.specs.Orders.{compare_pairs, max_pairs}
use Rattle.label_extents.specs.declared.error.ExtentsError.{ExtentsError}
use Rattle.label_extents.specs.declared.error.ExtentsError.TheVariants as Errors
use Rattle.label_extents.specs.Extents.{IsNode}

-- some node of the graph with the expression of some declared label reaches the pair
pub record IsDemanded (s : Schema) (g : List Triple) (q : Pair) : Type 0 where
  pub label : Label
  pub expr : ExprId
  pub node : TermId
  pub declared : Contains s.labels (label, expr)
  pub is_node : IsNode g node
  pub reaches : Reaches s g node expr q

-- the demanded pairs, each once, by the texts of their nodes and then their Shapes
pub record AreDemanded (s : Schema) (terms : List Term) (g : List Triple) (pairs : List Pair) : Type 0 where
  pub sorted : IsStrictlySortedBy (compare_pairs terms) pairs
  pub exactly : (q : Pair) → Contains pairs q ↔ IsDemanded s g q

-- more than 4,194,304 pairs are demanded
pub record AreTooMany (s : Schema) (g : List Triple) : Type 0 where
  pub pairs : List Pair
  pub distinct : AreDistinct pairs
  pub many : max_pairs < length pairs
  pub demanded : (q : Pair) → Contains pairs q → IsDemanded s g q

-- why extents are refused: too many pairs are demanded, or memory ran out
abbrev pub Explains : Schema → List Triple → ExtentsError → Type 0
Explains s g Errors.Pairs = AreTooMany s g
Explains s g Errors.Memory = ⊤
