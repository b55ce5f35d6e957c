-- The pairs that are asked for: those that some root reaches, in order (own).
use Rattle.std.specs.Prelude.{List, ◌<◌, ◌↔◌, length, map, Contains}
use Rattle.std.specs.List.{flat_map}
use Rattle.std.specs.List.Sorted.{IsStrictlySortedBy}
use Rattle.rdf_terms.specs.declared.terms.Term.{Term}
use Rattle.rdf_terms.specs.declared.terms.TermId.{TermId}
use Rattle.rdf_terms.specs.declared.terms.Triple.{Triple}
use Rattle.lists.specs.Distinct.{AreDistinct}
use Rattle.demand.specs.Orders.{compare_pairs, max_pairs}
use Rattle.schema_tree.specs.declared.schema.ExprId.{ExprId}
use Rattle.schema_tree.specs.declared.schema.Pair.{Pair}
use Rattle.schema_tree.specs.declared.schema.Schema.{Schema}
use Rattle.schema_tree.specs.Needs.{Reaches}
use Rattle.demand.specs.declared.reach.Root.{Root}

-- a node with an expression
abbrev pub root : ExprId → TermId → Root
root e n = record { node = n; expr = e }

-- each of the nodes with each of the expressions
abbrev pub roots_of : List TermId → List ExprId → List Root
roots_of nodes exprs = flat_map (λ e. map (root e) nodes) exprs

-- some root reaches the pair
abbrev pub IsAsked : Schema → List Triple → List Root → Pair → Type 0
IsAsked s g roots q = (r : Root) × Contains roots r × Reaches s g r.node r.expr q

-- the pairs that the roots reach, each once, in order
pub record AreAsked (s : Schema) (terms : List Term) (g : List Triple) (roots : List Root) (pairs : List Pair) : Type 0 where
  pub sorted : IsStrictlySortedBy (compare_pairs terms) pairs
  pub exactly : (q : Pair) → Contains pairs q ↔ IsAsked s g roots q

-- the roots reach more pairs than may be asked for
pub record AreTooMany (s : Schema) (g : List Triple) (roots : List Root) : Type 0 where
  pub pairs : List Pair
  pub distinct : AreDistinct pairs
  pub many : max_pairs < length pairs
  pub reached : (q : Pair) → Contains pairs q → IsAsked s g roots q
