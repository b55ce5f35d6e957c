-- The wide pairs that a question reaches (own).
use Rattle.std.specs.Prelude.{ℕ, List}
use Rattle.demand.specs.Demand.{AreAsked}
use Rattle.rdf_terms.specs.declared.terms.Term.{Term}
use Rattle.rdf_terms.specs.declared.terms.TermId.{TermId}
use Rattle.rdf_terms.specs.declared.terms.Triple.{Triple}
use Rattle.schema_tree.specs.declared.schema.ExprId.{ExprId}
use Rattle.schema_tree.specs.declared.schema.Pair.{Pair}
use Rattle.schema_tree.specs.declared.schema.Schema.{Schema}
use Rattle.typing_refiner.specs.declared.building.WidePair.{WidePair}
use Rattle.typing_session.specs.Questions.{root_of}
use Rattle.wide_pairs.specs.Wide.{AreWide}

-- these are the pairs that the node with the expression reaches and whose Width is above the budget, in order
pub record AreReachedWide (s : Schema) (terms : List Term) (g : List Triple) (budget : ℕ) (n : TermId) (e : ExprId) (found : List WidePair) : Type 0 where
  pub pairs : List Pair
  pub asked : AreAsked s terms g (root_of n e) pairs
  pub wide : AreWide s terms g budget pairs found
