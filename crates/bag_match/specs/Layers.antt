-- The states of a match layer by layer, a layer for each number of triples done (own).
use Rattle.std.specs.Prelude.{ℕ, suc, List, ◌≡◌, ◌↔◌, Contains, Option, Some, length, slice_get}
use Rattle.rdf_terms.specs.declared.terms.TermId.{TermId}
use Rattle.rdf_terms.specs.declared.terms.Triple.{Triple}
use Rattle.schema_tree.specs.declared.schema.ExprId.{ExprId}
use Rattle.schema_tree.specs.declared.schema.Shape.{Shape}
use Rattle.schema_tree.specs.declared.verdicts.State.{State}
use Rattle.schema_tree.specs.States.{IsDead, IsStateBefore}
use Rattle.schema_tree.specs.Rising.{AreRising}
use Rattle.bag_match.specs.Reached.{IsReachedAt}

-- the states with so many triples done and counts of the list that are not dead, in its order
pub record AreLiving (sh : Shape) (n : TermId) (ts : List Triple) (done : ℕ) (cs : List (List ℕ)) (states : List State) : Type 0 where
  pub rising : AreRising IsStateBefore states
  pub same : (x : State) → Contains states x ↔ ((x.done ≡ done) × Contains cs x.counts × (¬ IsDead sh n ts x))

module _ (hold fail : TermId → Option ExprId → Type 0) (sh : Shape) (n : TermId) (ts : List Triple) where
  -- the states with so many triples done that are reached
  pub record IsLayer (j : ℕ) (states : List State) : Type 0 where
    pub rising : AreRising IsStateBefore states
    pub same : (x : State) → Contains states x ↔ IsReachedAt hold fail sh n ts j x

  -- the layers up to that of so many triples done, in their order
  pub record AreLayers (d : ℕ) (layers : List (List State)) : Type 0 where
    pub count : length layers ≡ suc d
    pub each : (j : ℕ) (states : List State) → slice_get layers j ≡ Some states → IsLayer j states
