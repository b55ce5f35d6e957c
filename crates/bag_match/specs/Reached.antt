-- The states of a match that allowed places reach (own: the record of a pair that cannot match).
use Rattle.std.specs.Prelude.{ℕ, zero, suc, List, ◌≡◌, ◌↔◌, Contains, Option, Some, slice_get}
use Rattle.rdf_terms.specs.declared.terms.TermId.{TermId}
use Rattle.rdf_terms.specs.declared.terms.Triple.{Triple}
use Rattle.schema_tree.specs.declared.schema.ExprId.{ExprId}
use Rattle.schema_tree.specs.declared.schema.Shape.{Shape}
use Rattle.schema_tree.specs.declared.verdicts.Place.{Place}
use Rattle.schema_tree.specs.declared.verdicts.State.{State}
use Rattle.schema_tree.specs.Places.{IsAllowed}
use Rattle.schema_tree.specs.Rising.{AreRising}
use Rattle.schema_tree.specs.States.{IsDead, IsStateBefore, after, opening}

module _ (hold fail : TermId → Option ExprId → Type 0) (sh : Shape) (n : TermId) (ts : List Triple) where
  -- the state comes of one of these by an allowed place for its next triple
  abbrev pub ComesOf : (State → Type 0) → State → Type 0
  ComesOf These x =
      (y : State) × These y × ((t : Triple) × (slice_get ts y.done ≡ Some t) × ((p : Place) × IsAllowed hold fail sh n t p × (after p y ≡ x)))

  -- the living states with so many triples done that allowed places reach from the opening state through living states
  abbrev pub IsReachedAt : ℕ → State → Type 0
  IsReachedAt zero x = (opening sh ≡ x) × ¬ IsDead sh n ts x
  IsReachedAt (suc j) x = ComesOf (IsReachedAt j) x × ¬ IsDead sh n ts x

  -- the state is such a one
  abbrev pub IsReached : State → Type 0
  IsReached x = IsReachedAt x.done x

  -- the states are these, each once, sorted by the number of triples done and then the counts
  pub record AreReached (states : List State) : Type 0 where
    pub rising : AreRising IsStateBefore states
    pub same : (x : State) → Contains states x ↔ IsReached x
