-- What an outcome says of a match.
use Rattle.std.proofs.Common.{◌≡◌, List, subst}
use Rattle.std.specs.Prelude.{Option, Some, None}
use Rattle.rdf_terms.specs.declared.terms.Term.{Term}
use Rattle.rdf_terms.specs.declared.terms.TermId.{TermId}
use Rattle.rdf_terms.specs.declared.terms.Triple.{Triple}
use Rattle.schema_tree.specs.declared.schema.Pair.{Pair}
use Rattle.schema_tree.specs.declared.schema.Schema.{Schema}
use Rattle.schema_tree.specs.declared.schema.Shape.{Shape}
use Rattle.schema_tree.specs.declared.verdicts.Lean.{Lean}
use Rattle.schema_tree.specs.declared.verdicts.Place.{Place}
use Rattle.schema_tree.specs.declared.verdicts.State.{State}
use Rattle.schema_tree.specs.Entries.{shape_at}
use Rattle.schema_tree.specs.Places.{CanMatch, PairCanMatch}
use Rattle.schema_tree.specs.Sure.{Known}
use Rattle.bag_match.specs.Outcomes.{IsOutcome, IsOutcomeOf}
use Rattle.bag_match.specs.declared.outcome.Outcome.{Outcome}
use Rattle.bag_match.specs.declared.outcome.Outcome.TheVariants.{Placed, Never}

module _ (s : Schema) (terms : List Term) (g : List Triple) (view : Known) (lean : Lean) where
  can : (n : TermId) (x : Option Shape) (places : List Place) → IsOutcomeOf s terms g view lean n x (Placed places) → CanMatch s terms g view lean n x
  can n None places h = absurd h
  can n (Some sh) places h = record { open_to = h.0; places = places; allowed = h.1.allowed; spelled = h.1.spelled }

  cannot : (n : TermId) (x : Option Shape) (states : List State) → IsOutcomeOf s terms g view lean n x (Never states) → ¬ CanMatch s terms g view lean n x
  cannot n None states h m = m
  cannot n (Some sh) states h m = h.refused m

  -- a pair that is placed can match
  pub placed_can : (p : Pair) (o : Outcome) (places : List Place) → o ≡ Placed places → IsOutcome s terms g view lean p o → PairCanMatch s terms g view lean p
  placed_can p o places is h = can p.node (shape_at s p.shape) places (subst (IsOutcome s terms g view lean p) is h)

  -- and one that is not cannot
  pub never_cannot : (p : Pair) (o : Outcome) (states : List State) → o ≡ Never states → IsOutcome s terms g view lean p o → ¬ PairCanMatch s terms g view lean p
  never_cannot p o states is h = cannot p.node (shape_at s p.shape) states (subst (IsOutcome s terms g view lean p) is h)
