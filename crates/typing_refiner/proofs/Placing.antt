-- A pair that matches has its least places.
use Rattle.std.proofs.Common.{◌≡◌, ℕ, ◌<◌, List, length, subst, get_or}
use Rattle.std.proofs.lemmas.Option.{slice_get-get_or}
use Rattle.std.specs.Prelude.{Some, slice_get}
use Rattle.schema_tree.specs.declared.schema.Pair.{Pair}
use Rattle.schema_tree.specs.declared.verdicts.Lean.TheVariants.{Impossible}
use Rattle.schema_tree.specs.declared.verdicts.Place.{Place}
use Rattle.schema_tree.specs.declared.verdicts.State.{State}
use Rattle.schema_tree.specs.Sure.{Known}
use Rattle.bag_match.specs.Outcomes.{IsOutcome}
use Rattle.bag_match.specs.declared.outcome.Outcome.{Outcome}
use Rattle.bag_match.specs.declared.outcome.Outcome.TheVariants.{Placed, Never}
use Rattle.typing_refiner.specs.declared.ground.Ground.{Ground}
use Rattle.typing_refiner.specs.Ready.{IsReady}
use Rattle.typing_refiner.specs.Records.{HasPlaces, MatchesAt}
use Rattle.typing_refiner.proofs.Outcomes.{never_cannot}

no_pair : Pair
no_pair = record { node = record { 0 = 0 }; shape = record { 0 = 0 } }

pub placed_never :
    (h : Ground) → IsReady h → (view : Known) (at : ℕ) → at < length h.table.now → MatchesAt h view at → (o : Outcome) →
    ((p : Pair) → slice_get h.table.now at ≡ Some p → IsOutcome h.schema.now h.terms.now h.graph.now.triples view Impossible p o) → (states : List State) → o ≡ Never states → ⊥
placed_never h ready view at inside matches o outcome states is =
    let there = slice_get-get_or h.table.now at no_pair inside in
    never_cannot h.schema.now h.terms.now h.graph.now.triples view Impossible (get_or h.table.now at no_pair) o states is (outcome (get_or h.table.now at no_pair) there)
    (matches (get_or h.table.now at no_pair) there)

pub placed :
    (h : Ground) (view : Known) (at : ℕ) (o : Outcome) →
    ((p : Pair) → slice_get h.table.now at ≡ Some p → IsOutcome h.schema.now h.terms.now h.graph.now.triples view Impossible p o) → (places : List Place) → o ≡ Placed places →
    (p : Pair) → slice_get h.table.now at ≡ Some p → HasPlaces h view p places
placed h view at o outcome places is p there = subst (λ z. IsOutcome h.schema.now h.terms.now h.graph.now.triples view Impossible p z) is (outcome p there)
