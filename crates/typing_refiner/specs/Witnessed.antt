-- Places that show that a pair can match, while pairs are removed (own).
use Rattle.std.specs.Prelude.{ℕ, Bool, true, false, List, [], ◌≡◌, ◌≢◌, ◌<◌, ◌^◌, ◌⊎◌, Contains, Option, Some, length, map, slice_get, slice_index}
use Rattle.rdf_terms.specs.declared.terms.TermId.{TermId}
use Rattle.rdf_terms.specs.declared.terms.Triple.{Triple}
use Rattle.schema_tree.specs.declared.schema.ExprId.{ExprId}
use Rattle.schema_tree.specs.declared.schema.Occurrence.{Occurrence}
use Rattle.schema_tree.specs.declared.schema.Pair.{Pair}
use Rattle.schema_tree.specs.declared.schema.Shape.{Shape}
use Rattle.schema_tree.specs.declared.verdicts.Lean.TheVariants.{Possible}
use Rattle.schema_tree.specs.declared.verdicts.Place.{Place}
use Rattle.schema_tree.specs.Entries.{shape_at}
use Rattle.schema_tree.specs.Places.{HaveCounts, IsAllowed, IsShut, MayFail, MayHold, times}
use Rattle.schema_tree.specs.Relevant.{relevant_in_order}
use Rattle.schema_tree.specs.Sure.{Known}
use Rattle.tally.specs.Plan.{Plan}
use Rattle.bag_match.specs.Counts.{ArePlacesOf}
use Rattle.typing_refiner.specs.declared.ground.Ground.{Ground}
use Rattle.typing_refiner.specs.declared.witness.Witness.{Witness}

-- there is a place for each triple, the remainder or one of so many occurrences, and the counts are those of the places
pub record IsTally (occurrences : ℕ) (w : Witness) : Type 0 where
  pub each : length w.places.items ≡ length w.triples
  pub few : length w.places.items < 2 ^ 31
  pub inside : ArePlacesOf occurrences w.places.items
  pub long : length w.counts.items ≡ occurrences
  pub counted : (i : ℕ) → slice_index w.counts.items i ≡ times w.places.items i

-- one of the places was put at the number, no other place is changed, and the counts match
pub record Takes (body : Option Plan) (at : ℕ) (allowed old new : List Place) : Type 0 where
  pub place : Place
  pub one : Contains allowed place
  pub here : slice_get new at ≡ Some place
  pub others : (i : ℕ) → i ≢ at → slice_get new i ≡ slice_get old i
  pub spelled : HaveCounts body (times new)

module _ (hold fail : TermId → Option ExprId → Type 0) (sh : Shape) (n : TermId) where
  -- each place is allowed but for triples that are free
  abbrev pub ArePlaced : List Triple → Witness → Type 0
  ArePlaced free w = (i : ℕ) (t : Triple) (p : Place) → slice_get w.triples i ≡ Some t → slice_get w.places.items i ≡ Some p →
      Contains free t ⊎ IsAllowed hold fail sh n t p

  -- each place is allowed but for triples that are free, and the counts of the places match
  pub record IsStanding (free : List Triple) (w : Witness) : Type 0 where
    pub allowed : ArePlaced free w
    pub spelled : HaveCounts sh.body (times w.places.items)

-- two occurrences fit the same triples: they have one predicate and one direction
abbrev pub FitAlike : Occurrence → Occurrence → Type 0
FitAlike a b = (a.predicate ≡ b.predicate) × (a.inverse ≡ b.inverse)

-- the triple that the occurrence fits at a node, whose other end is the second node
abbrev pub between : Bool → TermId → TermId → TermId → Triple
between false p n m = record { s = n; p = p; o = m }
between true p n m = record { s = m; p = p; o = n }

-- those that occurrences of a Shape fit
abbrev pub all_between : List Occurrence → TermId → TermId → List Triple
all_between occs n m = map (λ o. between o.inverse o.predicate n m) occs

-- the witness has the relevant triples of the pair, and stands under the view where Unknown is possible
pub record IsWitness (h : Ground) (view : Known) (p : Pair) (sh : Shape) (free : List Triple) (w : Witness) : Type 0 where
  pub open_to : ¬ IsShut h.graph.now.triples sh p.node
  pub triples : w.triples ≡ relevant_in_order h.terms.now h.graph.now.triples sh p.node
  pub tally : IsTally (length sh.occs) w
  pub standing : IsStanding (MayHold h.schema.now h.terms.now view Possible) (MayFail h.schema.now h.terms.now view Possible) sh p.node free w

-- the witness shows that the pair, whose Shape the schema has, can match under the view: no triple is free
abbrev pub IsWitnessOf : Ground → Known → Pair → Witness → Type 0
IsWitnessOf h view p w = (sh : Shape) × (shape_at h.schema.now p.shape ≡ Some sh) × IsWitness h view p sh [] w

-- the witness shows that the pair can match under the view but for the triples that end at the node of another pair, which are free
abbrev pub IsWitnessBut : Ground → Known → Pair → Pair → Witness → Type 0
IsWitnessBut h view q p w =
    (sh : Shape) × (shape_at h.schema.now p.shape ≡ Some sh) × IsWitness h view p sh (all_between sh.occs p.node q.node) w
