-- The places that are allowed for the relevant triples of a node, and what is found from them (own).
use Rattle.std.specs.Prelude.{ℕ, Bool, List, [], ◌∷◌, ◌++◌, ◌-◌, ◌^◌, ◌≡◌, ◌<◌, ◌⊎◌, ◌&&◌, Option, Some, None, Contains}
use Rattle.std.specs.Prelude.{length, min, nat_lt, not, slice_index, if◌then◌else◌}
use Rattle.std.specs.List.{AllZip, flat_map, list_all, list_any}
use Rattle.rdf_terms.specs.declared.terms.Term.{Term}
use Rattle.rdf_terms.specs.declared.terms.TermId.{TermId}
use Rattle.rdf_terms.specs.declared.terms.Triple.{Triple}
use Rattle.tally.specs.Plan.{Plan}
use Rattle.tally.specs.Span.{HasSpan, span}
use Rattle.schema_tree.specs.declared.schema.ExprId.{ExprId}
use Rattle.schema_tree.specs.declared.schema.Pair.{Pair}
use Rattle.schema_tree.specs.declared.schema.Schema.{Schema}
use Rattle.schema_tree.specs.declared.schema.Shape.{Shape}
use Rattle.schema_tree.specs.declared.verdicts.Lean.TheVariants.{Possible}
use Rattle.schema_tree.specs.declared.verdicts.Place.{Place}
use Rattle.schema_tree.specs.Entries.{shape_at}
use Rattle.schema_tree.specs.Places.{MayFail, MayHold}
use Rattle.schema_tree.specs.Relevant.{is_relevant, relevant_in_order}
use Rattle.schema_tree.specs.Sure.{Known}
use Rattle.bag_match.specs.Least.{ArePlacesFor}
use Rattle.nonconformance.specs.declared.offers.Offer.{Offer}
use Rattle.nonconformance.specs.declared.reason.Reason.{Reason}
use Rattle.nonconformance.specs.declared.reason.Reason.TheVariants.{Forbidden, Unmatched, TooFew, TooMany, NoMatchingCounts, NoMatchingPlaces}
use Rattle.nonconformance.specs.Bounds.{capped, is_at, least_of, most_of}

-- the offers are those of the triples, with the places that are allowed for each
abbrev pub AreOffers :
    (TermId → Option ExprId → Type 0) → (TermId → Option ExprId → Type 0) → Shape → TermId → List Triple → List Offer → Type 0
AreOffers hold fail sh n ts offers = AllZip (λ t o. (o.triple ≡ t) × ArePlacesFor hold fail sh n t o.places) ts offers

-- they are those of the relevant triples of a node with a Shape, if it is there, by what is known, where Unknown is possible
abbrev pub AreKnownOffersOf : Schema → List Term → List Triple → Known → TermId → Option Shape → List Offer → Type 0
AreKnownOffersOf s terms g view n None offers = ⊥
AreKnownOffersOf s terms g view n (Some sh) offers =
    AreOffers (MayHold s terms view Possible) (MayFail s terms view Possible) sh n (relevant_in_order terms g sh n) offers

abbrev pub AreKnownOffers : Schema → List Term → List Triple → Known → Pair → List Offer → Type 0
AreKnownOffers s terms g view p offers = AreKnownOffersOf s terms g view p.node (shape_at s p.shape) offers

-- one of the places is one of the constraints
abbrev pub is_serving : List ℕ → Offer → Bool
is_serving constraints o = list_any (is_at constraints) o.places

-- there are places, and all are some of the constraints
abbrev pub is_bound : List ℕ → Offer → Bool
is_bound constraints o = list_any (is_at constraints) o.places && list_all (is_at constraints) o.places

-- the triple, where one of its places is one of the constraints
abbrev pub serving : List ℕ → Offer → List Triple
serving constraints o = if is_serving constraints o then o.triple ∷ [] else []

-- the triple, where it has places, and all are some of the constraints
abbrev pub bound_to : List ℕ → Offer → List Triple
bound_to constraints o = if is_bound constraints o then o.triple ∷ [] else []

-- the triples of the offers of which one place is one of the constraints
abbrev pub all_serving : List ℕ → List Offer → List Triple
all_serving constraints offers = flat_map (serving constraints) offers

-- the triples of the offers that have places, of which all are some of the constraints
abbrev pub all_bound : List ℕ → List Offer → List Triple
all_bound constraints offers = flat_map (bound_to constraints) offers

-- an arc out that no constraint fits, where the Shape is closed
abbrev pub forbidden_by : Shape → TermId → Triple → List Reason
forbidden_by sh n t = if sh.closed && not (is_relevant sh.occs n t) then Forbidden t ∷ [] else []

-- a triple without an allowed place
abbrev pub unmatched_at : Triple → List Place → List Reason
unmatched_at t [] = Unmatched t ∷ []
unmatched_at t (p ∷ ps) = []

abbrev pub unmatched_by : Offer → List Reason
unmatched_by o = unmatched_at o.triple o.places

-- the constraints take more triples than there are for them
abbrev pub few_by : List Triple → List ℕ → ℕ → List Reason
few_by found constraints least = if nat_lt (length found) least then TooFew constraints least found ∷ [] else []

-- there are more triples for them alone than they take
abbrev pub many_by : List Triple → List ℕ → Option ℕ → List Reason
many_by found constraints None = []
many_by found constraints (Some most) = if nat_lt most (length found) then TooMany constraints most found ∷ [] else []

-- what is wrong with the number of triples for the constraints
abbrev pub counted_by : Plan → List Offer → List ℕ → List Reason
counted_by c offers constraints =
    few_by (all_serving constraints offers) constraints (min (least_of constraints c) (2 ^ 64 - 1))
    ++ many_by (all_bound constraints offers) constraints (capped (most_of constraints c))

-- more sets are put behind the old ones
abbrev pub IsLonger : List (List ℕ) → List (List ℕ) → Type 0
IsLonger old new = (more : List (List ℕ)) × (new ≡ old ++ more)

-- each constraint alone is one of the sets
abbrev pub HaveSingles : ℕ → List (List ℕ) → Type 0
HaveSingles count sets = (i : ℕ) → i < count → Contains sets (i ∷ [])

-- what is wrong with the numbers of triples for some sets of constraints, each of so many alone among them, is put behind the
-- others
abbrev pub AddsCounted : ℕ → Option Plan → List Offer → List Reason → List Reason → Type 0
AddsCounted count None offers old new = new ≡ old
AddsCounted count (Some c) offers old new =
    (sets : List (List ℕ)) × HaveSingles count sets × (new ≡ old ++ flat_map (counted_by c offers) sets)

-- so many numbers, that of each place by the function
abbrev pub AreCounts : (ℕ → ℕ) → ℕ → List ℕ → Type 0
AreCounts f count numbers = (length numbers ≡ count) × ((i : ℕ) → i < count → slice_index numbers i ≡ f i)

-- how many triples each constraint alone may take, and how many it may take
pub record AreRanges (count : ℕ) (offers : List Offer) (low high : List ℕ) : Type 0 where
  pub least : AreCounts (λ i. length (all_bound (i ∷ []) offers)) count low
  pub most : AreCounts (λ i. length (all_serving (i ∷ []) offers)) count high

-- what is said where there is no other reason: that no numbers within the ranges match, or that no places do
abbrev pub IsSaidOf : ℕ → Option Plan → List Offer → List Reason → Type 0
IsSaidOf count None offers new = new ≡ NoMatchingPlaces ∷ []
IsSaidOf count (Some c) offers new =
    (low high : List ℕ) × AreRanges count offers low high
    × (((¬ HasSpan (span c (slice_index low) (slice_index high)) 1) × (new ≡ NoMatchingCounts low high ∷ []))
    ⊎ (HasSpan (span c (slice_index low) (slice_index high)) 1 × (new ≡ NoMatchingPlaces ∷ [])))

-- nothing more is said where there is another reason
abbrev pub Concludes : ℕ → Option Plan → List Offer → List Reason → List Reason → Type 0
Concludes count b offers [] new = IsSaidOf count b offers new
Concludes count b offers (r ∷ rs) new = new ≡ r ∷ rs
