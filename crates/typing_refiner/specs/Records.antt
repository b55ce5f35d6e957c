-- What shows verdicts of refinement (own).
use Rattle.std.specs.Prelude.{ℕ, zero, suc, List, [], ◌∷◌, ◌++◌, ◌≡◌, length, map, take, slice_get, Option, Some}
use Rattle.schema_tree.specs.declared.schema.Pair.{Pair}
use Rattle.schema_tree.specs.declared.verdicts.Lean.TheVariants.{Possible, Impossible}
use Rattle.schema_tree.specs.declared.verdicts.Place.{Place}
use Rattle.schema_tree.specs.Entries.{shape_at}
use Rattle.schema_tree.specs.Places.{PairCanMatch}
use Rattle.schema_tree.specs.declared.verdicts.Verdict.{Verdict}
use Rattle.schema_tree.specs.Removal.{IsRefinedAt}
use Rattle.schema_tree.specs.Sure.{Known}
use Rattle.typing_refiner.specs.Ready.{IsBefore}
use Rattle.rdf_terms.specs.declared.terms.Term.{Term}
use Rattle.rdf_terms.specs.declared.terms.TermId.{TermId}
use Rattle.rdf_terms.specs.declared.terms.Triple.{Triple}
use Rattle.schema_tree.specs.declared.schema.Schema.{Schema}
use Rattle.schema_tree.specs.declared.schema.Shape.{Shape}
use Rattle.schema_tree.specs.declared.verdicts.State.{State}
use Rattle.bag_match.specs.Outcomes.{IsOutcomeOf}
use Rattle.bag_match.specs.declared.outcome.Outcome.TheVariants.{Placed, Never}
use Rattle.typing_refiner.specs.declared.ground.Ground.{Ground}
use Rattle.typing_refiner.specs.declared.wanted.Wanted.TheVariants as Wanteds
use Rattle.typing_refiner.specs.declared.removal.Removed.{Removed}

-- the places are the least of a node with a Shape that matches where Unknown is impossible
abbrev pub AreLeastFor : Schema → List Term → List Triple → Known → TermId → Option Shape → List Place → Type 0
AreLeastFor s terms g view n x places = IsOutcomeOf s terms g view Impossible n x (Placed places)

-- the states are those of a node with a Shape that cannot match where Unknown is possible
abbrev pub AreStatesFor : Schema → List Term → List Triple → Known → TermId → Option Shape → List State → Type 0
AreStatesFor s terms g view n x states = IsOutcomeOf s terms g view Possible n x (Never states)

-- the pairs that went, in turn
abbrev pub pairs_gone : List Removed → List Pair
pairs_gone gone = map (λ r. r.pair) gone

-- what was known when these had gone from a stratum
abbrev pub known_without : Known → List Pair → Known
known_without lower gone = record { yes = lower.yes; no = lower.no ++ gone }

-- the pair has the number, its rank is the next one once these had gone, and where records are wanted its states are those
-- of this moment
abbrev pub HasStates : Ground → Known → List Pair → Removed → Type 0
HasStates h lower before r =
    (r.rank ≡ suc (length before)) × (slice_get h.table.now r.at ≡ Some r.pair)
    × ((h.wanted ≡ Wanteds.Records) → AreStatesFor h.schema.now h.terms.now h.graph.now.triples (known_without lower before) r.pair.node (shape_at h.schema.now r.pair.shape) r.states)

-- each pair that went has the rank and the states of the moment when those before it had gone
abbrev pub HaveStates : Ground → Known → List Removed → Type 0
HaveStates h lower gone = (r : ℕ) (x : Removed) → slice_get gone r ≡ Some x → HasStates h lower (take r (pairs_gone gone)) x

-- the places are the least under the view where Unknown is impossible
abbrev pub HasPlaces : Ground → Known → Pair → List Place → Type 0
HasPlaces h view p places = AreLeastFor h.schema.now h.terms.now h.graph.now.triples view p.node (shape_at h.schema.now p.shape) places

-- the pair of the number matches under the view where Unknown is impossible
abbrev pub MatchesAt : Ground → Known → ℕ → Type 0
MatchesAt h view at = (p : Pair) → slice_get h.table.now at ≡ Some p → PairCanMatch h.schema.now h.terms.now h.graph.now.triples view Impossible p

-- the verdicts of refinement on the strata below k, and for each of these the pairs that went, with the states of their moments
abbrev pub AreShown : Ground → Known → ℕ → Known → List (List Removed) → Type 0
AreShown h first zero known all = (known.yes ≡ first.yes) × (known.no ≡ first.no) × (all ≡ [])
AreShown h first (suc k) known all =
    (lower : Known) × (rest : List (List Removed)) × (gone : List Removed) × (kept : List Pair) × AreShown h first k lower rest
    × IsRefinedAt h.schema.now h.terms.now h.graph.now.triples h.strata.now h.table.now h.budget lower k (pairs_gone gone) kept
    × HaveStates h lower gone × (known.yes ≡ lower.yes ++ kept) × (known.no ≡ lower.no ++ pairs_gone gone) × (all ≡ rest ++ gone ∷ [])

-- the strata below k are refined over these verdicts, the marks say so, and the pairs that went have their states
pub record IsShownOver (h : Ground) (elsewhere first : Known) (k : ℕ) (marks : List Verdict) (all : List (List Removed)) : Type 0 where
  pub known : Known
  pub are : AreShown h first k known all
  pub before : IsBefore h elsewhere known k marks
