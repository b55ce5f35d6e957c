-- How far the pairs that roots reach are found (own).
use Rattle.std.specs.Prelude.{ℕ, List, ◌≡◌, ◌<◌, ◌⊎◌, ◌↔◌, length, slice_get, Some, Contains}
use Rattle.rdf_terms.specs.declared.terms.Triple.{Triple}
use Rattle.lists.specs.Distinct.{AreDistinct}
use Rattle.schema_tree.specs.declared.schema.Pair.{Pair}
use Rattle.schema_tree.specs.declared.schema.Schema.{Schema}
use Rattle.schema_tree.specs.Needs.{Leads}
use Rattle.demand.specs.declared.error.DemandError.{DemandError}
use Rattle.demand.specs.declared.error.DemandError.TheVariants as Errors
use Rattle.demand.specs.declared.reach.Root.{Root}
use Rattle.demand.specs.Orders.{max_pairs}
use Rattle.demand.specs.Links.{StandsAny}

-- what was held is held at its place, and the pairs that are new are these
pub record Grows (old more new : List Pair) : Type 0 where
  pub kept : (i : ℕ) (p : Pair) → slice_get old i ≡ Some p → slice_get new i ≡ Some p
  pub same : (q : Pair) → Contains new q ↔ (Contains old q ⊎ Contains more q)

-- the pair is the root's node with a Shape that stands in its expression
abbrev pub StartsAt : Schema → Root → Pair → Type 0
StartsAt s r q = (q.node ≡ r.node) × StandsAny s q.shape r.expr

-- some root starts at the pair
abbrev pub Starts : Schema → List Root → Pair → Type 0
Starts s roots q = (r : Root) × Contains roots r × StartsAt s r q

-- the pairs at which some root starts are held, and what was held
abbrev pub AddsStarts : Schema → List Root → List Pair → List Pair → Type 0
AddsStarts s roots old new = (q : Pair) → Contains new q ↔ (Contains old q ⊎ Starts s roots q)

-- distinct pairs, of which P holds, are more than may be asked for
pub record AreMany (P : Pair → Type 0) : Type 0 where
  pub pairs : List Pair
  pub distinct : AreDistinct pairs
  pub many : max_pairs < length pairs
  pub all : (q : Pair) → Contains pairs q → P q

-- where the refusal is for too many pairs, there are
abbrev pub StopsFor : (Pair → Type 0) → DemandError → Type 0
StopsFor P Errors.Pairs = AreMany P
StopsFor P Errors.Memory = Unit {0}

-- a pair that is new where no more may be held
pub record IsOneTooMany (old : List Pair) (q : Pair) : Type 0 where
  pub distinct : AreDistinct old
  pub fresh : ¬ Contains old q
  pub full : length old ≡ max_pairs

-- where the refusal is for too many pairs, this one is one too many
abbrev pub StopsAt : List Pair → Pair → DemandError → Type 0
StopsAt old q Errors.Pairs = IsOneTooMany old q
StopsAt old q Errors.Memory = Unit {0}

-- the held pairs and those at which some root starts are too many
abbrev pub StopsAtStart : Schema → List Root → List Pair → DemandError → Type 0
StopsAtStart s roots old e = StopsFor (λ q. Contains old q ⊎ Starts s roots q) e

-- needs lead to the pair from one of those that were held
abbrev pub IsLedTo : Schema → List Triple → List Pair → Pair → Type 0
IsLedTo s g old q = (p : Pair) × Contains old p × Leads s g p q

-- the pairs to which needs lead from those that were held are too many
abbrev pub StopsByNeeds : Schema → List Triple → List Pair → DemandError → Type 0
StopsByNeeds s g old e = StopsFor (IsLedTo s g old) e

-- what was held is held, and needs lead from there to all that is held
abbrev pub GrowsByNeeds : Schema → List Triple → List Pair → List Pair → Type 0
GrowsByNeeds s g old new = ((q : Pair) → Contains old q → Contains new q) × ((q : Pair) → Contains new q → IsLedTo s g old q)

-- the held pairs and these are too many
abbrev pub StopsOver : List Pair → List Pair → DemandError → Type 0
StopsOver old more e = StopsFor (λ q. Contains old q ⊎ Contains more q) e
