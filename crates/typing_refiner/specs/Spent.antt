-- How often looks at pairs tick (own).
use Rattle.std.specs.Prelude.{ℕ, Bool, false, List, ◌&&◌, Option, Some, None, option_map, slice_get, length, nat_eq, if◌then◌else◌}
use Rattle.schema_tree.specs.declared.schema.Pair.{Pair}
use Rattle.schema_tree.specs.declared.verdicts.Verdict.{Verdict}
use Rattle.schema_tree.specs.Edges.{level}
use Rattle.bag_match.specs.Bounds.{most_ticks}
use Rattle.removal_laws.specs.Costs.{is_on, phase_cost, potential, total}
use Rattle.locality_laws.specs.Bounds.{cost_where}
use Rattle.typing_refiner.specs.Building.{AreWidths}
use Rattle.typing_refiner.specs.declared.ground.Ground.{Ground}

-- what one look at a pair ticks at most, where this is its Width
abbrev pub cost_of_pair : Ground → (Pair → ℕ) → Option Pair → ℕ
cost_of_pair h width None = 0
cost_of_pair h width (Some p) = most_ticks h.schema.now h.terms.now h.graph.now.triples p (width p)

-- what one look at the pair of a number ticks at most
unfoldable pub look_cost : Ground → (Pair → ℕ) → ℕ → ℕ
look_cost h width i = cost_of_pair h width (slice_get h.table.now i)

-- the function gives each pair its Width
abbrev pub GiveWidths : Ground → (Pair → ℕ) → Type 0
GiveWidths h width = AreWidths h.schema.now h.terms.now h.graph.now.triples width

abbrev pub is_some_true : Option Bool → Bool
is_some_true None = false
is_some_true (Some b) = b

abbrev pub is_of : Ground → ℕ → Option Pair → Bool
is_of h k None = false
is_of h k (Some p) = nat_eq (level h.strata.now p.shape) k

-- the number is that of a narrow pair
abbrev pub narrow_test : Ground → ℕ → Bool
narrow_test h i = is_some_true (slice_get h.narrow.now i)

-- the number is that of a narrow pair of the stratum
abbrev pub open_test : Ground → ℕ → ℕ → Bool
open_test h k i = narrow_test h i && is_of h k (slice_get h.table.now i)

-- what one look at the pair of a number ticks at most, where it is an open pair of the stratum, and else 0
abbrev pub open_cost : Ground → (Pair → ℕ) → ℕ → ℕ → ℕ
open_cost h width k i = if open_test h k i then look_cost h width i else 0

abbrev pub is_among : ℕ → Option (List ℕ) → Bool
is_among i None = false
is_among i (Some js) = is_on i js

-- the pair of the second number needs that of the first, as the index says
abbrev pub need_test : Ground → ℕ → ℕ → Bool
need_test h at i = is_among i (option_map (λ v. v.items) (slice_get h.needing.now at))

-- what the looks of a phase can still tick
unfoldable pub still_to_tick : Ground → (Pair → ℕ) → ℕ → Verdict → List Verdict → List ℕ → ℕ
still_to_tick h width k v marks agenda = potential (open_cost h width k) (need_test h) (length h.table.now) v marks agenda

-- what a phase ticks at most: at each open pair once, and once for each pair that it needs
unfoldable pub phase_ticks : Ground → (Pair → ℕ) → ℕ → ℕ
phase_ticks h width k = phase_cost (open_cost h width k) (need_test h) (length h.table.now)

-- what one look at each narrow pair ticks at most, up to a number
abbrev pub record_ticks_below : Ground → (Pair → ℕ) → ℕ → ℕ
record_ticks_below h width n = total (cost_where (narrow_test h) (look_cost h width)) n

-- what one look at each narrow pair ticks at most, which is what the records of all tick at most
unfoldable pub record_ticks : Ground → (Pair → ℕ) → ℕ
record_ticks h width = record_ticks_below h width (length h.table.now)
