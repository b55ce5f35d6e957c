-- What refinement on all strata costs, and how many pairs a pair needs (own).
use Rattle.std.specs.Prelude.{ℕ, Bool, true, List, ◌+◌, ◌≡◌, ◌≤◌, ◌↔◌, length, slice_get, Some, Contains, if◌then◌else◌}
use Rattle.lists.specs.Distinct.{AreDistinct}
use Rattle.rdf_terms.specs.declared.terms.Triple.{Triple}
use Rattle.schema_tree.specs.declared.schema.Pair.{Pair}
use Rattle.schema_tree.specs.declared.schema.Schema.{Schema}
use Rattle.schema_tree.specs.Loaded.{IsLoaded}
use Rattle.schema_tree.specs.Needs.{Needs}
use Rattle.removal_laws.specs.Costs.{needs_count, phase_cost, total, whole_cost}

-- the test of a stratum and a number holds of a number on one stratum only, and only of a narrow one
pub record IsOpenTest (is_open : ℕ → ℕ → Bool) (narrow : ℕ → Bool) : Type 0 where
  pub once : (k j i : ℕ) → is_open k i ≡ true → is_open j i ≡ true → k ≡ j
  pub narrow_only : (k i : ℕ) → is_open k i ≡ true → narrow i ≡ true

-- what a look at the pair of a number costs where the test holds of it
abbrev pub cost_where : (ℕ → Bool) → (ℕ → ℕ) → ℕ → ℕ
cost_where test cost i = if test i then cost i else 0

-- what removal and confirmation on each stratum below so many, and one look at each narrow pair for its record, may cost is no more than
-- 2 × k + 3 looks at each narrow pair, where k is the number of pairs that it needs
abbrev pub StrataAreBounded : Type 0
StrataAreBounded =
    (is_open : ℕ → ℕ → Bool) (narrow : ℕ → Bool) → IsOpenTest is_open narrow → (cost : ℕ → ℕ) (need : ℕ → ℕ → Bool) (n strata : ℕ) →
    total (λ k. phase_cost (cost_where (is_open k) cost) need n + phase_cost (cost_where (is_open k) cost) need n) strata + total (cost_where narrow cost) n
    ≤ whole_cost (cost_where narrow cost) need n

-- the test tells of the places of each two pairs of the list whether the second needs the first
abbrev pub AreNeedTests : Schema → List Triple → List Pair → (ℕ → ℕ → Bool) → Type 0
AreNeedTests s g pairs need =
    (at i : ℕ) (p q : Pair) → slice_get pairs at ≡ Some p → slice_get pairs i ≡ Some q → (need at i ≡ true) ↔ Needs s g q p

-- the pair needs so many pairs of the list
pub record NeedsSoMany (s : Schema) (g : List Triple) (pairs : List Pair) (p : Pair) (k : ℕ) : Type 0 where
  pub needed : List Pair
  pub distinct : AreDistinct needed
  pub exactly : (q : Pair) → Contains needed q ↔ (Contains pairs q × Needs s g p q)
  pub count : k ≡ length needed

-- what the tests count is how many pairs of the list a pair needs, and no other number is
abbrev pub NeedsAreCounted : Type 0
NeedsAreCounted =
    (s : Schema) (g : List Triple) (pairs : List Pair) (need : ℕ → ℕ → Bool) (cost : ℕ → ℕ) → AreDistinct pairs → AreNeedTests s g pairs need →
    (i : ℕ) (p : Pair) → slice_get pairs i ≡ Some p → (k : ℕ) → NeedsSoMany s g pairs p k ↔ (k ≡ needs_count cost need (length pairs) i)

-- under a schema that keeps the rules of loaded ones there is a number for each pair: so many pairs of distinct ones it needs
abbrev pub NeedsHaveCounts : Type 0
NeedsHaveCounts =
    (s : Schema) → IsLoaded s → (g : List Triple) (pairs : List Pair) → AreDistinct pairs → (count : Pair → ℕ) × ((p : Pair) → NeedsSoMany s g pairs p (count p))
