-- How far the pairs that a question reaches and that are not kept are found (own).
use Rattle.std.specs.Prelude.{List, ◌↔◌, ◌⊎◌, Contains}
use Rattle.rdf_terms.specs.declared.terms.TermId.{TermId}
use Rattle.rdf_terms.specs.declared.terms.Triple.{Triple}
use Rattle.schema_tree.specs.declared.schema.ExprId.{ExprId}
use Rattle.schema_tree.specs.declared.schema.Pair.{Pair}
use Rattle.schema_tree.specs.declared.schema.Schema.{Schema}
use Rattle.schema_tree.specs.Needs.{Needs}
use Rattle.demand.specs.Closing.{IsLedTo, StartsAt}

-- the pairs are those that are the node with a Shape that stands in the expression, and not kept
abbrev pub AreStart : Schema → List Pair → TermId → ExprId → List Pair → Type 0
AreStart s kept n e start = (q : Pair) → Contains start q ↔ (StartsAt s (record { node = n; expr = e }) q × (¬ Contains kept q))

-- what was met is met, and to each pair that is, none of the kept ones, needs lead from one that was
abbrev pub FollowsNeeds : Schema → List Triple → List Pair → List Pair → List Pair → Type 0
FollowsNeeds s g kept old new =
    ((q : Pair) → Contains old q → Contains new q)
    × ((q : Pair) → Contains new q → (¬ Contains kept q) × IsLedTo s g old q)

-- each pair that one of the pairs needs is among them or kept
abbrev pub HoldOrKeepNeeds : Schema → List Triple → List Pair → List Pair → Type 0
HoldOrKeepNeeds s g kept pairs = (p q : Pair) → Contains pairs p → Needs s g p q → Contains pairs q ⊎ Contains kept q
