-- Which verdicts an edit of the graph can change (own).
use Rattle.std.specs.Prelude.{ℕ, List, ◌≡◌, ◌<◌, ◌↔◌, ◌⊎◌, Contains}
use Rattle.rdf_terms.specs.declared.terms.TermId.{TermId}
use Rattle.rdf_terms.specs.declared.terms.Triple.{Triple}
use Rattle.schema_tree.specs.declared.schema.Pair.{Pair}
use Rattle.schema_tree.specs.declared.schema.Schema.{Schema}
use Rattle.schema_tree.specs.Needs.{Leads, Needs}

-- the pair's node is the subject or the object of the triple
abbrev pub IsAtEnd : Triple → Pair → Type 0
IsAtEnd t q = (q.node ≡ t.s) ⊎ (q.node ≡ t.o)

-- needs lead from the pair to one at the subject or the object of the triple
abbrev pub ReachesEnd : Schema → List Triple → Triple → Pair → Type 0
ReachesEnd s g t p = (q : Pair) × Leads s g p q × IsAtEnd t q

-- of the pairs exactly those are lost that reach one at the subject or the object of the triple
abbrev pub Loses : Schema → List Triple → Triple → List Pair → List Pair → Type 0
Loses s g t old new = (p : Pair) → Contains new p ↔ (Contains old p × (¬ ReachesEnd s g t p))

-- the node with each Shape of a number below this is added
abbrev pub AddsNode : TermId → ℕ → List Pair → List Pair → Type 0
AddsNode n k old new = (q : Pair) → Contains new q ↔ (Contains old q ⊎ ((q.node ≡ n) × (q.shape.0 < k)))

-- the pairs are those of the kept ones at the ends of the triple
abbrev pub AreAtEnds : List Pair → Triple → List Pair → Type 0
AreAtEnds kept t met = (q : Pair) → Contains met q ↔ (Contains kept q × IsAtEnd t q)

-- what was met is met, and from each pair that is, a kept one, needs lead to one that was
abbrev pub SpreadsFrom : Schema → List Triple → List Pair → List Pair → List Pair → Type 0
SpreadsFrom s g kept old new =
    ((q : Pair) → Contains old q → Contains new q)
    × ((p : Pair) → Contains new p → Contains kept p × ((q : Pair) × Contains old q × Leads s g p q))

-- each kept pair that needs one that is met is met
abbrev pub HoldUsers : Schema → List Triple → List Pair → List Pair → Type 0
HoldUsers s g kept met = (p q : Pair) → Contains met q → Needs s g p q → Contains kept p → Contains met p
