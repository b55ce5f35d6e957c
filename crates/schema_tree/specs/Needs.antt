-- Which pairs an answer depends on (own).
use Rattle.std.specs.Prelude.{ℕ, Bool, true, List, Some, ◌≡◌, ◌≤◌, Contains}
use Rattle.rdf_terms.specs.declared.terms.TermId.{TermId}
use Rattle.rdf_terms.specs.declared.terms.Term.{Term}
use Rattle.rdf_terms.specs.declared.terms.Triple.{Triple}
use Rattle.schema_tree.specs.declared.schema.Occurrence.{Occurrence}
use Rattle.schema_tree.specs.declared.schema.Schema.{Schema}
use Rattle.schema_tree.specs.declared.schema.Shape.{Shape}
use Rattle.schema_tree.specs.declared.schema.ShapeId.{ShapeId}
use Rattle.schema_tree.specs.declared.schema.ExprId.{ExprId}
use Rattle.schema_tree.specs.declared.schema.Pair.{Pair}
use Rattle.schema_tree.specs.Entries.{pair_of, shape_at}
use Rattle.schema_tree.specs.Matches.{fits, other_end}
use Rattle.schema_tree.specs.Edges.{StandsIn, StandsInValue}
use Rattle.schema_tree.specs.Width.{IsWide, IsWithinWidth, coarse}

-- p needs q: an occurrence of p's Shape fits a triple of p's node, whose other end is q's node, and q's Shape stands in
-- the occurrence's value
pub record Needs (s : Schema) (g : List Triple) (p q : Pair) : Type 0 where
  pub shape : Shape
  pub is : shape_at s p.shape ≡ Some shape
  pub occ : Occurrence
  pub of : Contains shape.occs occ
  pub triple : Triple
  pub held : Contains g triple
  pub fit : fits occ p.node triple ≡ true
  pub end : q.node ≡ other_end occ.inverse triple
  pub sign : Bool
  pub stands : StandsInValue s q.shape occ.value sign

-- any number of needs lead from the first pair to the second
pub data Leads (s : Schema) (g : List Triple) : Pair → Pair → Type 0 where
  here : {p : Pair} → Leads s g p p
  step : {p r : Pair} (q : Pair) → Needs s g p q → Leads s g q r → Leads s g p r

-- the node with the expression reaches the pair: needs lead to it from the node with a Shape that stands in the expression
abbrev pub Reaches : Schema → List Triple → TermId → ExprId → Pair → Type 0
Reaches s g n e q = (i : ShapeId) × (sign : Bool) × StandsIn s i e sign × Leads s g (record { node = n; shape = i }) q

-- no pair that the node with the expression reaches has a Width above the budget
abbrev pub IsDecided : Schema → List Term → List Triple → ℕ → TermId → ExprId → Type 0
IsDecided s terms g budget n e = (q : Pair) → Reaches s g n e q → IsWithinWidth s terms g budget q

-- the node with the expression reaches a pair whose Width is above the budget
abbrev pub ReachesWide : Schema → List Term → List Triple → ℕ → TermId → ExprId → Type 0
ReachesWide s terms g budget n e = (q : Pair) × Reaches s g n e q × IsWide s terms g budget q

-- for no pair that the node with the expression reaches is the product over the classes by form alone above the budget
abbrev pub IsDecidedByForm : Schema → List Triple → ℕ → TermId → ExprId → Type 0
IsDecidedByForm s g budget n e = (q : Pair) → Reaches s g n e q → coarse s g q ≤ budget

-- the pairs have each pair that one of them needs
abbrev pub HoldNeeds : Schema → List Triple → List Pair → Type 0
HoldNeeds s g pairs = (p q : Pair) → Contains pairs p → Needs s g p q → Contains pairs q

-- the pairs have the node with each Shape that stands in the expression
abbrev pub HoldRoots : Schema → List Pair → TermId → ExprId → Type 0
HoldRoots s pairs n e = (i : ShapeId) (sign : Bool) → StandsIn s i e sign → Contains pairs (pair_of n i)

-- no pair that needs lead to from the pair has a Width above the budget
abbrev pub LeadsToNarrow : Schema → List Term → List Triple → ℕ → Pair → Type 0
LeadsToNarrow s terms g budget p = (q : Pair) → Leads s g p q → IsWithinWidth s terms g budget q

-- needs lead from the pair to one whose Width is above the budget
abbrev pub LeadsToWide : Schema → List Term → List Triple → ℕ → Pair → Type 0
LeadsToWide s terms g budget p = (q : Pair) × Leads s g p q × IsWide s terms g budget q
