-- What a question is answered by, and what is kept then (own).
use Rattle.std.specs.Prelude.{ℕ, List, [], ◌∷◌, ◌≡◌, ◌↔◌, ◌⊎◌, Contains}
use Rattle.std.specs.List.Sorted.{IsStrictlySortedBy}
use Rattle.rdf_terms.specs.declared.terms.Term.{Term}
use Rattle.rdf_terms.specs.declared.terms.TermId.{TermId}
use Rattle.rdf_terms.specs.declared.terms.Triple.{Triple}
use Rattle.schema_tree.specs.declared.schema.ExprId.{ExprId}
use Rattle.schema_tree.specs.declared.schema.Pair.{Pair}
use Rattle.schema_tree.specs.declared.schema.Schema.{Schema}
use Rattle.schema_tree.specs.declared.verdicts.Verdict.{Verdict}
use Rattle.schema_tree.specs.declared.verdicts.Verdict.TheVariants.{No, Unknown, Yes}
use Rattle.schema_tree.specs.Edges.{IsStratified}
use Rattle.schema_tree.specs.Needs.{Reaches, ReachesWide}
use Rattle.schema_tree.specs.Removal.{IsRefined}
use Rattle.schema_tree.specs.Satisfies.{Sat}
use Rattle.schema_tree.specs.Sure.{IsSure, Known}
use Rattle.schema_tree.specs.Typings.{HoldsEnds, IsTheTyping}
use Rattle.demand.specs.declared.reach.Root.{Root}
use Rattle.demand.specs.Demand.{AreAsked, AreTooMany}
use Rattle.demand.specs.Orders.{compare_pairs}
use Rattle.locality_laws.specs.Local.{IsVerdict}

-- the node with the expression
abbrev pub root_of : TermId → ExprId → List Root
root_of n e = record { node = n; expr = e } ∷ []

-- the pairs that the node with the expression reaches, without those that are kept, in order
pub record AreFresh (s : Schema) (terms : List Term) (g : List Triple) (kept : List Pair) (n : TermId) (e : ExprId) (fresh : List Pair) : Type 0 where
  pub sorted : IsStrictlySortedBy (compare_pairs terms) fresh
  pub exactly : (q : Pair) → Contains fresh q ↔ (Reaches s g n e q × (¬ Contains kept q))

-- the node with the expression reaches more pairs than may be asked for
abbrev pub ReachesTooMany : Schema → List Triple → TermId → ExprId → Type 0
ReachesTooMany s g n e = AreTooMany s g (root_of n e)

-- what was kept is kept, and all pairs that the node with the expression reaches
abbrev pub Keeps : Schema → List Triple → TermId → ExprId → List Pair → List Pair → Type 0
Keeps s g n e old new = (q : Pair) → Contains new q ↔ (Contains old q ⊎ Reaches s g n e q)

-- the verdict is what the expression is at the node under the verdicts of refinement of the pairs that the two reach
abbrev pub IsAnswer : Schema → List Term → List Triple → List ℕ → ℕ → TermId → ExprId → Verdict → Type 0
IsAnswer s terms g f budget n e v =
    (pairs : List Pair) (known : Known) → AreAsked s terms g (root_of n e) pairs → IsRefined s terms g f pairs budget known → IsSure s terms known n e v

-- Yes is so in every complete typing over terms that hold the node and the graph's ends, and No in none (ShEx 2.1, section 5.2)
abbrev pub IsTrueAnswer : Schema → List Term → List Triple → List ℕ → TermId → ExprId → Verdict → Type 0
IsTrueAnswer s terms g f n e v =
    (U : List TermId) (T : List Pair) → IsTheTyping s terms g f U T → HoldsEnds U g → Contains U n →
    (v ≡ Yes → Sat s terms T n e) × (v ≡ No → ¬ Sat s terms T n e)

-- Unknown comes only where the node with the expression reaches a pair whose Width is above the budget
abbrev pub IsUnknownOnlyWide : Schema → List Term → List Triple → ℕ → TermId → ExprId → Verdict → Type 0
IsUnknownOnlyWide s terms g budget n e v = v ≡ Unknown → ReachesWide s terms g budget n e

-- the verdict is the same by any stratification
abbrev pub IsAnswerByAll : Schema → List Term → List Triple → ℕ → TermId → ExprId → Verdict → Type 0
IsAnswerByAll s terms g budget n e v = (h : List ℕ) → IsStratified s h → IsAnswer s terms g h budget n e v

-- the verdict on a pair is one by any stratification
abbrev pub IsVerdictByAll : Schema → List Term → List Triple → ℕ → Pair → Verdict → Type 0
IsVerdictByAll s terms g budget p v = (h : List ℕ) → IsStratified s h → IsVerdict s terms g h budget p v
