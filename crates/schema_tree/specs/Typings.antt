-- Correct and complete typings (ShEx 2.1, section 5.2, `typing` and `completeTyping`).
use Rattle.std.specs.Prelude.{ℕ, zero, suc, List, [], ◌∷◌, filter, ◌<◌, ◌≤◌, length, ◌≡◌, Contains, nat_lt, max}
use Rattle.rdf_terms.specs.declared.terms.TermId.{TermId}
use Rattle.rdf_terms.specs.declared.terms.Term.{Term}
use Rattle.rdf_terms.specs.declared.terms.Triple.{Triple}
use Rattle.schema_tree.specs.declared.schema.Schema.{Schema}
use Rattle.schema_tree.specs.declared.schema.Pair.{Pair}
use Rattle.schema_tree.specs.Shapes.{ShapeOk}
use Rattle.schema_tree.specs.Edges.{level}

-- each pair of T is one of W
abbrev pub IsPartOf : List Pair → List Pair → Type 0
IsPartOf T W = (p : Pair) → Contains T p → Contains W p

-- the pairs of T below the stratum k
abbrev pub below : List ℕ → ℕ → List Pair → List Pair
below f k T = filter (λ p. nat_lt (level f p.shape) k) T

-- the two lists hold the same pairs
abbrev pub HaveSame : List Pair → List Pair → Type 0
HaveSame T W = IsPartOf T W × IsPartOf W T

-- the nodes of the pairs are of U, and their Shapes are the schema's, on strata up to k
abbrev pub IsOver : Schema → List ℕ → List TermId → ℕ → List Pair → Type 0
IsOver s f U k T = (p : Pair) → Contains T p → Contains U p.node × (p.shape.0 < length s.shapes) × (level f p.shape ≤ k)

-- T is correct on the stratum k: each of its pairs there has its Shape under T
abbrev pub IsCorrectAt : Schema → List Term → List Triple → List ℕ → List Pair → ℕ → Type 0
IsCorrectAt s terms g f T k = (p : Pair) → Contains T p → level f p.shape ≡ k → ShapeOk s terms g T p.node p.shape

-- W is another typing up to the stratum k: it agrees with T below k and is correct on k
pub record IsRival (s : Schema) (terms : List Term) (g : List Triple) (f : List ℕ) (U : List TermId) (T : List Pair) (k : ℕ) (W : List Pair) : Type 0 where
  pub over : IsOver s f U k W
  pub agrees : HaveSame (below f k W) (below f k T)
  pub correct : IsCorrectAt s terms g f W k

-- T is correct on the stratum k and holds every other typing that agrees with it below: it is the union of all
pub record IsGreatestAt (s : Schema) (terms : List Term) (g : List Triple) (f : List ℕ) (U : List TermId) (T : List Pair) (k : ℕ) : Type 0 where
  pub over : IsOver s f U k T
  pub correct : IsCorrectAt s terms g f T k
  pub greatest : (W : List Pair) → IsRival s terms g f U T k W → IsPartOf W T

-- T is the complete typing of the strata up to k: the greatest on k over the complete typing of those below
abbrev pub IsComplete : Schema → List Term → List Triple → List ℕ → List TermId → List Pair → ℕ → Type 0
IsComplete s terms g f U T zero = IsGreatestAt s terms g f U T zero
IsComplete s terms g f U T (suc k) = IsGreatestAt s terms g f U T (suc k) × IsComplete s terms g f U (below f (suc k) T) k

-- the highest number of f, or 0
abbrev pub top_of : List ℕ → ℕ
top_of [] = 0
top_of (k ∷ f) = max k (top_of f)

-- T is the complete typing over U, by the strata f
abbrev pub IsTheTyping : Schema → List Term → List Triple → List ℕ → List TermId → List Pair → Type 0
IsTheTyping s terms g f U T = IsComplete s terms g f U T (top_of f)

-- U has every subject and object of the graph
abbrev pub HoldsEnds : List TermId → List Triple → Type 0
HoldsEnds U g = (t : Triple) → Contains g t → Contains U t.s × Contains U t.o
