-- Which Shapes depend on which, with which sign, and what a stratification is (ShEx 2.1, section 5.7.4, negation
-- requirement, and section 5.2, stratification).
use Rattle.std.specs.Prelude.{ℕ, Bool, true, false, List, ◌+◌, ◌<◌, ◌≤◌, length, Option, Some, None, ◌≡◌, ◌⊎◌, Contains, slice_index}
use Rattle.rdf_terms.specs.declared.terms.TermId.{TermId}
use Rattle.schema_tree.specs.declared.schema.Occurrence.{Occurrence}
use Rattle.schema_tree.specs.declared.schema.Schema.{Schema}
use Rattle.schema_tree.specs.declared.schema.Shape.{Shape}
use Rattle.schema_tree.specs.declared.schema.ShapeId.{ShapeId}
use Rattle.schema_tree.specs.declared.schema.ExprId.{ExprId}
use Rattle.schema_tree.specs.declared.schema.Expr.TheVariants as Exprs
use Rattle.schema_tree.specs.Entries.{entry, shape_at}

-- the Shape t stands in the expression e, references followed, without passing into another Shape; the sign is true
-- where a ShapeNot stands on the way
pub data StandsIn (s : Schema) (t : ShapeId) : ExprId → Bool → Type 0 where
  itself : {e : ExprId} → entry s e ≡ Some (Exprs.Shape t) → StandsIn s t e false
  in_and : {e : ExprId} {sign : Bool} (es : List ExprId) (d : ExprId) → entry s e ≡ Some (Exprs.And es) → Contains es d → StandsIn s t d sign → StandsIn s t e sign
  in_or : {e : ExprId} {sign : Bool} (es : List ExprId) (d : ExprId) → entry s e ≡ Some (Exprs.Or es) → Contains es d → StandsIn s t d sign → StandsIn s t e sign
  in_not : {e : ExprId} {sign : Bool} (d : ExprId) → entry s e ≡ Some (Exprs.Not d) → StandsIn s t d sign → StandsIn s t e true

-- the Shape t stands in the value of the occurrence, if there is one
abbrev pub StandsInValue : Schema → ShapeId → Option ExprId → Bool → Type 0
StandsInValue s t None sign = ⊥
StandsInValue s t (Some e) sign = StandsIn s t e sign

-- the occurrence is not inverse and its predicate is in extra, so that a triple may be left over for want of its value
abbrev pub IsExtra : List TermId → Occurrence → Type 0
IsExtra extra o = (o.inverse ≡ false) × Contains extra o.predicate

-- an edge from the Shape i to the Shape t: t stands in the value of an occurrence of i
pub record Edge (s : Schema) (i t : ShapeId) : Type 0 where
  pub shape : Shape
  pub is : shape_at s i ≡ Some shape
  pub occ : Occurrence
  pub of : Contains shape.occs occ
  pub sign : Bool
  pub stands : StandsInValue s t occ.value sign

-- the edge is negative: behind a ShapeNot, or under EXTRA; two ShapeNots do not cancel
abbrev pub IsNegative : {s : Schema} {i t : ShapeId} → Edge s i t → Type 0
IsNegative e = (e.sign ≡ true) ⊎ IsExtra e.shape.extra e.occ

-- the number that f gives the Shape
abbrev pub level : List ℕ → ShapeId → ℕ
level f i = slice_index f i.0

-- f has one number per Shape, never rises along an edge and falls along a negative one
pub record IsStratified (s : Schema) (f : List ℕ) : Type 0 where
  pub one_each : length f ≡ length s.shapes
  pub never_rises : (i t : ShapeId) → Edge s i t → level f t ≤ level f i
  pub falls : (i t : ShapeId) (e : Edge s i t) → IsNegative e → level f t < level f i

-- a path of edges from i to t with so many negative edges counted
pub data Path (s : Schema) : ShapeId → ShapeId → ℕ → Type 0 where
  stay : {i : ShapeId} → Path s i i 0
  by_any : {i t : ShapeId} {k : ℕ} (j : ShapeId) → Edge s i j → Path s j t k → Path s i t k
  by_negative : {i t : ShapeId} {k : ℕ} (j : ShapeId) (e : Edge s i j) → IsNegative e → Path s j t k → Path s i t (1 + k)

-- k is the greatest number of negative edges on a path from i
abbrev pub IsStratumOf : Schema → ShapeId → ℕ → Type 0
IsStratumOf s i k = ((t : ShapeId) × Path s i t k) × ((t : ShapeId) (m : ℕ) → Path s i t m → m ≤ k)

-- f gives each Shape its stratum
abbrev pub IsStratum : Schema → List ℕ → Type 0
IsStratum s f = (length f ≡ length s.shapes) × ((i : ShapeId) → i.0 < length s.shapes → IsStratumOf s i (level f i))
