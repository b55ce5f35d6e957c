-- Which Shapes stand in the values of a Shape's occurrences (own).
use Rattle.std.specs.Prelude.{ℕ, Bool, List, [], ◌∷◌, map, ◌≡◌, ◌↔◌, Contains, Option, Some, None}
use Rattle.std.specs.List.{AllZip}
use Rattle.schema_tree.specs.declared.schema.Expr.{Expr}
use Rattle.schema_tree.specs.declared.schema.Expr.TheVariants as Exprs
use Rattle.schema_tree.specs.declared.schema.ExprId.{ExprId}
use Rattle.schema_tree.specs.declared.schema.Occurrence.{Occurrence}
use Rattle.schema_tree.specs.declared.schema.Schema.{Schema}
use Rattle.schema_tree.specs.declared.schema.Shape.{Shape}
use Rattle.schema_tree.specs.declared.schema.ShapeId.{ShapeId}
use Rattle.schema_tree.specs.Edges.{StandsIn, StandsInValue}
use Rattle.demand.specs.declared.links.Link.{Link}

-- the numbers of the members of an expression
abbrev pub members_of : Option Expr → List ℕ
members_of (Some (Exprs.And es)) = map (λ d. d.0) es
members_of (Some (Exprs.Or es)) = map (λ d. d.0) es
members_of (Some (Exprs.Not d)) = d.0 ∷ []
members_of (Some (Exprs.Node c)) = []
members_of (Some (Exprs.Shape i)) = []
members_of None = []

-- the Shape that an expression is
abbrev pub own_of : Option Expr → List ShapeId
own_of (Some (Exprs.And es)) = []
own_of (Some (Exprs.Or es)) = []
own_of (Some (Exprs.Not d)) = []
own_of (Some (Exprs.Node c)) = []
own_of (Some (Exprs.Shape i)) = i ∷ []
own_of None = []

-- the Shape stands in the expression, behind a ShapeNot or not
abbrev pub StandsAny : Schema → ShapeId → ExprId → Type 0
StandsAny s i e = (sign : Bool) × StandsIn s i e sign

-- it stands in an expression whose number is one of these
abbrev pub StandsInSome : Schema → List ℕ → ShapeId → Type 0
StandsInSome s todo i = (d : ExprId) × Contains todo d.0 × StandsAny s i d

-- the Shapes are those that stand in the expression
abbrev pub AreShapesIn : Schema → ExprId → List ShapeId → Type 0
AreShapesIn s e shapes = (i : ShapeId) → Contains shapes i ↔ StandsAny s i e

-- the Shapes are those that stand in the value, and none where there is no value
abbrev pub AreShapesOf : Schema → Option ExprId → List ShapeId → Type 0
AreShapesOf s value shapes = (i : ShapeId) → Contains shapes i ↔ ((sign : Bool) × StandsInValue s i value sign)

-- the link is the occurrence with the Shapes that stand in its value
pub record IsLink (s : Schema) (o : Occurrence) (l : Link) : Type 0 where
  pub occ : l.occ ≡ o
  pub shapes : AreShapesOf s o.value l.shapes

-- one for each occurrence of the Shape
abbrev pub AreLinksOf : Schema → Shape → List Link → Type 0
AreLinksOf s sh links = AllZip (IsLink s) sh.occs links

-- and this for each Shape of the schema
abbrev pub AreLinks : Schema → List (List Link) → Type 0
AreLinks s links = AllZip (AreLinksOf s) s.shapes links
