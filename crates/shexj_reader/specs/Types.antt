-- The types of objects of ShExJ and their keys (ShEx 2.1, appendix A).
use Rattle.std.specs.Prelude.{ℕ, List, [], ◌∷◌, ◌≡◌, Some, codes}
use Rattle.serde_json.specs.Data.{Data}
use Rattle.shexj_reader.specs.Keys.{type_of}
use Rattle.shexj_reader.specs.declared.kinds.ExprKind.{ExprKind}
use Rattle.shexj_reader.specs.declared.kinds.ExprKind.TheVariants as Exprs
use Rattle.shexj_reader.specs.declared.kinds.TripleKind.{TripleKind}
use Rattle.shexj_reader.specs.declared.kinds.TripleKind.TheVariants as Triples

-- the types of shape expressions (section 5.3), but for ShapeExternal
abbrev pub expr_type : ExprKind → List ℕ
expr_type Exprs.Or = codes "ShapeOr"
expr_type Exprs.And = codes "ShapeAnd"
expr_type Exprs.Not = codes "ShapeNot"
expr_type Exprs.Node = codes "NodeConstraint"
expr_type Exprs.Shape = codes "Shape"

-- the types of triple expressions (section 5.5)
abbrev pub triple_type : TripleKind → List ℕ
triple_type Triples.Each = codes "EachOf"
triple_type Triples.One = codes "OneOf"
triple_type Triples.Arc = codes "TripleConstraint"

-- a ShapeOr or a ShapeAnd
pub data IsJoin (d : Data) : Type 0 where
  some_of : type_of d ≡ Some (codes "ShapeOr") → IsJoin d
  all_of : type_of d ≡ Some (codes "ShapeAnd") → IsJoin d

-- an EachOf or a OneOf
pub data IsGroupType (d : Data) : Type 0 where
  each_of : type_of d ≡ Some (codes "EachOf") → IsGroupType d
  one_of : type_of d ≡ Some (codes "OneOf") → IsGroupType d

-- ---- the keys of each type, but for the `id` of a shape expression that is declared

abbrev pub schema_keys : List (List ℕ)
schema_keys = codes "@context" ∷ codes "imports" ∷ codes "shapes" ∷ codes "start" ∷ codes "startActs" ∷ codes "type" ∷ []

abbrev pub decl_keys : List (List ℕ)
decl_keys = codes "abstract" ∷ codes "id" ∷ codes "shapeExpr" ∷ codes "type" ∷ []

abbrev pub join_keys : List (List ℕ)
join_keys = codes "shapeExprs" ∷ codes "type" ∷ []

abbrev pub not_keys : List (List ℕ)
not_keys = codes "shapeExpr" ∷ codes "type" ∷ []

abbrev pub shape_keys : List (List ℕ)
shape_keys = codes "annotations" ∷ codes "closed" ∷ codes "expression" ∷ codes "extra" ∷ codes "semActs" ∷ codes "type" ∷ []

abbrev pub group_keys : List (List ℕ)
group_keys = codes "annotations" ∷ codes "expressions" ∷ codes "id" ∷ codes "max" ∷ codes "min" ∷ codes "semActs" ∷ codes "type" ∷ []

abbrev pub arc_keys : List (List ℕ)
arc_keys =
    codes "annotations" ∷ codes "id" ∷ codes "inverse" ∷ codes "max" ∷ codes "min" ∷ codes "predicate" ∷
    codes "semActs" ∷ codes "type" ∷ codes "valueExpr" ∷ []
