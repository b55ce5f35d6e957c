-- What may be wrong with a JSON value in the place of a shape expression or a triple expression (ShEx 2.1, appendix A).
use Rattle.std.specs.Prelude.{ℕ, suc, Bool, false, true, ◌<◌, ◌≡◌, ◌≢◌, Some, None, List, codes}
use Rattle.serde_json.specs.Data.{Data, Items}
use Rattle.serde_json.specs.Find.{get, get_item}
use Rattle.tally.specs.declared.Bound.TheVariants.{Upto}
use Rattle.shexj_reader.specs.Cardinalities.{least, most}
use Rattle.shexj_reader.specs.ConstraintFaults.{ConstraintFault}
use Rattle.shexj_reader.specs.Constraints.{constraint_keys}
use Rattle.shexj_reader.specs.Faults.{Fault, IsBad, IsUnknownKey, PlainFault, deep, external, form}
use Rattle.shexj_reader.specs.Keys.{flag, is_object, members, text, texts, type_of, with_id, word}
use Rattle.shexj_reader.specs.Labels.{label_if_any, reference}
use Rattle.shexj_reader.specs.Types.{IsGroupType, IsJoin, arc_keys, expr_type, group_keys, join_keys, not_keys, shape_keys, triple_type}
use Rattle.shexj_reader.specs.declared.kinds.ExprKind.{ExprKind}
use Rattle.shexj_reader.specs.declared.kinds.TripleKind.{TripleKind}

-- ---- what is wrong with an object apart from the expressions inside it

-- a ShapeOr or a ShapeAnd: another key, or no members
pub data JoinFault (labelled : Bool) (f : Fault) (d : Data) : Type 0 where
  unknown_key : IsUnknownKey (with_id labelled join_keys) f d → JoinFault labelled f d
  no_members : IsBad (codes "shapeExprs") members f d → JoinFault labelled f d

-- a ShapeNot: another key, or nothing that is negated
pub data NegationFault (labelled : Bool) (f : Fault) (d : Data) : Type 0 where
  unknown_key : IsUnknownKey (with_id labelled not_keys) f d → NegationFault labelled f d
  no_child : f ≡ form (codes "shapeExpr") → get (codes "shapeExpr") d ≡ None → NegationFault labelled f d

-- a Shape
pub data ShapeFault (labelled : Bool) (f : Fault) (d : Data) : Type 0 where
  unknown_key : IsUnknownKey (with_id labelled shape_keys) f d → ShapeFault labelled f d
  bad_closed : IsBad (codes "closed") flag f d → ShapeFault labelled f d
  bad_extra : IsBad (codes "extra") texts f d → ShapeFault labelled f d
  not_plain : PlainFault f d → ShapeFault labelled f d

-- a minimum or a maximum is no such number, or the minimum is above the maximum
pub data CardinalityFault (f : Fault) (d : Data) : Type 0 where
  bad_min : IsBad (codes "min") least f d → CardinalityFault f d
  bad_max : IsBad (codes "max") most f d → CardinalityFault f d
  crossed : (low high : ℕ) → f ≡ form (codes "max") → least (get (codes "min") d) ≡ Some low → most (get (codes "max") d) ≡ Some (Upto high) → high < low → CardinalityFault f d

-- an EachOf or a OneOf
pub data GroupFault (f : Fault) (d : Data) : Type 0 where
  unknown_key : IsUnknownKey group_keys f d → GroupFault f d
  bad_label : IsBad (codes "id") label_if_any f d → GroupFault f d
  no_members : IsBad (codes "expressions") members f d → GroupFault f d
  bad_count : CardinalityFault f d → GroupFault f d
  not_plain : PlainFault f d → GroupFault f d

-- a TripleConstraint
pub data ArcFault (f : Fault) (d : Data) : Type 0 where
  unknown_key : IsUnknownKey arc_keys f d → ArcFault f d
  bad_label : IsBad (codes "id") label_if_any f d → ArcFault f d
  bad_inverse : IsBad (codes "inverse") flag f d → ArcFault f d
  bad_predicate : IsBad (codes "predicate") text f d → ArcFault f d
  bad_count : CardinalityFault f d → ArcFault f d
  not_plain : PlainFault f d → ArcFault f d

-- what stands under the key in the place of a shape expression is neither an object nor, where one may stand, a text
pub record IsNoExpr (key : List ℕ) (labelled : Bool) (f : Fault) (d : Data) : Type 0 where
  pub is : f ≡ form key
  pub no_reference : reference labelled d ≡ None
  pub no_object : is_object d ≡ false

-- an object is of no type of shape expressions
pub record HasNoExprType (f : Fault) (d : Data) : Type 0 where
  pub is : f ≡ form (codes "type")
  pub object : is_object d ≡ true
  pub no_type : (kind : ExprKind) → type_of d ≢ Some (expr_type kind)
  pub no_external : type_of d ≢ Some (codes "ShapeExternal")

-- what stands under the key in the place of a triple expression is neither an object nor a text
pub record IsNoTriple (key : List ℕ) (f : Fault) (d : Data) : Type 0 where
  pub is : f ≡ form key
  pub no_inclusion : word (Some d) ≡ None
  pub no_object : is_object d ≡ false

-- an object is of no type of triple expressions
pub record HasNoTripleType (f : Fault) (d : Data) : Type 0 where
  pub is : f ≡ form (codes "type")
  pub object : is_object d ≡ true
  pub no_type : (kind : TripleKind) → type_of d ≢ Some (triple_type kind)

-- the value v is an item of the list under a key
pub record IsItem (key : List ℕ) (v d : Data) : Type 0 where
  pub items : Items
  pub listed : members (get key d) ≡ Some items
  pub place : ℕ
  pub there : get_item place items ≡ Some v

-- ---- what is wrong with it or with an expression inside it, where n objects may stand in one another

mutual
  -- what stands under a key in the place of a shape expression
  pub data ExprFault (f : Fault) : List ℕ → Bool → ℕ → Data → Type 0 where
    no_expr : {key : List ℕ} {labelled : Bool} {n : ℕ} {d : Data} → IsNoExpr key labelled f d → ExprFault f key labelled n d
    expr_object : {key : List ℕ} {labelled : Bool} {n : ℕ} {d : Data} → ExprObjectFault f labelled n d → ExprFault f key labelled n d

  -- an object in the place of a shape expression; it is too deep where none may stand any more
  pub data ExprObjectFault (f : Fault) : Bool → ℕ → Data → Type 0 where
    no_expr_type : {labelled : Bool} {n : ℕ} {d : Data} → HasNoExprType f d → ExprObjectFault f labelled n d
    outside : {labelled : Bool} {n : ℕ} {d : Data} → f ≡ external → type_of d ≡ Some (codes "ShapeExternal") → ExprObjectFault f labelled n d
    too_deep : {labelled : Bool} {n : ℕ} {d : Data} (kind : ExprKind)
        → f ≡ deep → n ≡ 0 → type_of d ≡ Some (expr_type kind) → ExprObjectFault f labelled n d
    bad_join : {labelled : Bool} {n : ℕ} {d : Data} → IsJoin d → JoinFault labelled f d → ExprObjectFault f labelled n d
    in_join : {labelled : Bool} {n : ℕ} {d : Data} (m : ℕ) (v : Data)
        → n ≡ suc m → IsJoin d → IsItem (codes "shapeExprs") v d → ExprFault f (codes "shapeExprs") false m v → ExprObjectFault f labelled n d
    bad_negation : {labelled : Bool} {n : ℕ} {d : Data}
        → type_of d ≡ Some (codes "ShapeNot") → NegationFault labelled f d → ExprObjectFault f labelled n d
    in_negation : {labelled : Bool} {n : ℕ} {d : Data} (m : ℕ) (v : Data)
        → n ≡ suc m → type_of d ≡ Some (codes "ShapeNot") → get (codes "shapeExpr") d ≡ Some v
        → ExprFault f (codes "shapeExpr") false m v → ExprObjectFault f labelled n d
    bad_constraint : {labelled : Bool} {n : ℕ} {d : Data}
        → type_of d ≡ Some (codes "NodeConstraint") → ConstraintFault (with_id labelled constraint_keys) f d → ExprObjectFault f labelled n d
    bad_shape : {labelled : Bool} {n : ℕ} {d : Data} → type_of d ≡ Some (codes "Shape") → ShapeFault labelled f d → ExprObjectFault f labelled n d
    in_shape : {labelled : Bool} {n : ℕ} {d : Data} (m : ℕ) (v : Data)
        → n ≡ suc m → type_of d ≡ Some (codes "Shape") → get (codes "expression") d ≡ Some v
        → TripleFault f (codes "expression") m v → ExprObjectFault f labelled n d

  -- what stands under a key in the place of a triple expression
  pub data TripleFault (f : Fault) : List ℕ → ℕ → Data → Type 0 where
    no_triple : {key : List ℕ} {n : ℕ} {d : Data} → IsNoTriple key f d → TripleFault f key n d
    triple_object : {key : List ℕ} {n : ℕ} {d : Data} → TripleObjectFault f n d → TripleFault f key n d

  -- an object in the place of a triple expression
  pub data TripleObjectFault (f : Fault) : ℕ → Data → Type 0 where
    no_triple_type : {n : ℕ} {d : Data} → HasNoTripleType f d → TripleObjectFault f n d
    triple_too_deep : {n : ℕ} {d : Data} (kind : TripleKind) → f ≡ deep → n ≡ 0 → type_of d ≡ Some (triple_type kind) → TripleObjectFault f n d
    bad_group : {n : ℕ} {d : Data} → IsGroupType d → GroupFault f d → TripleObjectFault f n d
    in_group : {n : ℕ} {d : Data} (m : ℕ) (v : Data)
        → n ≡ suc m → IsGroupType d → IsItem (codes "expressions") v d → TripleFault f (codes "expressions") m v → TripleObjectFault f n d
    bad_arc : {n : ℕ} {d : Data} → type_of d ≡ Some (codes "TripleConstraint") → ArcFault f d → TripleObjectFault f n d
    in_arc : {n : ℕ} {d : Data} (m : ℕ) (v : Data)
        → n ≡ suc m → type_of d ≡ Some (codes "TripleConstraint") → get (codes "valueExpr") d ≡ Some v
        → ExprFault f (codes "valueExpr") false m v → TripleObjectFault f n d
