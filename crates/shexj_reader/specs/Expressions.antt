-- Which JSON values stand for shape expressions and triple expressions (ShEx 2.1, appendix A, and sections 5.3 to 5.5).
use Rattle.std.specs.Prelude.{ℕ, ◌≡◌, Bool, false, List, Option, Some, None, codes, ⊤}
use Rattle.serde_json.specs.Data.{Data, Items, no_items, item}
use Rattle.serde_json.specs.Find.{get}
use Rattle.tally.specs.declared.Bound.{Bound}
use Rattle.tally.specs.declared.Bound.TheVariants.{Upto}
use Rattle.schema_documents.specs.declared.label.Label.{Label}
use Rattle.schema_documents.specs.Tree.{MaybeShapeExpr, MaybeTripleExpr, ShapeExpr, ShapeExprs, TripleBody, TripleExpr, TripleExprs, arc, conj, disj, each, include, more_exprs, more_triples, neg, no_expr, no_exprs, no_triple, no_triples, node, one, one_expr, one_triple, refer, shape, triple}
use Rattle.shexj_reader.specs.Cardinalities.{IsCardinality}
use Rattle.shexj_reader.specs.Constraints.{IsConstraint, constraint_keys}
use Rattle.shexj_reader.specs.Keys.{IsObject, IsPlain, flag, members, text, texts, with_id}
use Rattle.shexj_reader.specs.Labels.{label, label_if_any, reference}
use Rattle.shexj_reader.specs.Types.{arc_keys, group_keys, join_keys, not_keys, shape_keys}

-- under the key stands a list that is not empty, whose items are what `spelled` says
pub record HasMembers (key : List ℕ) (spelled : Items → Type 0) (d : Data) : Type 0 where
  pub items : Items
  pub found : members (get key d) ≡ Some items
  pub all : spelled items

-- under the key stands a value that is what `spelled` says
pub record HasChild (key : List ℕ) (spelled : Data → Type 0) (d : Data) : Type 0 where
  pub child : Data
  pub found : get key d ≡ Some child
  pub one : spelled child

-- a ShapeOr or a ShapeAnd of these members; like all shape expressions it has `id` only where it is labelled, as a declaration
pub record IsJoined (labelled : Bool) (type : List ℕ) (spelled : Items → Type 0) (d : Data) : Type 0 where
  pub object : IsObject type (with_id labelled join_keys) d
  pub has_members : HasMembers (codes "shapeExprs") spelled d

-- a ShapeNot
pub record IsNegated (labelled : Bool) (spelled : Data → Type 0) (d : Data) : Type 0 where
  pub object : IsObject (codes "ShapeNot") (with_id labelled not_keys) d
  pub has_child : HasChild (codes "shapeExpr") spelled d

-- a Shape
pub record IsShape (labelled closed : Bool) (extra : List (List ℕ)) (spelled : Option Data → Type 0) (d : Data) : Type 0 where
  pub object : IsObject (codes "Shape") (with_id labelled shape_keys) d
  pub has_closed : flag (get (codes "closed") d) ≡ Some closed
  pub has_extra : texts (get (codes "extra") d) ≡ Some extra
  pub has_expression : spelled (get (codes "expression") d)
  pub plain : IsPlain d

-- an EachOf or a OneOf
pub record IsGroup (type : List ℕ) (spelled : Items → Type 0) (name : Option Label) (low : ℕ) (high : Bound) (d : Data) : Type 0 where
  pub object : IsObject type group_keys d
  pub has_label : label_if_any (get (codes "id") d) ≡ Some name
  pub has_members : HasMembers (codes "expressions") spelled d
  pub counted : IsCardinality low high d
  pub plain : IsPlain d

-- a TripleConstraint
pub record IsArc (inverse : Bool) (predicate : List ℕ) (spelled : Option Data → Type 0) (name : Option Label) (low : ℕ) (high : Bound) (d : Data) : Type 0 where
  pub object : IsObject (codes "TripleConstraint") arc_keys d
  pub has_label : label_if_any (get (codes "id") d) ≡ Some name
  pub has_inverse : flag (get (codes "inverse") d) ≡ Some inverse
  pub has_predicate : text (get (codes "predicate") d) ≡ Some predicate
  pub has_value : spelled (get (codes "valueExpr") d)
  pub counted : IsCardinality low high d
  pub plain : IsPlain d

-- an inclusion: a text, which has no label and no cardinality of its own
pub record IsInclusion (target : Label) (name : Option Label) (low : ℕ) (high : Bound) (d : Data) : Type 0 where
  pub has_target : label (Some d) ≡ Some target
  pub no_label : name ≡ None
  pub once : low ≡ 1
  pub only_once : high ≡ Upto 1

abbrev mutual
  -- a shape expression, labelled or not: an object by its type, or a text for a reference
  pub SpellsExpr : Bool → ShapeExpr → Data → Type 0
  SpellsExpr labelled (disj es) d = IsJoined labelled (codes "ShapeOr") (SpellsExprs es) d
  SpellsExpr labelled (conj es) d = IsJoined labelled (codes "ShapeAnd") (SpellsExprs es) d
  SpellsExpr labelled (neg e) d = IsNegated labelled (SpellsExpr false e) d
  SpellsExpr labelled (node c) d = IsConstraint (with_id labelled constraint_keys) c d
  SpellsExpr labelled (shape closed extra t) d = IsShape labelled closed extra (SpellsExpression t) d
  SpellsExpr labelled (refer l) d = reference labelled d ≡ Some l

  -- the members of a ShapeOr or a ShapeAnd
  pub SpellsExprs : ShapeExprs → Items → Type 0
  SpellsExprs no_exprs no_items = ⊤
  SpellsExprs no_exprs (item d ds) = ⊥
  SpellsExprs (more_exprs e es) no_items = ⊥
  SpellsExprs (more_exprs e es) (item d ds) = SpellsExpr false e d × SpellsExprs es ds

  -- what stands under `start` or `valueExpr`: a shape expression, or nothing
  pub SpellsValueExpr : MaybeShapeExpr → Option Data → Type 0
  SpellsValueExpr no_expr None = ⊤
  SpellsValueExpr no_expr (Some d) = ⊥
  SpellsValueExpr (one_expr e) None = ⊥
  SpellsValueExpr (one_expr e) (Some d) = SpellsExpr false e d

  -- a triple expression: an object by its type, or a text for an inclusion
  pub SpellsTripleExpr : TripleExpr → Data → Type 0
  SpellsTripleExpr (triple name low high b) d = SpellsBody b name low high d

  pub SpellsBody : TripleBody → Option Label → ℕ → Bound → Data → Type 0
  SpellsBody (each ts) name low high d = IsGroup (codes "EachOf") (SpellsTripleExprs ts) name low high d
  SpellsBody (one ts) name low high d = IsGroup (codes "OneOf") (SpellsTripleExprs ts) name low high d
  SpellsBody (arc inverse predicate e) name low high d = IsArc inverse predicate (SpellsValueExpr e) name low high d
  SpellsBody (include target) name low high d = IsInclusion target name low high d

  -- the members of an EachOf or a OneOf
  pub SpellsTripleExprs : TripleExprs → Items → Type 0
  SpellsTripleExprs no_triples no_items = ⊤
  SpellsTripleExprs no_triples (item d ds) = ⊥
  SpellsTripleExprs (more_triples t ts) no_items = ⊥
  SpellsTripleExprs (more_triples t ts) (item d ds) = SpellsTripleExpr t d × SpellsTripleExprs ts ds

  -- what stands under `expression`: a triple expression, or nothing
  pub SpellsExpression : MaybeTripleExpr → Option Data → Type 0
  SpellsExpression no_triple None = ⊤
  SpellsExpression no_triple (Some d) = ⊥
  SpellsExpression (one_triple t) None = ⊥
  SpellsExpression (one_triple t) (Some d) = SpellsTripleExpr t d
