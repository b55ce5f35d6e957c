-- Shape expressions and triple expressions as JSON (ShEx 2.1, appendix A, and sections 5.3 to 5.5). The keys of each object stand in byte order.
use Rattle.std.specs.Prelude.{ℕ, Bool, List, [], ◌∷◌, Option, Some, None, codes, option_map}
use Rattle.serde_json.specs.Data.{Data, array, string, Items, no_items, item}
use Rattle.tally.specs.declared.Bound.{Bound}
use Rattle.schema_documents.specs.declared.label.Label.{Label}
use Rattle.schema_documents.specs.Tree.{MaybeShapeExpr, MaybeTripleExpr, ShapeExpr, ShapeExprs, TripleBody, TripleExpr, TripleExprs, arc, conj, disj, each, include, more_exprs, more_triples, neg, no_expr, no_exprs, no_triple, no_triples, node, one, one_expr, one_triple, refer, shape, triple}
use Rattle.shexj_writer.specs.Constraints.{constraint_data}
use Rattle.shexj_writer.specs.Objects.{Field, list_if_any, object_of}
use Rattle.shexj_writer.specs.Texts.{flag_data, label_data, max_data, min_data, text_data, texts_items}

-- a ShapeAnd or a ShapeOr of these members
abbrev pub join_fields : Option Data → List ℕ → Items → List Field
join_fields id type members =
    (codes "id", id) ∷
    (codes "shapeExprs", Some (array members)) ∷
    (codes "type", Some (string type)) ∷ []

abbrev pub join_data : Option Data → List ℕ → Items → Data
join_data id type members = object_of (join_fields id type members)

-- a ShapeNot
abbrev pub not_fields : Option Data → Data → List Field
not_fields id member =
    (codes "id", id) ∷
    (codes "shapeExpr", Some member) ∷
    (codes "type", Some (string (codes "ShapeNot"))) ∷ []

abbrev pub not_data : Option Data → Data → Data
not_data id member = object_of (not_fields id member)

-- a Shape
abbrev pub shape_fields : Option Data → Bool → Items → Option Data → List Field
shape_fields id closed extra expression =
    (codes "closed", flag_data closed) ∷
    (codes "expression", expression) ∷
    (codes "extra", list_if_any extra) ∷
    (codes "id", id) ∷
    (codes "type", Some (string (codes "Shape"))) ∷ []

abbrev pub shape_data : Option Data → Bool → Items → Option Data → Data
shape_data id closed extra expression = object_of (shape_fields id closed extra expression)

-- an EachOf or a OneOf of these members
abbrev pub group_fields : List ℕ → Items → Option Label → ℕ → Bound → List Field
group_fields type members name low high =
    (codes "expressions", Some (array members)) ∷
    (codes "id", option_map label_data name) ∷
    (codes "max", max_data low high) ∷
    (codes "min", min_data low high) ∷
    (codes "type", Some (string type)) ∷ []

abbrev pub group_data : List ℕ → Items → Option Label → ℕ → Bound → Data
group_data type members name low high = object_of (group_fields type members name low high)

-- a TripleConstraint
abbrev pub arc_fields : Bool → List ℕ → Option Data → Option Label → ℕ → Bound → List Field
arc_fields inverse predicate value name low high =
    (codes "id", option_map label_data name) ∷
    (codes "inverse", flag_data inverse) ∷
    (codes "max", max_data low high) ∷
    (codes "min", min_data low high) ∷
    (codes "predicate", Some (text_data predicate)) ∷
    (codes "type", Some (string (codes "TripleConstraint"))) ∷
    (codes "valueExpr", value) ∷ []

abbrev pub arc_data : Bool → List ℕ → Option Data → Option Label → ℕ → Bound → Data
arc_data inverse predicate value name low high = object_of (arc_fields inverse predicate value name low high)

abbrev mutual
  -- a shape expression: an object by its type, with its label under `id` where it is declared, or a text for a reference
  pub expr_data : Option Data → ShapeExpr → Data
  expr_data id (conj es) = join_data id (codes "ShapeAnd") (exprs_items es)
  expr_data id (disj es) = join_data id (codes "ShapeOr") (exprs_items es)
  expr_data id (neg e) = not_data id (expr_data None e)
  expr_data id (node c) = constraint_data id c
  expr_data id (shape closed extra t) = shape_data id closed (texts_items extra) (expression_data t)
  expr_data id (refer l) = label_data l

  pub exprs_items : ShapeExprs → Items
  exprs_items no_exprs = no_items
  exprs_items (more_exprs e es) = item (expr_data None e) (exprs_items es)

  -- what stands under `start` or `valueExpr`
  pub value_expr_data : MaybeShapeExpr → Option Data
  value_expr_data no_expr = None
  value_expr_data (one_expr e) = Some (expr_data None e)

  -- a triple expression: an object by its type, or a text for an inclusion
  pub triple_data : TripleExpr → Data
  triple_data (triple name low high b) = body_data b name low high

  pub body_data : TripleBody → Option Label → ℕ → Bound → Data
  body_data (each ts) name low high = group_data (codes "EachOf") (triples_items ts) name low high
  body_data (one ts) name low high = group_data (codes "OneOf") (triples_items ts) name low high
  body_data (arc inverse predicate e) name low high = arc_data inverse predicate (value_expr_data e) name low high
  body_data (include target) name low high = label_data target

  pub triples_items : TripleExprs → Items
  triples_items no_triples = no_items
  triples_items (more_triples t ts) = item (triple_data t) (triples_items ts)

  -- what stands under `expression`
  pub expression_data : MaybeTripleExpr → Option Data
  expression_data no_triple = None
  expression_data (one_triple t) = Some (triple_data t)
