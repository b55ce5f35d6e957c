-- Documents as plain trees, in which they are compared (ShEx 2.1, sections 5.1 to 5.5).
use Rattle.std.specs.Prelude.{ℕ, Bool, List, [], ◌∷◌, Option, Some, None, map, option_map}
use Rattle.node_constraint.specs.Constraint.{Constraint}
use Rattle.tally.specs.declared.Bound.{Bound}
use Rattle.schema_documents.specs.declared.document.Decl.{Decl}
use Rattle.schema_documents.specs.declared.document.Doc.{Doc}
use Rattle.schema_documents.specs.declared.document.DocExpr.{DocExpr}
use Rattle.schema_documents.specs.declared.document.DocShape.{DocShape}
use Rattle.schema_documents.specs.declared.document.DocTriple.{DocTriple}
use Rattle.schema_documents.specs.declared.document.DocBody.{DocBody}
use Rattle.schema_documents.specs.declared.document.DocArc.{DocArc}
use Rattle.schema_documents.specs.declared.document.DocBody.TheOpen.{DocBody-F, DocExpr-F, DocArc-F, DocShape-F, DocTriple-F}
use Rattle.schema_documents.specs.declared.document.DocBody.TheFolds.{fold-DocBody, fold-DocExpr, fold-DocArc, fold-DocShape, fold-DocTriple}
use Rattle.schema_documents.specs.declared.label.Label.{Label}

mutual
  -- a shape expression: ShapeAnd, ShapeOr, ShapeNot, a node constraint, a Shape (whether it is closed, EXTRA, its triple expression), a reference
  pub data ShapeExpr : Type 0 where
    conj : ShapeExprs → ShapeExpr
    disj : ShapeExprs → ShapeExpr
    neg : ShapeExpr → ShapeExpr
    node : Constraint → ShapeExpr
    shape : Bool → List (List ℕ) → MaybeTripleExpr → ShapeExpr
    refer : Label → ShapeExpr

  pub data ShapeExprs : Type 0 where
    no_exprs : ShapeExprs
    more_exprs : ShapeExpr → ShapeExprs → ShapeExprs

  pub data MaybeShapeExpr : Type 0 where
    no_expr : MaybeShapeExpr
    one_expr : ShapeExpr → MaybeShapeExpr

  -- a triple expression: its label, its cardinality and its body
  pub data TripleExpr : Type 0 where
    triple : Option Label → ℕ → Bound → TripleBody → TripleExpr

  pub data TripleExprs : Type 0 where
    no_triples : TripleExprs
    more_triples : TripleExpr → TripleExprs → TripleExprs

  pub data MaybeTripleExpr : Type 0 where
    no_triple : MaybeTripleExpr
    one_triple : TripleExpr → MaybeTripleExpr

  -- EachOf, OneOf, a TripleConstraint (whether it is inverse, its predicate, its value), an inclusion
  pub data TripleBody : Type 0 where
    each : TripleExprs → TripleBody
    one : TripleExprs → TripleBody
    arc : Bool → List ℕ → MaybeShapeExpr → TripleBody
    include : Label → TripleBody

-- a label with its shape expression
pub record Declaration : Type 0 where
  pub label : Label
  pub expr : ShapeExpr

-- a document: its imports, its start expression if there is one, and its declarations in reading order
pub record Document : Type 0 where
  pub imports : List (List ℕ)
  pub start : MaybeShapeExpr
  pub decls : List Declaration

abbrev pub exprs : List ShapeExpr → ShapeExprs
exprs [] = no_exprs
exprs (e ∷ es) = more_exprs e (exprs es)

abbrev pub triples : List TripleExpr → TripleExprs
triples [] = no_triples
triples (t ∷ ts) = more_triples t (triples ts)

abbrev pub maybe_triple : Option TripleExpr → MaybeTripleExpr
maybe_triple None = no_triple
maybe_triple (Some t) = one_triple t

abbrev pub maybe_expr : Option ShapeExpr → MaybeShapeExpr
maybe_expr None = no_expr
maybe_expr (Some e) = one_expr e

-- one level, with each part inside already seen as its tree
abbrev pub body_step : DocBody-F TripleBody ShapeExpr TripleBody ShapeExpr TripleExpr → TripleBody
body_step (DocBody-F.Each all) = each (triples all.items)
body_step (DocBody-F.One all) = one (triples all.items)
body_step (DocBody-F.Arc a) = a
body_step (DocBody-F.Include l) = include l

abbrev pub expr_step : DocExpr-F TripleBody ShapeExpr TripleBody ShapeExpr TripleExpr → ShapeExpr
expr_step (DocExpr-F.And all) = conj (exprs all.items)
expr_step (DocExpr-F.Or all) = disj (exprs all.items)
expr_step (DocExpr-F.Not e) = neg e.value
expr_step (DocExpr-F.Node c) = node c
expr_step (DocExpr-F.Shape s) = s
expr_step (DocExpr-F.Ref l) = refer l

abbrev pub arc_step : DocArc-F TripleBody ShapeExpr TripleBody ShapeExpr TripleExpr → TripleBody
arc_step a = arc a.inverse a.predicate (maybe_expr (option_map (λ b. b.value) a.value))

abbrev pub shape_step : DocShape-F TripleBody ShapeExpr TripleBody ShapeExpr TripleExpr → ShapeExpr
shape_step s = shape s.closed s.extra (maybe_triple s.expression)

abbrev pub triple_step : DocTriple-F TripleBody ShapeExpr TripleBody ShapeExpr TripleExpr → TripleExpr
triple_step t = triple t.label t.min t.max t.body

-- the tree of an expression, a Shape, a triple expression, its body, a triple constraint
abbrev pub expr_of : DocExpr → ShapeExpr
expr_of = fold-DocExpr TripleBody ShapeExpr TripleBody ShapeExpr TripleExpr body_step expr_step arc_step shape_step triple_step

abbrev pub shape_of : DocShape → ShapeExpr
shape_of = fold-DocShape TripleBody ShapeExpr TripleBody ShapeExpr TripleExpr body_step expr_step arc_step shape_step triple_step

abbrev pub triple_of : DocTriple → TripleExpr
triple_of = fold-DocTriple TripleBody ShapeExpr TripleBody ShapeExpr TripleExpr body_step expr_step arc_step shape_step triple_step

abbrev pub body_of : DocBody → TripleBody
body_of = fold-DocBody TripleBody ShapeExpr TripleBody ShapeExpr TripleExpr body_step expr_step arc_step shape_step triple_step

abbrev pub decl_of : Decl → Declaration
decl_of d = record { label = d.label; expr = expr_of d.expr }

-- the tree of a document
abbrev pub document_of : Doc → Document
document_of d = record { imports = d.imports; start = maybe_expr (option_map expr_of d.start); decls = map decl_of d.decls }
