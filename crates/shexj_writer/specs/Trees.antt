-- The tree of a triple constraint.
use Rattle.schema_documents.specs.Tree.{ShapeExpr, TripleBody, TripleExpr, arc_step, body_step, expr_step, shape_step, triple_step}
use Rattle.schema_documents.specs.declared.document.DocArc.{DocArc}
use Rattle.schema_documents.specs.declared.document.DocBody.TheFolds.{fold-DocArc}

abbrev pub arc_of : DocArc → TripleBody
arc_of = fold-DocArc TripleBody ShapeExpr TripleBody ShapeExpr TripleExpr body_step expr_step arc_step shape_step triple_step
