-- No minimum of what is spelled is above its bound.
use Rattle.std.proofs.Common.{ℕ, Bool, false, true, List, [], ◌∷◌, arith, subst, sym, inl, inr}
use Rattle.std.specs.Prelude.{Option, Some, None, codes}
use Rattle.serde_json.specs.Data.{Data, Items, no_items, item, null, boolean, number, string, array, object}
use Rattle.serde_json.specs.Find.{get}
use Rattle.tally.specs.declared.Bound.{Bound}
use Rattle.tally.specs.Span.{IsOrdered}
use Rattle.schema_documents.specs.declared.label.Label.{Label}
use Rattle.schema_documents.specs.Tree.{Declaration, Document, MaybeShapeExpr, MaybeTripleExpr, ShapeExpr, ShapeExprs, TripleBody, TripleExpr, TripleExprs, arc, conj, disj, each, include, more_exprs, more_triples, neg, no_expr, no_exprs, no_triple, no_triples, node, one, one_expr, one_triple, refer, shape, triple}
use Rattle.shexj_reader.specs.Bytes.{IsDocumentText}
use Rattle.shexj_reader.specs.Documents.{SpellsDeclaration, SpellsDeclarations, SpellsShapes}
use Rattle.shexj_reader.specs.Expressions.{SpellsBody, SpellsExpr, SpellsExpression, SpellsExprs, SpellsTripleExpr, SpellsTripleExprs, SpellsValueExpr}
use Rattle.schema_documents.specs.Ordered.{AreOrderedDecls, AreOrderedExprs, AreOrderedTriples, IsOrderedBody, IsOrderedDocument, IsOrderedExpr, IsOrderedExpression, IsOrderedTriple, IsOrderedValue}

-- 1 is not above 1
once : (low : ℕ) (high : Bound) (b : TripleBody) (name : Option Label) (d : Data) → SpellsBody b name low high d → IsOrdered low high
once low high (each ts) name d h = h.counted.ordered
once low high (one ts) name d h = h.counted.ordered
once low high (arc i p e) name d h = h.counted.ordered
once low high (include l) name d h = subst (λ (n : ℕ). IsOrdered n high) (sym h.once) (subst (λ (z : Bound). IsOrdered 1 z) (sym h.only_once) (omega arith))

mutual
  expr_ordered : (e : ShapeExpr) (labelled : Bool) (d : Data) → SpellsExpr labelled e d → IsOrderedExpr e
  expr_ordered (disj es) labelled d h = exprs_ordered es h.has_members.items h.has_members.all
  expr_ordered (conj es) labelled d h = exprs_ordered es h.has_members.items h.has_members.all
  expr_ordered (neg e) labelled d h = expr_ordered e false h.has_child.child h.has_child.one
  expr_ordered (node c) labelled d h = tt
  expr_ordered (shape closed extra t) labelled d h = expression_ordered t (get (codes "expression") d) h.has_expression
  expr_ordered (refer l) labelled d h = tt

  exprs_ordered : (es : ShapeExprs) (ds : Items) → SpellsExprs es ds → AreOrderedExprs es
  exprs_ordered no_exprs ds h = tt
  exprs_ordered (more_exprs e es) no_items h = absurd h
  exprs_ordered (more_exprs e es) (item d ds) h = (expr_ordered e false d h.0, exprs_ordered es ds h.1)

  value_ordered : (e : MaybeShapeExpr) (o : Option Data) → SpellsValueExpr e o → IsOrderedValue e
  value_ordered no_expr o h = tt
  value_ordered (one_expr e) None h = absurd h
  value_ordered (one_expr e) (Some d) h = expr_ordered e false d h

  triple_ordered : (t : TripleExpr) (d : Data) → SpellsTripleExpr t d → IsOrderedTriple t
  triple_ordered (triple name low high b) d h = (once low high b name d h, body_ordered b name low high d h)

  triples_ordered : (ts : TripleExprs) (ds : Items) → SpellsTripleExprs ts ds → AreOrderedTriples ts
  triples_ordered no_triples ds h = tt
  triples_ordered (more_triples t ts) no_items h = absurd h
  triples_ordered (more_triples t ts) (item d ds) h = (triple_ordered t d h.0, triples_ordered ts ds h.1)

  expression_ordered : (t : MaybeTripleExpr) (o : Option Data) → SpellsExpression t o → IsOrderedExpression t
  expression_ordered no_triple o h = tt
  expression_ordered (one_triple t) None h = absurd h
  expression_ordered (one_triple t) (Some d) h = triple_ordered t d h

  body_ordered : (b : TripleBody) (name : Option Label) (low : ℕ) (high : Bound) (d : Data) → SpellsBody b name low high d → IsOrderedBody b
  body_ordered (each ts) name low high d h = triples_ordered ts h.has_members.items h.has_members.all
  body_ordered (one ts) name low high d h = triples_ordered ts h.has_members.items h.has_members.all
  body_ordered (arc i p e) name low high d h = value_ordered e (get (codes "valueExpr") d) h.has_value
  body_ordered (include l) name low high d h = tt

decl_ordered : (decl : Declaration) (d : Data) → SpellsDeclaration decl d → IsOrderedExpr decl.expr
decl_ordered decl d (inl h) = expr_ordered decl.expr false h.has_expr.child h.has_expr.one
decl_ordered decl d (inr h) = expr_ordered decl.expr true d h.has_expr

decls_ordered : (decls : List Declaration) (ds : Items) → SpellsDeclarations decls ds → AreOrderedDecls decls
decls_ordered [] ds h = tt
decls_ordered (decl ∷ decls) no_items h = absurd h
decls_ordered (decl ∷ decls) (item d ds) h = (decl_ordered decl d h.0, decls_ordered decls ds h.1)

shapes_ordered : (decls : List Declaration) (o : Option Data) → SpellsShapes decls o → AreOrderedDecls decls
shapes_ordered decls None h = subst AreOrderedDecls (sym h) tt
shapes_ordered decls (Some null) h = absurd h
shapes_ordered decls (Some (boolean b)) h = absurd h
shapes_ordered decls (Some (number n)) h = absurd h
shapes_ordered decls (Some (string s)) h = absurd h
shapes_ordered decls (Some (array ds)) h = decls_ordered decls ds h
shapes_ordered decls (Some (object ms)) h = absurd h

pub document_ordered : (bytes : List ℕ) (doc : Document) → IsDocumentText doc bytes → IsOrderedDocument doc
document_ordered bytes doc h = record {
  start = value_ordered doc.start (get (codes "start") h.value) h.spelled.has_start;
  decls = shapes_ordered doc.decls (get (codes "shapes") h.value) h.spelled.has_shapes;
}
