-- Documents in which no minimum is above its bound (ShEx 2.1, section 5.5).
use Rattle.std.specs.Prelude.{List, [], ◌∷◌, ⊤}
use Rattle.tally.specs.Span.{IsOrdered}
use Rattle.schema_documents.specs.Tree.{Declaration, Document, MaybeShapeExpr, MaybeTripleExpr, ShapeExpr, ShapeExprs, TripleBody, TripleExpr, TripleExprs, arc, conj, disj, each, include, more_exprs, more_triples, neg, no_expr, no_exprs, no_triple, no_triples, node, one, one_expr, one_triple, refer, shape, triple}

-- no triple expression in it has a minimum above its bound
abbrev mutual
  pub IsOrderedExpr : ShapeExpr → Type 0
  IsOrderedExpr (conj es) = AreOrderedExprs es
  IsOrderedExpr (disj es) = AreOrderedExprs es
  IsOrderedExpr (neg e) = IsOrderedExpr e
  IsOrderedExpr (node c) = ⊤
  IsOrderedExpr (shape closed extra t) = IsOrderedExpression t
  IsOrderedExpr (refer l) = ⊤

  pub AreOrderedExprs : ShapeExprs → Type 0
  AreOrderedExprs no_exprs = ⊤
  AreOrderedExprs (more_exprs e es) = IsOrderedExpr e × AreOrderedExprs es

  pub IsOrderedValue : MaybeShapeExpr → Type 0
  IsOrderedValue no_expr = ⊤
  IsOrderedValue (one_expr e) = IsOrderedExpr e

  pub IsOrderedTriple : TripleExpr → Type 0
  IsOrderedTriple (triple name low high b) = IsOrdered low high × IsOrderedBody b

  pub AreOrderedTriples : TripleExprs → Type 0
  AreOrderedTriples no_triples = ⊤
  AreOrderedTriples (more_triples t ts) = IsOrderedTriple t × AreOrderedTriples ts

  pub IsOrderedExpression : MaybeTripleExpr → Type 0
  IsOrderedExpression no_triple = ⊤
  IsOrderedExpression (one_triple t) = IsOrderedTriple t

  pub IsOrderedBody : TripleBody → Type 0
  IsOrderedBody (each ts) = AreOrderedTriples ts
  IsOrderedBody (one ts) = AreOrderedTriples ts
  IsOrderedBody (arc inverse p e) = IsOrderedValue e
  IsOrderedBody (include l) = ⊤

abbrev pub AreOrderedDecls : List Declaration → Type 0
AreOrderedDecls [] = ⊤
AreOrderedDecls (decl ∷ decls) = IsOrderedExpr decl.expr × AreOrderedDecls decls

pub record IsOrderedDocument (doc : Document) : Type 0 where
  pub start : IsOrderedValue doc.start
  pub decls : AreOrderedDecls doc.decls
