-- How deep the expressions of a document nest (own).
use Rattle.std.specs.Prelude.{ℕ, suc, max, List, [], ◌∷◌}
use Rattle.schema_documents.specs.Tree.{Declaration, Document, MaybeShapeExpr, MaybeTripleExpr, ShapeExpr, ShapeExprs, TripleBody, TripleExpr, TripleExprs, arc, conj, disj, each, include, more_exprs, more_triples, neg, no_expr, no_exprs, no_triple, no_triples, node, one, one_expr, one_triple, refer, shape, triple}

-- the number of shape and triple expressions in one another; references and inclusions do not count
abbrev mutual
  pub nesting : ShapeExpr → ℕ
  nesting (conj es) = suc (exprs_nesting es)
  nesting (disj es) = suc (exprs_nesting es)
  nesting (neg e) = suc (nesting e)
  nesting (node c) = 1
  nesting (shape closed extra t) = suc (maybe_triple_nesting t)
  nesting (refer l) = 0

  pub exprs_nesting : ShapeExprs → ℕ
  exprs_nesting no_exprs = 0
  exprs_nesting (more_exprs e es) = max (nesting e) (exprs_nesting es)

  pub maybe_expr_nesting : MaybeShapeExpr → ℕ
  maybe_expr_nesting no_expr = 0
  maybe_expr_nesting (one_expr e) = nesting e

  pub triple_nesting : TripleExpr → ℕ
  triple_nesting (triple l low high b) = body_nesting b

  pub triples_nesting : TripleExprs → ℕ
  triples_nesting no_triples = 0
  triples_nesting (more_triples t ts) = max (triple_nesting t) (triples_nesting ts)

  pub maybe_triple_nesting : MaybeTripleExpr → ℕ
  maybe_triple_nesting no_triple = 0
  maybe_triple_nesting (one_triple t) = triple_nesting t

  pub body_nesting : TripleBody → ℕ
  body_nesting (each ts) = suc (triples_nesting ts)
  body_nesting (one ts) = suc (triples_nesting ts)
  body_nesting (arc inverse p e) = suc (maybe_expr_nesting e)
  body_nesting (include l) = 0

-- how deep declarations nest, and a document; a ShapeDecl does not count
abbrev pub decls_nesting : List Declaration → ℕ
decls_nesting [] = 0
decls_nesting (decl ∷ decls) = max (nesting decl.expr) (decls_nesting decls)

abbrev pub document_nesting : Document → ℕ
document_nesting doc = max (maybe_expr_nesting doc.start) (decls_nesting doc.decls)

-- how many shape and triple expressions may nest in one another (own)
abbrev pub max_nesting : ℕ
max_nesting = 64
