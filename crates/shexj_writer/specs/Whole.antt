-- Documents whose range facets are whole numbers from -2^63 to 2^64 - 1 (own).
use Rattle.std.specs.Prelude.{Bool, true, ◌&&◌, ℕ, List, [], ◌∷◌, Option, Some, None, encode_utf8_all}
use Rattle.std.specs.List.{list_all}
use Rattle.node_constraint.specs.Constraint.{Constraint}
use Rattle.node_constraint.specs.Making.{range_value}
use Rattle.node_constraint.specs.declared.facet.Facet.{Facet}
use Rattle.schema_documents.specs.Tree.{Declaration, Document, MaybeShapeExpr, MaybeTripleExpr, ShapeExpr, ShapeExprs, TripleBody, TripleExpr, TripleExprs, arc, conj, disj, each, include, more_exprs, more_triples, neg, no_expr, no_exprs, no_triple, no_triples, node, one, one_expr, one_triple, refer, shape, triple}
use Rattle.shexj_writer.specs.Numbers.{is_whole}

-- the value of a range facet, if it is one, is such a number
abbrev pub is_whole_if_any : Option (List ℕ) → Bool
is_whole_if_any None = true
is_whole_if_any (Some value) = is_whole (encode_utf8_all value)

abbrev pub is_whole_facet : Facet → Bool
is_whole_facet facet = is_whole_if_any (range_value facet)

abbrev pub is_whole_constraint : Constraint → Bool
is_whole_constraint c = list_all is_whole_facet c.facets

-- the value of each range facet in an expression is such a number
abbrev mutual
  pub is_whole_expr : ShapeExpr → Bool
  is_whole_expr (conj es) = are_whole_exprs es
  is_whole_expr (disj es) = are_whole_exprs es
  is_whole_expr (neg e) = is_whole_expr e
  is_whole_expr (node c) = is_whole_constraint c
  is_whole_expr (shape closed extra t) = is_whole_expression t
  is_whole_expr (refer l) = true

  pub are_whole_exprs : ShapeExprs → Bool
  are_whole_exprs no_exprs = true
  are_whole_exprs (more_exprs e es) = is_whole_expr e && are_whole_exprs es

  pub is_whole_value : MaybeShapeExpr → Bool
  is_whole_value no_expr = true
  is_whole_value (one_expr e) = is_whole_expr e

  pub is_whole_triple : TripleExpr → Bool
  is_whole_triple (triple name low high b) = is_whole_body b

  pub is_whole_body : TripleBody → Bool
  is_whole_body (each ts) = are_whole_triples ts
  is_whole_body (one ts) = are_whole_triples ts
  is_whole_body (arc inverse predicate e) = is_whole_value e
  is_whole_body (include target) = true

  pub are_whole_triples : TripleExprs → Bool
  are_whole_triples no_triples = true
  are_whole_triples (more_triples t ts) = is_whole_triple t && are_whole_triples ts

  pub is_whole_expression : MaybeTripleExpr → Bool
  is_whole_expression no_triple = true
  is_whole_expression (one_triple t) = is_whole_triple t

abbrev pub are_whole_decls : List Declaration → Bool
are_whole_decls [] = true
are_whole_decls (decl ∷ decls) = is_whole_expr decl.expr && are_whole_decls decls

-- each range facet of the document has a whole number from -2^63 to 2^64 - 1
abbrev pub is_whole_document : Document → Bool
is_whole_document doc = is_whole_value doc.start && are_whole_decls doc.decls
