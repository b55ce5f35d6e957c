-- A document as it is read back: the facets of each constraint in the order of ShExJ's keys (ShEx 2.1, appendix A), and the text of each range facet in plain decimal digits.
use Rattle.std.specs.Prelude.{ℕ, List, [], ◌∷◌, codes, encode_utf8_all, filter, map}
use Rattle.std.specs.Fmt.{signed_decimal}
use Rattle.std.specs.List.{flat_map}
use Rattle.std.specs.Str.{bytes_eq}
use Rattle.node_constraint.specs.Constraint.{Constraint}
use Rattle.node_constraint.specs.declared.facet.Facet.{Facet}
use Rattle.node_constraint.specs.declared.facet.Facet.TheVariants as Facets
use Rattle.schema_documents.specs.Tree.{Declaration, Document, MaybeShapeExpr, MaybeTripleExpr, ShapeExpr, ShapeExprs, TripleBody, TripleExpr, TripleExprs, arc, conj, disj, each, include, more_exprs, more_triples, neg, no_expr, no_exprs, no_triple, no_triples, node, one, one_expr, one_triple, refer, shape, triple}
use Rattle.shexj_writer.specs.Constraints.{facet_key}
use Rattle.shexj_writer.specs.Numbers.{whole_value}

-- the keys of facets, in the order in which a constraint that is read has its facets
abbrev pub facet_keys : List (List ℕ)
facet_keys =
    codes "length" ∷ codes "minlength" ∷ codes "maxlength" ∷ codes "pattern" ∷ codes "mininclusive" ∷
    codes "minexclusive" ∷ codes "maxinclusive" ∷ codes "maxexclusive" ∷ codes "totaldigits" ∷ codes "fractiondigits" ∷ []

-- the plain digits of the whole number that a text stands for, behind a sign where it is negative
abbrev pub plain_digits : List ℕ → List ℕ
plain_digits text = signed_decimal (whole_value (encode_utf8_all text))

-- a facet with its number in plain digits
abbrev pub plain_facet : Facet → Facet
plain_facet (Facets.MinInclusive bound) = Facets.MinInclusive (plain_digits bound)
plain_facet (Facets.MinExclusive bound) = Facets.MinExclusive (plain_digits bound)
plain_facet (Facets.MaxInclusive bound) = Facets.MaxInclusive (plain_digits bound)
plain_facet (Facets.MaxExclusive bound) = Facets.MaxExclusive (plain_digits bound)
plain_facet facet = facet

-- the facets with this key
abbrev pub all_under : List ℕ → List Facet → List Facet
all_under key facets = filter (λ facet. bytes_eq (facet_key facet) key) facets

-- the facets by their keys
abbrev pub plain_facets : List Facet → List Facet
plain_facets facets = flat_map (λ key. map plain_facet (all_under key facets)) facet_keys

abbrev pub plain_constraint : Constraint → Constraint
plain_constraint c = record { kind = c.kind; datatype = c.datatype; facets = plain_facets c.facets; values = c.values }

abbrev mutual
  pub plain_expr : ShapeExpr → ShapeExpr
  plain_expr (conj es) = conj (plain_exprs es)
  plain_expr (disj es) = disj (plain_exprs es)
  plain_expr (neg e) = neg (plain_expr e)
  plain_expr (node c) = node (plain_constraint c)
  plain_expr (shape closed extra t) = shape closed extra (plain_expression t)
  plain_expr (refer l) = refer l

  pub plain_exprs : ShapeExprs → ShapeExprs
  plain_exprs no_exprs = no_exprs
  plain_exprs (more_exprs e es) = more_exprs (plain_expr e) (plain_exprs es)

  pub plain_value : MaybeShapeExpr → MaybeShapeExpr
  plain_value no_expr = no_expr
  plain_value (one_expr e) = one_expr (plain_expr e)

  pub plain_triple : TripleExpr → TripleExpr
  plain_triple (triple name low high b) = triple name low high (plain_body b)

  pub plain_body : TripleBody → TripleBody
  plain_body (each ts) = each (plain_triples ts)
  plain_body (one ts) = one (plain_triples ts)
  plain_body (arc inverse predicate e) = arc inverse predicate (plain_value e)
  plain_body (include target) = include target

  pub plain_triples : TripleExprs → TripleExprs
  plain_triples no_triples = no_triples
  plain_triples (more_triples t ts) = more_triples (plain_triple t) (plain_triples ts)

  pub plain_expression : MaybeTripleExpr → MaybeTripleExpr
  plain_expression no_triple = no_triple
  plain_expression (one_triple t) = one_triple (plain_triple t)

abbrev pub plain_decl : Declaration → Declaration
plain_decl decl = record { label = decl.label; expr = plain_expr decl.expr }

-- the document as it is read back
abbrev pub plain_document : Document → Document
plain_document doc = record { imports = doc.imports; start = plain_value doc.start; decls = map plain_decl doc.decls }
