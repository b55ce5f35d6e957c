-- The parts of documents in which no minimum is above its bound.
use Rattle.std.proofs.Common.{ℕ, ◌+◌, List, [], ◌∷◌, ◌++◌}
use Rattle.std.specs.Prelude.{⊤}
use Rattle.std.specs.List.{AllByRecursion, flat_map}
use Rattle.tally.specs.Span.{IsOrdered}
use Rattle.lists.proofs.Members.{got_in}
use Rattle.lists.proofs.Quantifiers.{all_append, all_at}
use Rattle.schema_documents.specs.Tree.{Declaration, Document, MaybeShapeExpr, MaybeTripleExpr, ShapeExpr, ShapeExprs, TripleBody, TripleExpr, TripleExprs, arc, conj, disj, each, include, more_exprs, more_triples, neg, no_expr, no_exprs, no_triple, no_triples, node, one, one_expr, one_triple, refer, shape, triple}
use Rattle.schema_load.specs.declared.part.Part.{Part}
use Rattle.schema_load.specs.declared.part.Part.TheVariants as Parts
use Rattle.schema_documents.specs.Ordered.{AreOrderedDecls, AreOrderedExprs, AreOrderedTriples, IsOrderedBody, IsOrderedDocument, IsOrderedExpr, IsOrderedExpression, IsOrderedTriple, IsOrderedValue}
use Rattle.schema_load.specs.Parts.{AreOrdered}
use Rattle.schema_load.specs.Reading.{lay, lay_all, lay_body, lay_decls, lay_form, lay_start, lay_triple, lay_triples, lay_value, parts_of, root_start, size_of, size_of_start, size_of_triple}

-- no minimum of the part is above its bound
abbrev IsOrderedPart : Part → Type 0
IsOrderedPart (Parts.Triple t) = IsOrdered t.min t.max
IsOrderedPart _ = ⊤

abbrev AllOrdered : List Part → Type 0
AllOrdered parts = AllByRecursion IsOrderedPart parts

join : (xs ys : List Part) → AllOrdered xs → AllOrdered ys → AllOrdered (xs ++ ys)
join xs ys a b = all_append IsOrderedPart xs ys a b

mutual
  expr_laid : (p : ℕ) (e : ShapeExpr) → IsOrderedExpr e → AllOrdered (lay p e)
  expr_laid p (conj es) h = (tt, exprs_laid (p + 1) es h)
  expr_laid p (disj es) h = (tt, exprs_laid (p + 1) es h)
  expr_laid p (neg e) h = (tt, expr_laid (p + 1) e h)
  expr_laid p (node c) h = (tt, tt)
  expr_laid p (shape closed extra t) h = (tt, body_laid (p + 1) t h)
  expr_laid p (refer l) h = (tt, tt)

  exprs_laid : (p : ℕ) (es : ShapeExprs) → AreOrderedExprs es → AllOrdered (lay_all p es)
  exprs_laid p no_exprs h = tt
  exprs_laid p (more_exprs e es) h = join (lay p e) (lay_all (p + size_of e) es) (expr_laid p e h.0) (exprs_laid (p + size_of e) es h.1)

  value_laid : (p : ℕ) (v : MaybeShapeExpr) → IsOrderedValue v → AllOrdered (lay_value p v)
  value_laid p no_expr h = tt
  value_laid p (one_expr e) h = expr_laid p e h

  body_laid : (p : ℕ) (t : MaybeTripleExpr) → IsOrderedExpression t → AllOrdered (lay_body p t)
  body_laid p no_triple h = tt
  body_laid p (one_triple t) h = triple_laid p t h

  triple_laid : (p : ℕ) (t : TripleExpr) → IsOrderedTriple t → AllOrdered (lay_triple p t)
  triple_laid p (triple label min max form) h = (h.0, form_laid (p + 1) form h.1)

  triples_laid : (p : ℕ) (ts : TripleExprs) → AreOrderedTriples ts → AllOrdered (lay_triples p ts)
  triples_laid p no_triples h = tt
  triples_laid p (more_triples t ts) h = join (lay_triple p t) (lay_triples (p + size_of_triple t) ts) (triple_laid p t h.0) (triples_laid (p + size_of_triple t) ts h.1)

  form_laid : (p : ℕ) (b : TripleBody) → IsOrderedBody b → AllOrdered (lay_form p b)
  form_laid p (each ts) h = triples_laid p ts h
  form_laid p (one ts) h = triples_laid p ts h
  form_laid p (arc inverse predicate value) h = value_laid p value h
  form_laid p (include l) h = tt

decls_laid : (p : ℕ) (ds : List Declaration) → AreOrderedDecls ds → AllOrdered (lay_decls p ds)
decls_laid p [] h = tt
decls_laid p (d ∷ ds) h = (tt, join (lay (p + 1) d.expr) (lay_decls (p + (1 + size_of d.expr)) ds) (expr_laid (p + 1) d.expr h.0) (decls_laid (p + (1 + size_of d.expr)) ds h.1))

start_laid : (v : MaybeShapeExpr) → IsOrderedValue v → AllOrdered (lay_start v)
start_laid no_expr h = tt
start_laid (one_expr e) h = (tt, expr_laid 1 e h)

decls_join : (xs ys : List Declaration) → AreOrderedDecls xs → AreOrderedDecls ys → AreOrderedDecls (xs ++ ys)
decls_join [] ys a b = b
decls_join (x ∷ xs) ys a b = (a.0, decls_join xs ys a.1 b)

all_decls : (docs : List Document) → AllByRecursion IsOrderedDocument docs → AreOrderedDecls (flat_map (λ d. d.decls) docs)
all_decls [] h = tt
all_decls (d ∷ ds) h = decls_join d.decls (flat_map (λ d. d.decls) ds) h.0.decls (all_decls ds h.1)

first_start : (docs : List Document) → AllByRecursion IsOrderedDocument docs → IsOrderedValue (root_start docs)
first_start [] h = tt
first_start (d ∷ ds) h = h.0.start

part_ordered : (parts : List Part) → AllOrdered parts → AreOrdered parts
part_ordered parts all p t at = all_at IsOrderedPart parts (Parts.Triple t) all (got_in parts p (Parts.Triple t) at)

pub ordered_parts : (docs : List Document) → AllByRecursion IsOrderedDocument docs → AreOrdered (parts_of docs)
ordered_parts docs h =
    part_ordered (parts_of docs)
    (join (lay_start (root_start docs)) (lay_decls (size_of_start (root_start docs)) (flat_map (λ d. d.decls) docs)) (start_laid (root_start docs) (first_start docs h)) (decls_laid (size_of_start (root_start docs)) (flat_map (λ d. d.decls) docs) (all_decls docs h)))
