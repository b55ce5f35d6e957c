-- The shape expressions and triple expressions of ShExC have a form in ShExJ: by the form of each rule.
use Rattle.std.proofs.Common.{inl, inr, Bool, true, false, ℕ, zero, suc, Option, Some, None, refl, subst}
use Rattle.rdf_cursor.specs.Ahead.{Ahead}
use Rattle.rdf_cursor.specs.declared.symbols.Symbol.TheVariants as symbol
use Rattle.rdf_lex.specs.Tokens.{Spelled}
use Rattle.schema_documents.specs.declared.label.Label.{Label}
use Rattle.schema_documents.specs.Tree.{MaybeShapeExpr, ShapeExpr, TripleExpr}
use Rattle.term_tokens.specs.Scopes.{Scope}
use Rattle.node_constraint.specs.declared.Kind4.TheVariants as kinds
use Rattle.std.specs.Str.{chars}
use Rattle.shexc_constraints.specs.Grammar as low
use Rattle.shexc_constraints.specs.Meanings.{kind_by}
use Rattle.shexc_reader.specs.Grammar as g
use Rattle.shexj_writer.specs.Expressible.{IsExpressible, IsExpressibleExpression, IsExpressibleTriple, IsExpressibleValueExpr, IsLabel, IsLabelIfAny}
use Rattle.conversion_laws.proofs.Absolute.{label_led}
use Rattle.conversion_laws.proofs.Cardinalities.{at_once, maybe_ordered, or_once}
use Rattle.conversion_laws.proofs.Facets.{constraint_form, facets_fine, fine_none, number_fine, numbers_fine, text_fine, texts_fine}
use Rattle.conversion_laws.proofs.Names.{AreAbsolute, at_name_led, label_form}
use Rattle.conversion_laws.proofs.Trees.{all_form, any_form, both_form, bracketed_form, each_form, exprs_separated, one_form, triples_separated}
use Rattle.conversion_laws.proofs.Values.{values_form}

-- constraints and references
module _ (v : Scope) (h : AreAbsolute v) where
  non_literal_form : (e : ShapeExpr) (ts r : Ahead Spelled) → low.NonLiteral true v e ts r → IsExpressible e
  non_literal_form e ts r (inl (s, fs, is, (m, w, k))) = subst IsExpressible is (constraint_form (Some (kind_by s)) None fs None (texts_fine None _ fs m r k (fine_none None)) tt)
  non_literal_form e ts r (inr (fs, gs, is, (m, w, k))) = subst IsExpressible is (constraint_form None None gs None (texts_fine None fs gs m r k (text_fine None _ fs ts m w (fine_none None))) tt)

  literal_constraint_form : (e : ShapeExpr) (ts r : Ahead Spelled) → low.LiteralConstraint true v e ts r → IsExpressible e
  literal_constraint_form e ts r (inl (fs, is, (m, w, k))) = subst IsExpressible is (constraint_form (Some kinds.Literal) None fs None (facets_fine None _ fs m r k (fine_none None)) tt)
  literal_constraint_form e ts r (inr (inl (i, fs, is, (m, w, k)))) =
      subst IsExpressible is (constraint_form None (Some (chars i)) fs None (facets_fine (Some (chars i)) _ fs m r k (fine_none (Some (chars i)))) tt)
  literal_constraint_form e ts r (inr (inr (inl (xs, fs, is, (m, w, k))))) =
      subst IsExpressible is (constraint_form None None fs (Some xs) (facets_fine None _ fs m r k (fine_none None)) (values_form v h xs ts m w))
  literal_constraint_form e ts r (inr (inr (inr (fs, gs, is, (m, w, k))))) =
      subst IsExpressible is (constraint_form None None gs None (numbers_fine None fs gs m r k (number_fine None _ fs ts m w (fine_none None))) tt)

  reference_form : (e : ShapeExpr) (ts r : Ahead Spelled) → low.Reference v e ts r → IsExpressible e
  reference_form e ts r (l, is, inl (m, a, k)) = subst IsExpressible is (label_form v h l m r k)
  reference_form e ts r (l, is, inr (i, same, (t, at, k))) = subst IsExpressible is (subst IsLabel same (label_led i (at_name_led v h t i k)))

-- what stands in brackets
pub record HaveForm (inside : g.Inside) : Type 0 where
  pub expr : (e : ShapeExpr) (ts r : Ahead Spelled) → inside.expr e ts r → IsExpressible e
  pub triple_expr : (t : TripleExpr) (ts r : Ahead Spelled) → inside.triple_expr t ts r → IsExpressibleTriple t

module _ (v : Scope) (absolute : AreAbsolute v) (n : ℕ) (inside : g.Inside) (inner : HaveForm inside) where
  a_shape_form : (whole : Bool) (e : ShapeExpr) (ts r : Ahead Spelled) → g.AShape true v n inside whole e ts r → IsExpressible e
  a_shape_form whole e ts r (q, t, is, (m, qs, (k, (a, o, (b, inl (absent, h), close)), notes))) = subst IsExpressible is (subst IsExpressibleExpression absent tt)
  a_shape_form whole e ts r (q, t, is, (m, qs, (k, (a, o, (b, inr (u, one, h), close)), notes))) = subst IsExpressible is (subst IsExpressibleExpression one (inner.triple_expr u a b h))

  shape_form : (whole : Bool) (e : ShapeExpr) (ts r : Ahead Spelled) → g.ShapeOrReference true v n inside whole e ts r → IsExpressible e
  shape_form whole e ts r (inl h) = a_shape_form whole e ts r h
  shape_form whole e ts r (inr h) = reference_form v absolute e ts r h

  atom_form : (whole : Bool) (e : ShapeExpr) (ts r : Ahead Spelled) → g.Atom true v n inside whole e ts r → IsExpressible e
  atom_form whole e ts r (inl (inl (m, h, i))) = non_literal_form v absolute e ts m h
  atom_form whole e ts r (inl (inr (a, b, is, (m, h, (k, i, j))))) = subst IsExpressible is (both_form a b (non_literal_form v absolute a ts m h) (shape_form whole b k r j))
  atom_form whole e ts r (inr (inl (m, h, i))) = literal_constraint_form v absolute e ts m h
  atom_form whole e ts r (inr (inr (inl (inl h)))) = shape_form whole e ts r h
  atom_form whole e ts r (inr (inr (inl (inr (a, b, is, (m, h, (k, i, j))))))) = subst IsExpressible is (both_form a b (shape_form whole a ts m h) (non_literal_form v absolute b m k i))
  atom_form whole e ts r (inr (inr (inr (inl (m, o, (k, h, c)))))) = inner.expr e m k h
  atom_form whole e ts r (inr (inr (inr (inr (is, h))))) = subst IsExpressible is tt

  negated_form : (whole : Bool) (e : ShapeExpr) (ts r : Ahead Spelled) → g.Negated true v n inside whole e ts r → IsExpressible e
  negated_form whole e ts r (inl h) = atom_form whole e ts r h
  negated_form whole e ts r (inr (a, is, (m, w, h))) = subst IsExpressible is (atom_form whole a m r h)

  conjunction_form : (whole : Bool) (e : ShapeExpr) (ts r : Ahead Spelled) → g.Conjunction true v n inside whole e ts r → IsExpressible e
  conjunction_form whole e ts r (es, is, h) = subst IsExpressible is (all_form es (exprs_separated symbol.And (g.Negated true v n inside whole) (negated_form whole) es ts r h))

  expression_form : (whole : Bool) (e : ShapeExpr) (ts r : Ahead Spelled) → g.Expression true v n inside whole e ts r → IsExpressible e
  expression_form whole e ts r (es, is, h) = subst IsExpressible is (any_form es (exprs_separated symbol.Or (g.Conjunction true v n inside whole) (conjunction_form whole) es ts r h))

  value_expr_form : (o : MaybeShapeExpr) (ts r : Ahead Spelled) → g.ArcValue true v n inside o ts r → IsExpressibleValueExpr o
  value_expr_form o ts r (inl (is, h)) = subst IsExpressibleValueExpr is tt
  value_expr_form o ts r (inr (e, is, apart, h)) = subst IsExpressibleValueExpr is (expression_form false e ts r h)

  maybe_label_form : (o : Option Label) (ts r : Ahead Spelled) → g.MaybeLabel true v n inside o ts r → IsLabelIfAny o
  maybe_label_form o ts r (inl (is, h)) = subst IsLabelIfAny is tt
  maybe_label_form o ts r (inr (l, is, (m, d, h))) = subst IsLabelIfAny is (label_form v absolute l m r h)

  arc_form : (l : Option Label) (t : TripleExpr) (ts r : Ahead Spelled) → IsLabelIfAny l → g.Arc true v n inside l t ts r → IsExpressibleTriple t
  arc_form l t ts r named (inverse, p, value, o, is, (a, d, (b, e, (c, h, (k, i, j))))) =
      subst IsExpressibleTriple is (named, (or_once o (maybe_ordered v n inside o c k i), value_expr_form value b c h))

  group_in : (l : Option Label) (t : TripleExpr) (ts r : Ahead Spelled) → IsLabelIfAny l → g.Bracketed true v n inside l t ts r → IsExpressibleTriple t
  group_in l t ts r named (u, o, is, (a, b, (c, h, (d, e, (k, i, j))))) =
      subst IsExpressibleTriple is (bracketed_form l o u named (maybe_ordered v n inside o d k i) (inner.triple_expr u a c h))

  unary_form : (t : TripleExpr) (ts r : Ahead Spelled) → g.Unary true v n inside t ts r → IsExpressibleTriple t
  unary_form t ts r (inl (o, (m, h, inl i))) = arc_form o t m r (maybe_label_form o ts m h) i
  unary_form t ts r (inl (o, (m, h, inr i))) = group_in o t m r (maybe_label_form o ts m h) i
  unary_form t ts r (inr (l, is, (m, a, k))) = subst IsExpressibleTriple is (tt, (at_once, (label_form v absolute l m r k, (refl, (refl, refl)))))

  group_form : (t : TripleExpr) (ts r : Ahead Spelled) → g.Group true v n inside t ts r → IsExpressibleTriple t
  group_form t ts r (us, is, (m, h, last)) = subst IsExpressibleTriple is (each_form us (triples_separated symbol.Semicolon (g.Unary true v n inside) unary_form us ts m h))

  alternatives_form : (t : TripleExpr) (ts r : Ahead Spelled) → g.Alternatives true v n inside t ts r → IsExpressibleTriple t
  alternatives_form t ts r (us, is, h) = subst IsExpressibleTriple is (one_form us (triples_separated symbol.Bar (g.Group true v n inside) group_form us ts r h))

pub level_form : (v : Scope) → AreAbsolute v → (d : ℕ) → HaveForm (g.Level true v d)
unfolding g.Level
level_form v h zero = record { expr = λ e ts r k. absurd k; triple_expr = λ t ts r k. absurd k }
level_form v h (suc d) = record {
  expr = expression_form v h d (g.Level true v d) (level_form v h d) true;
  triple_expr = alternatives_form v h d (g.Level true v d) (level_form v h d);
}
