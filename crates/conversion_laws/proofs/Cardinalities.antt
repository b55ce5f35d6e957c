-- No minimum of a cardinality in ShExC is above its bound.
use Rattle.std.proofs.Common.{◌≡◌, ◌≤◌, inl, inr, Bool, true, false, ℕ, cond, Option, Some, None, Ok, Err, refl, subst, ◌∙◌, arith}
use Rattle.std.specs.Prelude.{nat_le, unwrap_or}
use Rattle.std.proofs.lemmas.Bool.{leb-true}
use Rattle.rdf_cursor.specs.Ahead.{Ahead}
use Rattle.rdf_cursor.specs.Symbols.{is_symbol}
use Rattle.rdf_cursor.specs.declared.symbols.Symbol.TheVariants as symbol
use Rattle.rdf_lex.specs.Tokens.{Spelled}
use Rattle.tally.specs.Span.{IsOrdered}
use Rattle.tally.specs.declared.Bound.{Bound}
use Rattle.term_tokens.specs.Scopes.{Scope}
use Rattle.term_tokens.proofs.NameLines.{err_is_not_ok, ok_same}
use Rattle.shexc_constraints.specs.declared.faults.Fault.TheVariants.{Syntax}
use Rattle.shexc_constraints.specs.Meanings.{count_of, limit_from, limit_of}
use Rattle.shexc_reader.specs.Grammar as g
use Rattle.shexc_reader.specs.Trees.{Cardinality, once}

-- a maximum is not below its minimum
below_by : (least n m : ℕ) (b : Bool) → nat_le least n ≡ b → cond b (Ok n) (Err Syntax) ≡ Ok m → least ≤ m
below_by least n m true is e = subst (λ (x : ℕ). least ≤ x) (ok_same n m e) (leb-true least n is)
below_by least n m false is e = absurd (err_is_not_ok Syntax m e)

below_from : (least : ℕ) (o : Option ℕ) (m : ℕ) → limit_from least o ≡ Ok m → least ≤ m
below_from least None m e = absurd (err_is_not_ok Syntax m e)
below_from least (Some n) m e = below_by least n m (nat_le least n) refl e

below_test : (least : ℕ) (o : Option ℕ) (m : ℕ) (b : Bool) → cond b (limit_from least o) (Err Syntax) ≡ Ok m → least ≤ m
below_test least o m true e = below_from least o m e
below_test least o m false e = absurd (err_is_not_ok Syntax m e)

not_below : (least m : ℕ) (t : Spelled) → limit_of least t ≡ Ok m → least ≤ m
unfolding limit_of
not_below least m t e = below_test least (count_of t.text) m (is_symbol symbol.Integer t) e

pub at_once : 1 ≤ 1
at_once = omega arith

-- the cardinality that is given, or once
abbrev pub IsOrderedIfAny : Option Cardinality → Type 0
IsOrderedIfAny o = (c : Cardinality) → o ≡ Some c → IsOrdered c.0 c.1

pub or_once : (o : Option Cardinality) → IsOrderedIfAny o → IsOrdered (unwrap_or o once).0 (unwrap_or o once).1
or_once None h = at_once
or_once (Some c) h = h c refl

some_is : (c d : Cardinality) → Path (Option Cardinality) (Some c) (Some d) → c ≡ d
some_is c d e = cc

none_is : (d : Cardinality) → Path (Option Cardinality) None (Some d) → ⊥
none_is d e = cc

module _ (v : Scope) (n : ℕ) (inside : g.Inside) where
  most_ordered : (least : ℕ) (b : Bound) (ts r : Ahead Spelled) → g.Most true v n inside least b ts r → IsOrdered least b
  most_ordered least b ts r (inl (is, h)) = subst (IsOrdered least) is (omega arith)
  most_ordered least b ts r (inr (inl (is, h))) = subst (IsOrdered least) is tt
  most_ordered least b ts r (inr (inr (inl (is, h)))) = subst (IsOrdered least) is tt
  most_ordered least b ts r (inr (inr (inr (most, is, (m, c, (t, e, h)))))) = subst (IsOrdered least) is (not_below least most t h)

  cardinality_ordered : (c : Cardinality) (ts r : Ahead Spelled) → g.ACardinality true v n inside c ts r → IsOrdered c.0 c.1
  cardinality_ordered c ts r (inl (is, h)) = subst (λ (d : Cardinality). IsOrdered d.0 d.1) is tt
  cardinality_ordered c ts r (inr (inl (is, h))) = subst (λ (d : Cardinality). IsOrdered d.0 d.1) is tt
  cardinality_ordered c ts r (inr (inr (inl (is, h)))) = subst (λ (d : Cardinality). IsOrdered d.0 d.1) is (omega arith)
  cardinality_ordered c ts r (inr (inr (inr (m, o, (k, least, (l, most, close)))))) = most_ordered c.0 c.1 k l most

  pub maybe_ordered : (o : Option Cardinality) (ts r : Ahead Spelled) → g.MaybeCardinality true v n inside o ts r → IsOrderedIfAny o
  maybe_ordered o ts r (inl (is, h)) c e = absurd (none_is c (is ∙ e))
  maybe_ordered o ts r (inr (d, is, h)) c e = subst (λ (x : Cardinality). IsOrdered x.0 x.1) (some_is d c (is ∙ e)) (cardinality_ordered d ts r h)
