-- A reader with limits answers as one without them at no smaller depth, or a limit is reached.
use Rattle.std.proofs.Common.{◌≡◌, ℕ, zero, suc, ◌≤◌, ◌+◌, Bool, true, false, cond, List, Option, Some, None, Ok, Err, refl, sym, ap, subst, ◌∙◌, inl, inr, ◌⊎◌, arith}
use Rattle.rdf_cursor.specs.Ahead.{Ahead, finished, broken, token, prepend}
use Rattle.rdf_cursor.specs.Properties.{AgreesAt, IsLocalAt, Blocked}
use Rattle.rdf_cursor.specs.Readers.{Answer, and_then, taken}
use Rattle.rdf_cursor.proofs.Answers.{apart, ok_is, err_is}
use Rattle.rdf_cursor.specs.Symbols.{is_symbol, is_among}
use Rattle.rdf_cursor.specs.declared.symbols.Symbol.{Symbol}
use Rattle.rdf_lex.specs.Tokens.{Spelled}
use Rattle.schema_documents.specs.declared.label.Label.{Label}
use Rattle.schema_documents.specs.Tree.{ShapeExpr, MaybeShapeExpr, TripleExpr, no_expr, one_expr}
use Rattle.term_tokens.specs.Scopes.{Scope}
use Rattle.shexc_constraints.specs.declared.faults.Fault.{Fault}
use Rattle.shexc_constraints.specs.declared.faults.Fault.TheVariants.{Syntax, Deep}
use Rattle.rdf_cursor.specs.declared.symbols.Symbol.TheVariants as symbol
use Rattle.shexc_constraints.specs.Reading.{label}
use Rattle.shexc_constraints.specs.Symbols.{mark}
use Rattle.shexc_reader.specs.Symbols.{connectives, units}
use Rattle.shexc_constraints.specs.Limits.{is_limit}
use Rattle.shexc_constraints.proofs.Limits.{is_common, IsLimit, Alike, alike_same, alike_bind, alike_either, alike_loop, agrees_non_literal, agrees_literal_constraint}
use Rattle.shexc_reader.specs.Documents.{max_depth}
use Rattle.shexc_reader.specs.Grammar.{ShExC}
use Rattle.shexc_reader.specs.States.{State}
use Rattle.shexc_reader.specs.Trees.{Cardinality, empty_shape}
use Rattle.shexc_reader.specs.Reading.{Inside, opens, level, whole, base_directive, prefix_directive, import_directive, first_start, start_directive, body, declaration, statement, document, maybe_triple, shape_behind, a_shape, shape_or_reference, braced, joined_with, behind_constraint, constraint_first, literal_only, constraint_behind, shape_first, parenthesised, dot, atom, negated, and_behind, conjunction_from, conjunction, or_behind, disjunction_from, expression, most, limits, short, cardinality, further_from, further, dot_value, arc_value, cardinality_behind, direction, an_arc, grouped, unlabelled, inclusion, unary, semicolon, group, bar, alternatives}
use Rattle.shexc_reader.proofs.CompleteLevels.{document_read}
use Rattle.shexc_reader.proofs.Places.{AreLocal, local_level, local_document, consumes_statement, consumes_and_behind, consumes_or_behind, consumes_semicolon, consumes_bar}

-- what stands in brackets agrees
pub record Agree (deep : Bool) (inside other : Inside) : Type 0 where
  pub expr : Alike deep inside.expr other.expr
  pub triple_expr : Alike deep inside.triple_expr other.triple_expr

-- no fewer brackets may open, and as many where their depth is no limit
abbrev pub Below : Bool → ℕ → ℕ → Type 0
Below true n m = n ≤ m
Below false n m = n ≡ m

below_less : (deep : Bool) (n m : ℕ) → Below deep (suc n) (suc m) → Below deep n m
below_less true n m le = omega (arith, le)
below_less false n m e = omega (arith, e)

below_more : (deep : Bool) (n m : ℕ) → Below deep n m → Below deep (suc n) (suc m)
below_more true n m le = omega (arith, le)
below_more false n m e = omega (arith, e)

none_below : (deep : Bool) (n : ℕ) → Below deep (suc n) zero → ⊥
none_below true n le = omega (arith, le)
none_below false n e = omega (arith, e)

-- a bracket that may open here may open where no fewer may
opens_by : (t : Spelled) (ts : Ahead Spelled) (b : Bool)
    → AgreesAt {A = Unit {0}} (is_common true) (IsLimit true) (cond b (Err (Deep, token t ts)) (Err (Syntax, token t ts)))
    (and_then {A = Spelled} {B = Unit {0}} (taken (cond b (Ok t) (Err Syntax)) (token t ts) ts) (λ w r. Ok (tt, r)))
opens_by t ts true = inr refl
opens_by t ts false = inl (refl, refl)

none_open : (a : Symbol) (m : ℕ) (ts : Ahead Spelled) → AgreesAt (is_common true) (IsLimit true) (opens a 0 ts) (opens a (suc m) ts)
unfolding opens
none_open a m finished = inl (refl, refl)
none_open a m broken = inl (refl, refl)
none_open a m (token t ts) = opens_by t ts (is_symbol a t)

opens_more : (a : Symbol) (n m : ℕ) → n ≤ m → Alike true (opens a n) (opens a m)
unfolding opens
opens_more a zero zero le = alike_same true _
opens_more a zero (suc m) le = record { agree = none_open a m }
opens_more a (suc n) zero le = absurd (omega (arith, le))
opens_more a (suc n) (suc m) le = alike_same true _

opens_agree : (deep : Bool) (a : Symbol) (n m : ℕ) → Below deep n m → Alike deep (opens a n) (opens a m)
opens_agree true a n m le = opens_more a n m le
opens_agree false a n m e = subst (λ (k : ℕ). Alike false (opens a n) (opens a k)) e (alike_same false (opens a n))

module _ (deep : Bool) where
  pub agrees_maybe_triple : (bounded : Bool) (v : Scope) (n : ℕ) (inside : Inside) (local : AreLocal inside) (m : ℕ) (other : Inside) (others : AreLocal other) (le : Below deep n m)
      (inner : Agree deep inside other) → Alike deep (maybe_triple bounded v n inside) (maybe_triple false v m other)
  unfolding maybe_triple
  agrees_maybe_triple bounded v n inside local m other others le inner = alike_either deep _ _ _ _ _ (alike_same deep _) (alike_bind deep _ _ _ _ (inner.triple_expr) (λ t. alike_same deep _))

  pub agrees_shape_behind : (bounded : Bool) (v : Scope) (n : ℕ) (inside : Inside) (local : AreLocal inside) (m : ℕ) (other : Inside) (others : AreLocal other) (le : Below deep n m)
      (inner : Agree deep inside other) (q : Bool × List (List ℕ)) → Alike deep (shape_behind bounded v n inside q) (shape_behind false v m other q)
  unfolding shape_behind
  agrees_shape_behind bounded v n inside local m other others le inner q = alike_bind deep _ _ _ _ (agrees_maybe_triple bounded v n inside local m other others le inner) (λ t. alike_same deep _)

  pub agrees_a_shape : (bounded : Bool) (v : Scope) (n : ℕ) (inside : Inside) (local : AreLocal inside) (m : ℕ) (other : Inside) (others : AreLocal other) (le : Below deep n m)
      (inner : Agree deep inside other) (whole : Bool) → Alike deep (a_shape bounded v n inside whole) (a_shape false v m other whole)
  unfolding a_shape
  agrees_a_shape bounded v n inside local m other others le inner whole = alike_bind deep _ _ _ _ (alike_same deep _)
      (λ q. alike_bind deep _ _ _ _ (opens_agree deep _ n m le) (λ _. alike_bind deep _ _ _ _ (agrees_shape_behind bounded v n inside local m other others le inner _) (λ s. alike_same deep _)))

  pub agrees_shape_or_reference : (bounded : Bool) (v : Scope) (n : ℕ) (inside : Inside) (local : AreLocal inside) (m : ℕ) (other : Inside) (others : AreLocal other) (le : Below deep n m)
      (inner : Agree deep inside other) (whole : Bool) → Alike deep (shape_or_reference bounded v n inside whole) (shape_or_reference false v m other whole)
  unfolding shape_or_reference
  agrees_shape_or_reference bounded v n inside local m other others le inner whole = alike_either deep _ _ _ _ _ (alike_same deep _)
      (agrees_a_shape bounded v n inside local m other others le inner whole)

  pub agrees_braced : (bounded : Bool) (v : Scope) (n : ℕ) (inside : Inside) (local : AreLocal inside) (m : ℕ) (other : Inside) (others : AreLocal other) (le : Below deep n m)
      (inner : Agree deep inside other) (c : ShapeExpr) → Alike deep (braced bounded v n inside c) (braced false v m other c)
  unfolding braced
  agrees_braced bounded v n inside local m other others le inner c = alike_bind deep _ _ _ _ (opens_agree deep _ n m le)
      (λ _. alike_either deep _ _ _ _ _ (alike_same deep _) (alike_bind deep _ _ _ _ (agrees_shape_behind bounded v n inside local m other others le inner _) (λ s. alike_same deep _)))

  pub agrees_joined_with : (bounded : Bool) (v : Scope) (n : ℕ) (inside : Inside) (local : AreLocal inside) (m : ℕ) (other : Inside) (others : AreLocal other) (le : Below deep n m)
      (inner : Agree deep inside other) (whole : Bool) (c : ShapeExpr) → Alike deep (joined_with bounded v n inside whole c) (joined_with false v m other whole c)
  unfolding joined_with
  agrees_joined_with bounded v n inside local m other others le inner whole c =
      alike_bind deep _ _ _ _ (agrees_shape_or_reference bounded v n inside local m other others le inner whole) (λ s. alike_same deep _)

  pub agrees_behind_constraint : (bounded : Bool) (v : Scope) (n : ℕ) (inside : Inside) (local : AreLocal inside) (m : ℕ) (other : Inside) (others : AreLocal other) (le : Below deep n m)
      (inner : Agree deep inside other) (whole : Bool) (c : ShapeExpr) → Alike deep (behind_constraint bounded v n inside whole c) (behind_constraint false v m other whole c)
  unfolding behind_constraint
  agrees_behind_constraint bounded v n inside local m other others le inner true c =
      alike_either deep _ _ _ _ _ (agrees_joined_with bounded v n inside local m other others le inner true c) (alike_same deep _)
  agrees_behind_constraint bounded v n inside local m other others le inner false c =
      alike_either deep _ _ _ _ _ (agrees_braced bounded v n inside local m other others le inner c)
      (alike_either deep _ _ _ _ _ (agrees_joined_with bounded v n inside local m other others le inner false c) (alike_same deep _))

  pub agrees_constraint_first : (bounded : Bool) (v : Scope) (n : ℕ) (inside : Inside) (local : AreLocal inside) (m : ℕ) (other : Inside) (others : AreLocal other) (le : Below deep n m)
      (inner : Agree deep inside other) (whole : Bool) → Alike deep (constraint_first bounded v n inside whole) (constraint_first false v m other whole)
  unfolding constraint_first
  agrees_constraint_first bounded v n inside local m other others le inner whole = alike_bind deep _ _ _ _ (agrees_non_literal deep bounded v)
      (λ c. alike_bind deep _ _ _ _ (alike_same deep _) (λ _. agrees_behind_constraint bounded v n inside local m other others le inner whole _))

  pub agrees_literal_only : (bounded : Bool) (v : Scope) (n : ℕ) (inside : Inside) (local : AreLocal inside) (m : ℕ) (other : Inside) (others : AreLocal other) (le : Below deep n m)
      (inner : Agree deep inside other) (whole : Bool) → Alike deep (literal_only bounded v n inside whole) (literal_only false v m other whole)
  unfolding literal_only
  agrees_literal_only bounded v n inside local m other others le inner whole = alike_bind deep _ _ _ _ (agrees_literal_constraint deep bounded v) (λ c. alike_same deep _)

  pub agrees_constraint_behind : (bounded : Bool) (v : Scope) (n : ℕ) (inside : Inside) (local : AreLocal inside) (m : ℕ) (other : Inside) (others : AreLocal other) (le : Below deep n m)
      (inner : Agree deep inside other) (whole : Bool) (c : ShapeExpr) → Alike deep (constraint_behind bounded v n inside whole c) (constraint_behind false v m other whole c)
  unfolding constraint_behind
  agrees_constraint_behind bounded v n inside local m other others le inner whole c = alike_bind deep _ _ _ _ (agrees_non_literal deep bounded v) (λ d. alike_same deep _)

  pub agrees_shape_first : (bounded : Bool) (v : Scope) (n : ℕ) (inside : Inside) (local : AreLocal inside) (m : ℕ) (other : Inside) (others : AreLocal other) (le : Below deep n m)
      (inner : Agree deep inside other) (whole : Bool) → Alike deep (shape_first bounded v n inside whole) (shape_first false v m other whole)
  unfolding shape_first
  agrees_shape_first bounded v n inside local m other others le inner whole =
      alike_bind deep _ _ _ _ (agrees_shape_or_reference bounded v n inside local m other others le inner whole)
      (λ s. alike_either deep _ _ _ _ _ (agrees_constraint_behind bounded v n inside local m other others le inner whole _) (alike_same deep _))

  pub agrees_parenthesised : (bounded : Bool) (v : Scope) (n : ℕ) (inside : Inside) (local : AreLocal inside) (m : ℕ) (other : Inside) (others : AreLocal other) (le : Below deep n m)
      (inner : Agree deep inside other) → Alike deep (parenthesised bounded v n inside) (parenthesised false v m other)
  unfolding parenthesised
  agrees_parenthesised bounded v n inside local m other others le inner = alike_bind deep _ _ _ _ (opens_agree deep _ n m le) (λ _. alike_bind deep _ _ _ _ (inner.expr) (λ e. alike_same deep _))

  pub agrees_dot : (bounded : Bool) (v : Scope) (n : ℕ) (inside : Inside) (local : AreLocal inside) (m : ℕ) (other : Inside) (others : AreLocal other) (le : Below deep n m)
      (inner : Agree deep inside other) → Alike deep (dot bounded v n inside) (dot false v m other)
  unfolding dot
  agrees_dot bounded v n inside local m other others le inner = alike_same deep _

  pub agrees_atom : (bounded : Bool) (v : Scope) (n : ℕ) (inside : Inside) (local : AreLocal inside) (m : ℕ) (other : Inside) (others : AreLocal other) (le : Below deep n m)
      (inner : Agree deep inside other) (whole : Bool) → Alike deep (atom bounded v n inside whole) (atom false v m other whole)
  unfolding atom
  agrees_atom bounded v n inside local m other others le inner whole =
      alike_either deep _ _ _ _ _ (agrees_constraint_first bounded v n inside local m other others le inner whole)
      (alike_either deep _ _ _ _ _ (agrees_literal_only bounded v n inside local m other others le inner whole) (alike_either deep _ _ _ _ _ (agrees_shape_first bounded v n inside local m other others le inner whole) (alike_either deep _ _ _ _ _ (agrees_parenthesised bounded v n inside local m other others le inner) (agrees_dot bounded v n inside local m other others le inner))))

  pub agrees_negated : (bounded : Bool) (v : Scope) (n : ℕ) (inside : Inside) (local : AreLocal inside) (m : ℕ) (other : Inside) (others : AreLocal other) (le : Below deep n m)
      (inner : Agree deep inside other) (whole : Bool) → Alike deep (negated bounded v n inside whole) (negated false v m other whole)
  unfolding negated
  agrees_negated bounded v n inside local m other others le inner whole =
      alike_either deep _ _ _ _ _ (alike_bind deep _ _ _ _ (alike_same deep _) (λ _. alike_bind deep _ _ _ _ (agrees_atom bounded v n inside local m other others le inner whole) (λ x. alike_same deep _))) (agrees_atom bounded v n inside local m other others le inner whole)

  pub agrees_and_behind : (bounded : Bool) (v : Scope) (n : ℕ) (inside : Inside) (local : AreLocal inside) (m : ℕ) (other : Inside) (others : AreLocal other) (le : Below deep n m)
      (inner : Agree deep inside other) (whole : Bool) (a : List ShapeExpr × Bool) → Alike deep (and_behind bounded v n inside whole a) (and_behind false v m other whole a)
  unfolding and_behind
  agrees_and_behind bounded v n inside local m other others le inner whole a = alike_bind deep _ _ _ _ (alike_same deep _)
      (λ _. alike_bind deep _ _ _ _ (agrees_negated bounded v n inside local m other others le inner whole) (λ x. alike_same deep _))

  pub agrees_conjunction_from : (bounded : Bool) (v : Scope) (n : ℕ) (inside : Inside) (local : AreLocal inside) (m : ℕ) (other : Inside) (others : AreLocal other) (le : Below deep n m)
      (inner : Agree deep inside other) (whole : Bool) (x : ShapeExpr × Bool) → Alike deep (conjunction_from bounded v n inside whole x) (conjunction_from false v m other whole x)
  unfolding conjunction_from
  agrees_conjunction_from bounded v n inside local m other others le inner whole x =
      alike_bind deep _ _ _ _ (alike_loop deep _ _ _ (consumes_and_behind bounded v n inside local whole) (consumes_and_behind false v m other others whole) (agrees_and_behind bounded v n inside local m other others le inner whole) _) (λ a. alike_same deep _)

  pub agrees_conjunction : (bounded : Bool) (v : Scope) (n : ℕ) (inside : Inside) (local : AreLocal inside) (m : ℕ) (other : Inside) (others : AreLocal other) (le : Below deep n m)
      (inner : Agree deep inside other) (whole : Bool) → Alike deep (conjunction bounded v n inside whole) (conjunction false v m other whole)
  unfolding conjunction
  agrees_conjunction bounded v n inside local m other others le inner whole =
      alike_bind deep _ _ _ _ (agrees_negated bounded v n inside local m other others le inner whole) (λ x. agrees_conjunction_from bounded v n inside local m other others le inner whole x)

  pub agrees_or_behind : (bounded : Bool) (v : Scope) (n : ℕ) (inside : Inside) (local : AreLocal inside) (m : ℕ) (other : Inside) (others : AreLocal other) (le : Below deep n m)
      (inner : Agree deep inside other) (whole : Bool) (a : List ShapeExpr × Bool) → Alike deep (or_behind bounded v n inside whole a) (or_behind false v m other whole a)
  unfolding or_behind
  agrees_or_behind bounded v n inside local m other others le inner whole a = alike_bind deep _ _ _ _ (alike_same deep _)
      (λ _. alike_bind deep _ _ _ _ (agrees_conjunction bounded v n inside local m other others le inner whole) (λ x. alike_same deep _))

  pub agrees_disjunction_from : (bounded : Bool) (v : Scope) (n : ℕ) (inside : Inside) (local : AreLocal inside) (m : ℕ) (other : Inside) (others : AreLocal other) (le : Below deep n m)
      (inner : Agree deep inside other) (whole : Bool) (x : ShapeExpr × Bool) → Alike deep (disjunction_from bounded v n inside whole x) (disjunction_from false v m other whole x)
  unfolding disjunction_from
  agrees_disjunction_from bounded v n inside local m other others le inner whole x =
      alike_bind deep _ _ _ _ (alike_loop deep _ _ _ (consumes_or_behind bounded v n inside local whole) (consumes_or_behind false v m other others whole) (agrees_or_behind bounded v n inside local m other others le inner whole) _) (λ a. alike_same deep _)

  pub agrees_expression : (bounded : Bool) (v : Scope) (n : ℕ) (inside : Inside) (local : AreLocal inside) (m : ℕ) (other : Inside) (others : AreLocal other) (le : Below deep n m)
      (inner : Agree deep inside other) (whole : Bool) → Alike deep (expression bounded v n inside whole) (expression false v m other whole)
  unfolding expression
  agrees_expression bounded v n inside local m other others le inner whole =
      alike_bind deep _ _ _ _ (agrees_conjunction bounded v n inside local m other others le inner whole) (λ x. agrees_disjunction_from bounded v n inside local m other others le inner whole x)

  pub agrees_most : (bounded : Bool) (v : Scope) (n : ℕ) (inside : Inside) (local : AreLocal inside) (m : ℕ) (other : Inside) (others : AreLocal other) (le : Below deep n m)
      (inner : Agree deep inside other) (least : ℕ) → Alike deep (most bounded v n inside least) (most false v m other least)
  unfolding most
  agrees_most bounded v n inside local m other others le inner least = alike_same deep _

  pub agrees_limits : (bounded : Bool) (v : Scope) (n : ℕ) (inside : Inside) (local : AreLocal inside) (m : ℕ) (other : Inside) (others : AreLocal other) (le : Below deep n m)
      (inner : Agree deep inside other) → Alike deep (limits bounded v n inside) (limits false v m other)
  unfolding limits most
  agrees_limits bounded v n inside local m other others le inner = alike_same deep _

  pub agrees_short : (bounded : Bool) (v : Scope) (n : ℕ) (inside : Inside) (local : AreLocal inside) (m : ℕ) (other : Inside) (others : AreLocal other) (le : Below deep n m)
      (inner : Agree deep inside other) (a : Symbol) (c : Cardinality) → Alike deep (short bounded v n inside a c) (short false v m other a c)
  unfolding short
  agrees_short bounded v n inside local m other others le inner a c = alike_same deep _

  pub agrees_cardinality : (bounded : Bool) (v : Scope) (n : ℕ) (inside : Inside) (local : AreLocal inside) (m : ℕ) (other : Inside) (others : AreLocal other) (le : Below deep n m)
      (inner : Agree deep inside other) → Alike deep (cardinality bounded v n inside) (cardinality false v m other)
  unfolding cardinality
  agrees_cardinality bounded v n inside local m other others le inner =
      alike_either deep _ _ _ _ _ (agrees_short bounded v n inside local m other others le inner _ _)
      (alike_either deep _ _ _ _ _ (agrees_short bounded v n inside local m other others le inner _ _) (alike_either deep _ _ _ _ _ (agrees_short bounded v n inside local m other others le inner _ _) (alike_either deep _ _ _ _ _ (alike_bind deep _ _ _ _ (opens_agree deep _ n m le) (λ _. alike_bind deep _ _ _ _ (agrees_limits bounded v n inside local m other others le inner) (λ c. alike_same deep _))) (alike_same deep _))))

  pub agrees_further_from : (bounded : Bool) (v : Scope) (n : ℕ) (inside : Inside) (local : AreLocal inside) (m : ℕ) (other : Inside) (others : AreLocal other) (le : Below deep n m)
      (inner : Agree deep inside other) (x : ShapeExpr × Bool) → Alike deep (further_from bounded v n inside x) (further_from false v m other x)
  unfolding further_from
  agrees_further_from bounded v n inside local m other others le inner x =
      alike_bind deep _ _ _ _ (agrees_conjunction_from bounded v n inside local m other others le inner false x) (λ y. agrees_disjunction_from bounded v n inside local m other others le inner false y)

  pub agrees_further : (bounded : Bool) (v : Scope) (n : ℕ) (inside : Inside) (local : AreLocal inside) (m : ℕ) (other : Inside) (others : AreLocal other) (le : Below deep n m)
      (inner : Agree deep inside other) (x : ShapeExpr × Bool) → Alike deep (further bounded v n inside x) (further false v m other x)
  unfolding further
  agrees_further bounded v n inside local m other others le inner x = alike_bind deep _ _ _ _ (agrees_further_from bounded v n inside local m other others le inner x) (λ y. alike_same deep _)

  pub agrees_dot_value : (bounded : Bool) (v : Scope) (n : ℕ) (inside : Inside) (local : AreLocal inside) (m : ℕ) (other : Inside) (others : AreLocal other) (le : Below deep n m)
      (inner : Agree deep inside other) → Alike deep (dot_value bounded v n inside) (dot_value false v m other)
  unfolding dot_value
  agrees_dot_value bounded v n inside local m other others le inner = alike_bind deep (mark symbol.Dot) (mark symbol.Dot) _ _ (alike_same deep _)
      (λ _. alike_either deep (is_among connectives) _ _ _ _ (agrees_further bounded v n inside local m other others le inner (empty_shape, false)) (alike_same deep _))

  pub agrees_arc_value : (bounded : Bool) (v : Scope) (n : ℕ) (inside : Inside) (local : AreLocal inside) (m : ℕ) (other : Inside) (others : AreLocal other) (le : Below deep n m)
      (inner : Agree deep inside other) → Alike deep (arc_value bounded v n inside) (arc_value false v m other)
  unfolding arc_value
  agrees_arc_value bounded v n inside local m other others le inner =
      alike_either deep _ _ _ _ _ (agrees_dot_value bounded v n inside local m other others le inner)
      (alike_bind deep _ _ _ _ (agrees_expression bounded v n inside local m other others le inner false) (λ y. alike_same deep _))

  pub agrees_cardinality_behind : (bounded : Bool) (v : Scope) (n : ℕ) (inside : Inside) (local : AreLocal inside) (m : ℕ) (other : Inside) (others : AreLocal other) (le : Below deep n m)
      (inner : Agree deep inside other) (flag : Bool) → Alike deep (cardinality_behind bounded v n inside flag) (cardinality_behind false v m other flag)
  unfolding cardinality_behind
  agrees_cardinality_behind bounded v n inside local m other others le inner true = alike_bind deep _ _ _ _ (agrees_limits bounded v n inside local m other others le inner) (λ c. alike_same deep _)
  agrees_cardinality_behind bounded v n inside local m other others le inner false = agrees_cardinality bounded v n inside local m other others le inner

  pub agrees_direction : (bounded : Bool) (v : Scope) (n : ℕ) (inside : Inside) (local : AreLocal inside) (m : ℕ) (other : Inside) (others : AreLocal other) (le : Below deep n m)
      (inner : Agree deep inside other) → Alike deep (direction bounded v n inside) (direction false v m other)
  unfolding direction
  agrees_direction bounded v n inside local m other others le inner = alike_same deep _

  pub agrees_an_arc : (bounded : Bool) (v : Scope) (n : ℕ) (inside : Inside) (local : AreLocal inside) (m : ℕ) (other : Inside) (others : AreLocal other) (le : Below deep n m)
      (inner : Agree deep inside other) (l : Option Label) → Alike deep (an_arc bounded v n inside l) (an_arc false v m other l)
  unfolding an_arc
  agrees_an_arc bounded v n inside local m other others le inner l = alike_bind deep _ _ _ _ (agrees_direction bounded v n inside local m other others le inner)
      (λ inverse. alike_bind deep _ _ _ _ (alike_same deep _) (λ p. alike_bind deep _ _ _ _ (agrees_arc_value bounded v n inside local m other others le inner) (λ x. alike_bind deep _ _ _ _ (agrees_cardinality_behind bounded v n inside local m other others le inner x.1) (λ c. alike_same deep _))))

  pub agrees_grouped : (bounded : Bool) (v : Scope) (n : ℕ) (inside : Inside) (local : AreLocal inside) (m : ℕ) (other : Inside) (others : AreLocal other) (le : Below deep n m)
      (inner : Agree deep inside other) (l : Option Label) → Alike deep (grouped bounded v n inside l) (grouped false v m other l)
  unfolding grouped
  agrees_grouped bounded v n inside local m other others le inner l = alike_bind deep _ _ _ _ (opens_agree deep _ n m le)
      (λ _. alike_bind deep _ _ _ _ (inner.triple_expr) (λ t. alike_bind deep _ _ _ _ (alike_same deep _) (λ _. alike_bind deep _ _ _ _ (agrees_cardinality bounded v n inside local m other others le inner) (λ c. alike_same deep _))))

  pub agrees_unlabelled : (bounded : Bool) (v : Scope) (n : ℕ) (inside : Inside) (local : AreLocal inside) (m : ℕ) (other : Inside) (others : AreLocal other) (le : Below deep n m)
      (inner : Agree deep inside other) (l : Option Label) → Alike deep (unlabelled bounded v n inside l) (unlabelled false v m other l)
  unfolding unlabelled
  agrees_unlabelled bounded v n inside local m other others le inner l =
      alike_either deep _ _ _ _ _ (agrees_grouped bounded v n inside local m other others le inner l) (agrees_an_arc bounded v n inside local m other others le inner l)

  pub agrees_inclusion : (bounded : Bool) (v : Scope) (n : ℕ) (inside : Inside) (local : AreLocal inside) (m : ℕ) (other : Inside) (others : AreLocal other) (le : Below deep n m)
      (inner : Agree deep inside other) → Alike deep (inclusion bounded v n inside) (inclusion false v m other)
  unfolding inclusion
  agrees_inclusion bounded v n inside local m other others le inner = alike_same deep _

  pub agrees_unary : (bounded : Bool) (v : Scope) (n : ℕ) (inside : Inside) (local : AreLocal inside) (m : ℕ) (other : Inside) (others : AreLocal other) (le : Below deep n m)
      (inner : Agree deep inside other) → Alike deep (unary bounded v n inside) (unary false v m other)
  unfolding unary
  agrees_unary bounded v n inside local m other others le inner =
      alike_either deep _ _ _ _ _ (agrees_inclusion bounded v n inside local m other others le inner)
      (alike_either deep _ _ _ _ _ (alike_bind deep (mark symbol.Dollar) (mark symbol.Dollar) _ _ (alike_same deep _) (λ w. alike_bind deep (label v) (label v) _ _ (alike_same deep _) (λ l. agrees_unlabelled bounded v n inside local m other others le inner (Some l)))) (agrees_unlabelled bounded v n inside local m other others le inner None))

  pub agrees_semicolon : (bounded : Bool) (v : Scope) (n : ℕ) (inside : Inside) (local : AreLocal inside) (m : ℕ) (other : Inside) (others : AreLocal other) (le : Below deep n m)
      (inner : Agree deep inside other) (a : List TripleExpr × Bool) → Alike deep (semicolon bounded v n inside a) (semicolon false v m other a)
  unfolding semicolon
  agrees_semicolon bounded v n inside local m other others le inner (us, true) = alike_same deep _
  agrees_semicolon bounded v n inside local m other others le inner (us, false) = alike_bind deep (mark symbol.Semicolon)
      (mark symbol.Semicolon) _ _ (alike_same deep _)
      (λ w. alike_either deep (is_among units) _ _ _ _ (alike_bind deep _ _ _ _ (agrees_unary bounded v n inside local m other others le inner) (λ t. alike_same deep _)) (alike_same deep _))

  pub agrees_group : (bounded : Bool) (v : Scope) (n : ℕ) (inside : Inside) (local : AreLocal inside) (m : ℕ) (other : Inside) (others : AreLocal other) (le : Below deep n m)
      (inner : Agree deep inside other) → Alike deep (group bounded v n inside) (group false v m other)
  unfolding group
  agrees_group bounded v n inside local m other others le inner = alike_bind deep _ _ _ _ (agrees_unary bounded v n inside local m other others le inner)
      (λ t. alike_bind deep _ _ _ _ (alike_loop deep _ _ _ (consumes_semicolon bounded v n inside local) (consumes_semicolon false v m other others) (agrees_semicolon bounded v n inside local m other others le inner) _) (λ a. alike_same deep _))

  pub agrees_bar : (bounded : Bool) (v : Scope) (n : ℕ) (inside : Inside) (local : AreLocal inside) (m : ℕ) (other : Inside) (others : AreLocal other) (le : Below deep n m)
      (inner : Agree deep inside other) (us : List TripleExpr) → Alike deep (bar bounded v n inside us) (bar false v m other us)
  unfolding bar
  agrees_bar bounded v n inside local m other others le inner us = alike_bind deep (mark symbol.Bar) (mark symbol.Bar) _ _ (alike_same deep _)
      (λ w. alike_bind deep _ _ _ _ (agrees_group bounded v n inside local m other others le inner) (λ t. alike_same deep _))

  pub agrees_alternatives : (bounded : Bool) (v : Scope) (n : ℕ) (inside : Inside) (local : AreLocal inside) (m : ℕ) (other : Inside) (others : AreLocal other) (le : Below deep n m)
      (inner : Agree deep inside other) → Alike deep (alternatives bounded v n inside) (alternatives false v m other)
  unfolding alternatives
  agrees_alternatives bounded v n inside local m other others le inner = alike_bind deep _ _ _ _ (agrees_group bounded v n inside local m other others le inner)
      (λ t. alike_bind deep _ _ _ _ (alike_loop deep _ _ _ (consumes_bar bounded v n inside local) (consumes_bar false v m other others) (agrees_bar bounded v n inside local m other others le inner) _) (λ us. alike_same deep _))

closed_agree : (deep bounded : Bool) (v : Scope) (m : ℕ) → Below deep zero m → Agree deep (level bounded v zero) (level false v m)
unfolding level
closed_agree true bounded v m le = record { expr = record { agree = λ ts. inr refl }; triple_expr = record { agree = λ ts. inr refl } }
closed_agree false bounded v zero e = record { expr = alike_same false _; triple_expr = alike_same false _ }
closed_agree false bounded v (suc m) e = absurd (omega (arith, e))

pub agrees_level : (deep bounded : Bool) (v : Scope) (n m : ℕ) → Below deep n m → Agree deep (level bounded v n) (level false v m)
unfolding level
agrees_level deep bounded v zero m le = closed_agree deep bounded v m le
agrees_level deep bounded v (suc n) zero le = absurd (none_below deep n le)
agrees_level deep bounded v (suc n) (suc m) le =
    let below = below_less deep n m le in
    let inner = agrees_level deep bounded v n m below in record {
      expr = agrees_expression deep bounded v n (level bounded v n) (local_level bounded v n) m (level false v m) (local_level false v m) below inner true;
      triple_expr = agrees_alternatives deep bounded v n (level bounded v n) (local_level bounded v n) m (level false v m) (local_level false v m) below inner;
    }

module _ (deep bounded : Bool) (n m : ℕ) (le : Below deep n m) where
  agrees_whole : (v : Scope) → Alike deep (whole bounded n v) (whole false m v)
  unfolding whole
  agrees_whole v = alike_bind deep _ _ _ _ ((agrees_level deep bounded v (suc n) (suc m) (below_more deep n m le)).expr) (λ x. alike_same deep _)

  agrees_body : (v : Scope) → Alike deep (body bounded n v) (body false m v)
  unfolding body
  agrees_body v = alike_either deep _ _ _ _ _ (alike_same deep _) (agrees_whole v)

  agrees_first : (e : MaybeShapeExpr) → Alike deep (first_start bounded n e) (first_start false m e)
  unfolding first_start
  agrees_first no_expr = alike_same deep _
  agrees_first (one_expr e) = alike_same deep _

  agrees_statement : (a : State) → Alike deep (statement bounded n a) (statement false m a)
  unfolding statement base_directive prefix_directive import_directive start_directive declaration
  agrees_statement a = alike_either deep _ _ _ _ _ (alike_same deep _) (alike_either deep _ _ _ _ _ (alike_same deep _) (alike_either deep _ _ _ _ _ (alike_same deep _)
      (alike_either deep _ _ _ _ _ (alike_bind deep _ _ _ _ (agrees_first a.start) (λ s. alike_bind deep (mark symbol.Equals) (mark symbol.Equals) _ _ (alike_same deep _) (λ t. alike_bind deep _ _ _ _ (agrees_whole a.scope) (λ e. alike_same deep _))))
      (alike_bind deep (label a.scope) (label a.scope) _ _ (alike_same deep _) (λ l. alike_bind deep _ _ _ _ (agrees_body a.scope) (λ e. alike_same deep _))))))

  pub agrees_document : (a : State) → Alike deep (document bounded n a) (document false m a)
  unfolding document
  agrees_document a = alike_bind deep _ _ _ _ (alike_loop deep _ _ _ (consumes_statement bounded n) (consumes_statement false m) agrees_statement a) (λ b. alike_same deep _)

-- with or without the limits, a document is read at any greater depth without them
read_deeper : (bounded : Bool) (n m : ℕ) → n ≤ m → (a x : State) (ts : Ahead Spelled) → ShExC bounded n a x ts → document false m a ts ≡ Ok (x, finished)
read_deeper bounded n m le a x ts h =
    subst (λ (y : Answer Spelled Fault State). AgreesAt (is_common true) (IsLimit true) y (document false m a ts)) (document_read bounded n a x ts h) ((agrees_document true bounded n m le a).agree ts)

-- documents of any depth and with patterns of any size
abbrev pub AnyShExC : State → State → Ahead Spelled → Type 0
AnyShExC a x ts = (d : ℕ) × ShExC false d a x ts

not_both : (b : Bool) → b ≡ false → b ≡ true → ⊥
not_both true e f = absurd cc
not_both false e f = absurd cc

-- where the limits come to a fault that is none of those that differ, nothing is read without them
nothing_read : (deep : Bool) (m : ℕ) → Below deep max_depth m → (a : State) (ts other : Ahead Spelled) (f : Fault) → is_limit deep f ≡ false → document true max_depth a ts ≡ Err (f, other)
    → (x : State) → document false m a ts ≡ Ok (x, finished) → ⊥
nothing_read deep m le a ts other f c e x doc =
    by (subst (λ (y : Answer Spelled Fault State). AgreesAt (is_common deep) (IsLimit deep) y (document false m a ts)) e ((agrees_document deep true max_depth m le a).agree ts))
  where
    by : (is_common deep f × (document false m a ts ≡ Err (f, other))) ⊎ IsLimit deep f other → ⊥
    by (inl (k, g)) = apart (x, finished) (f, other) (sym doc ∙ g)
    by (inr l) = not_both (is_limit deep f) c l

module _ (deep : Bool) (a : State) (Doc : State → Ahead Spelled → Type 0)
    (none : (ts other : Ahead Spelled) (f : Fault) → is_limit deep f ≡ false → document true max_depth a ts ≡ Err (f, other) → (x : State) → ¬ Doc x ts) where
  blocked_at : (ts : Ahead Spelled) (y : Answer Spelled Fault State) (f : Fault) (rest : Ahead Spelled) → is_limit deep f ≡ false → y ≡ Err (f, rest) →
      IsLocalAt (document true max_depth a) ts y → Blocked Doc ts rest
  blocked_at ts (Ok y) f rest c e l = absurd cc
  blocked_at ts (Err y) f rest c e l =
      let same : y ≡ (f, rest) = err_is y (f, rest) e in
      let k : is_limit deep y.0 ≡ false = subst (λ (z : Fault × Ahead Spelled). is_limit deep z.0 ≡ false) (sym same) c in
      subst (λ (z : Fault × Ahead Spelled). Blocked Doc ts z.1) same (record {
        front = l.0;
        parts = l.1;
        none = λ x other h s. none (prepend l.0 other) other y.0 k (l.2 other h) x s;
      })

-- at a fault that comes from no limit no document goes on as the text does, of any depth and with patterns of any size
pub blocked_any : (a : State) (ts : Ahead Spelled) (f : Fault) (rest : Ahead Spelled) → is_limit true f ≡ false → document true max_depth a ts ≡ Err (f, rest) → Blocked (AnyShExC a) ts rest
blocked_any a ts f rest c e =
    blocked_at true a (AnyShExC a)
    (λ ts other f c e x doc. nothing_read true (doc.0 + max_depth) (omega arith) a ts other f c e x (read_deeper false doc.0 (doc.0 + max_depth) (omega arith) a x ts doc.1))
    ts (document true max_depth a ts) f rest c e (local_document true max_depth a ts)

-- at brackets that nest too deep no document within their depth goes on as the text does, with patterns of any size
pub blocked_within : (a : State) (ts : Ahead Spelled) (f : Fault) (rest : Ahead Spelled) → is_limit false f ≡ false →
    document true max_depth a ts ≡ Err (f, rest) → Blocked (ShExC false max_depth a) ts rest
blocked_within a ts f rest c e =
    blocked_at false a (ShExC false max_depth a) (λ ts other f c e x doc. nothing_read false max_depth refl a ts other f c e x (document_read false max_depth a x ts doc))
    ts (document true max_depth a ts) f rest c e (local_document true max_depth a ts)

-- what lies ahead is one document at most, of whatever depth
pub one_any : (a x y : State) (ts : Ahead Spelled) → AnyShExC a x ts → AnyShExC a y ts → x ≡ y
one_any a x y ts (d, h) (e, k) =
    ap (λ (z : State × Ahead Spelled). z.0)
    (ok_is (x, finished) (y, finished) (sym (read_deeper false d (d + e) (omega arith) a x ts h) ∙ read_deeper false e (d + e) (omega arith) a y ts k))
