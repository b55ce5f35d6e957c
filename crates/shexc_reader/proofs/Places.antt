-- Each rule looks no further than the next token, and takes one where it has to.
use Rattle.std.specs.Prelude.{Bool, true, false, ℕ, zero, suc, List, Option, None}
use Rattle.rdf_cursor.specs.Properties.{IsLocal, Consumes}
use Rattle.rdf_cursor.proofs.Consuming.{consumes_one, consumes_bind, consumes_then, consumes_either, consumes_refuse}
use Rattle.rdf_cursor.proofs.Locality.{local_give, local_refuse, local_one, local_bind, local_either, local_finish}
use Rattle.rdf_cursor.proofs.Loops.{local_loop}
use Rattle.rdf_cursor.specs.declared.symbols.Symbol.{Symbol}
use Rattle.schema_documents.specs.declared.label.Label.{Label}
use Rattle.schema_documents.specs.Tree.{ShapeExpr, MaybeShapeExpr, TripleExpr, no_expr, one_expr}
use Rattle.term_tokens.specs.Scopes.{Scope}
use Rattle.shexc_constraints.proofs.Places.{local_iri, local_label, consumes_label, local_predicate, consumes_predicate, local_reference, consumes_reference, local_annotations, local_notes, local_non_literal, consumes_non_literal, local_literal_constraint, consumes_literal_constraint}
use Rattle.shexc_reader.specs.States.{State}
use Rattle.shexc_reader.specs.Trees.{Cardinality}
use Rattle.shexc_reader.specs.Reading.{Inside, opens, level, whole, base_directive, prefix_directive, import_directive, first_start, start_directive, body, declaration, statement, document, extra_behind, extras, qualifier, all_qualifiers, maybe_triple, shape_behind, a_shape, shape_or_reference, braced, joined_with, behind_constraint, constraint_first, literal_only, constraint_behind, shape_first, parenthesised, dot, atom, negated, and_behind, conjunction_from, conjunction, or_behind, disjunction_from, expression, most, limits, short, cardinality, further_from, further, dot_value, arc_value, cardinality_behind, direction, an_arc, grouped, unlabelled, inclusion, unary, semicolon, group, bar, alternatives}

-- what stands in brackets is local
pub record AreLocal (inside : Inside) : Type 0 where
  pub expr : IsLocal inside.expr
  pub triple_expr : IsLocal inside.triple_expr

pub local_opens : (a : Symbol) (n : ℕ) → IsLocal (opens a n)
unfolding opens
local_opens a zero = local_either _ _ _ (local_refuse _) (local_refuse _)
local_opens a (suc n) = local_bind _ _ (local_one _ _) (λ _. local_give _)

pub consumes_opens : (a : Symbol) (n : ℕ) → Consumes (opens a n)
unfolding opens
consumes_opens a zero = consumes_either _ _ _ (consumes_refuse _) (consumes_refuse _)
consumes_opens a (suc n) = consumes_bind _ _ (consumes_one _ _) (λ _. local_give _)

pub local_extra_behind : (v : Scope) (ps : List (List ℕ)) → IsLocal (extra_behind v ps)
unfolding extra_behind
local_extra_behind v ps = local_bind _ _ (local_predicate v) (λ p. local_give _)

pub consumes_extra_behind : (v : Scope) (ps : List (List ℕ)) → Consumes (extra_behind v ps)
unfolding extra_behind
consumes_extra_behind v ps = consumes_bind _ _ (consumes_predicate v) (λ p. local_give _)

pub local_extras : (v : Scope) (ps : List (List ℕ)) → IsLocal (extras v ps)
unfolding extras
local_extras v ps = local_bind _ _ (local_one _ _) (λ _. local_bind _ _ (local_extra_behind v ps) (λ qs. local_loop _ _ (consumes_extra_behind v) (local_extra_behind v) _))

pub consumes_extras : (v : Scope) (ps : List (List ℕ)) → Consumes (extras v ps)
unfolding extras
consumes_extras v ps = consumes_bind _ _ (consumes_one _ _) (λ _. local_bind _ _ (local_extra_behind v ps) (λ qs. local_loop _ _ (consumes_extra_behind v) (local_extra_behind v) _))

pub local_qualifier : (v : Scope) (q : Bool × List (List ℕ)) → IsLocal (qualifier v q)
unfolding qualifier
local_qualifier v q = local_either _ _ _ (local_bind _ _ (local_extras v _) (λ ps. local_give _)) (local_bind _ _ (local_one _ _) (λ _. local_give _))

pub consumes_qualifier : (v : Scope) (q : Bool × List (List ℕ)) → Consumes (qualifier v q)
unfolding qualifier
consumes_qualifier v q = consumes_either _ _ _ (consumes_bind _ _ (consumes_extras v _) (λ ps. local_give _)) (consumes_bind _ _ (consumes_one _ _) (λ _. local_give _))

pub local_all_qualifiers : (v : Scope) → IsLocal (all_qualifiers v)
unfolding all_qualifiers
local_all_qualifiers v = local_loop _ _ (consumes_qualifier v) (local_qualifier v) _

pub local_maybe_triple : (bounded : Bool) (v : Scope) (n : ℕ) (inside : Inside) (inner : AreLocal inside) → IsLocal (maybe_triple bounded v n inside)
unfolding maybe_triple
local_maybe_triple bounded v n inside inner = local_either _ _ _ (local_give _) (local_bind _ _ (inner.triple_expr) (λ t. local_give _))

pub local_shape_behind : (bounded : Bool) (v : Scope) (n : ℕ) (inside : Inside) (inner : AreLocal inside) (q : Bool × List (List ℕ)) → IsLocal (shape_behind bounded v n inside q)
unfolding shape_behind
local_shape_behind bounded v n inside inner q = local_bind _ _ (local_maybe_triple bounded v n inside inner) (λ t. local_bind _ _ (local_one _ _) (λ _. local_give _))

pub local_a_shape : (bounded : Bool) (v : Scope) (n : ℕ) (inside : Inside) (inner : AreLocal inside) (whole : Bool) → IsLocal (a_shape bounded v n inside whole)
unfolding a_shape
local_a_shape bounded v n inside inner whole = local_bind _ _ (local_all_qualifiers v)
    (λ q. local_bind _ _ (local_opens _ n) (λ _. local_bind _ _ (local_shape_behind bounded v n inside inner _) (λ s. local_bind _ _ (local_notes v whole) (λ _. local_give _))))

pub consumes_a_shape : (bounded : Bool) (v : Scope) (n : ℕ) (inside : Inside) (inner : AreLocal inside) (whole : Bool) → Consumes (a_shape bounded v n inside whole)
unfolding a_shape
consumes_a_shape bounded v n inside inner whole = consumes_then _ _ (local_all_qualifiers v)
    (λ q. consumes_bind _ _ (consumes_opens _ n) (λ _. local_bind _ _ (local_shape_behind bounded v n inside inner _) (λ s. local_bind _ _ (local_notes v whole) (λ _. local_give _))))

pub local_shape_or_reference : (bounded : Bool) (v : Scope) (n : ℕ) (inside : Inside) (inner : AreLocal inside) (whole : Bool) → IsLocal (shape_or_reference bounded v n inside whole)
unfolding shape_or_reference
local_shape_or_reference bounded v n inside inner whole = local_either _ _ _ (local_reference v) (local_a_shape bounded v n inside inner whole)

pub consumes_shape_or_reference : (bounded : Bool) (v : Scope) (n : ℕ) (inside : Inside) (inner : AreLocal inside) (whole : Bool) → Consumes (shape_or_reference bounded v n inside whole)
unfolding shape_or_reference
consumes_shape_or_reference bounded v n inside inner whole = consumes_either _ _ _ (consumes_reference v) (consumes_a_shape bounded v n inside inner whole)

pub local_braced : (bounded : Bool) (v : Scope) (n : ℕ) (inside : Inside) (inner : AreLocal inside) (c : ShapeExpr) → IsLocal (braced bounded v n inside c)
unfolding braced
local_braced bounded v n inside inner c = local_bind _ _ (local_opens _ n) (λ _. local_either _ _ _ (local_give _) (local_bind _ _ (local_shape_behind bounded v n inside inner _) (λ s. local_give _)))

pub local_joined_with : (bounded : Bool) (v : Scope) (n : ℕ) (inside : Inside) (inner : AreLocal inside) (whole : Bool) (c : ShapeExpr) → IsLocal (joined_with bounded v n inside whole c)
unfolding joined_with
local_joined_with bounded v n inside inner whole c = local_bind _ _ (local_shape_or_reference bounded v n inside inner whole) (λ s. local_give _)

pub local_behind_constraint : (bounded : Bool) (v : Scope) (n : ℕ) (inside : Inside) (inner : AreLocal inside) (whole : Bool) (c : ShapeExpr) → IsLocal (behind_constraint bounded v n inside whole c)
unfolding behind_constraint
local_behind_constraint bounded v n inside inner true c = local_either _ _ _ (local_joined_with bounded v n inside inner true c) (local_give _)
local_behind_constraint bounded v n inside inner false c = local_either _ _ _ (local_braced bounded v n inside inner c)
    (local_either _ _ _ (local_joined_with bounded v n inside inner false c) (local_give _))

pub local_constraint_first : (bounded : Bool) (v : Scope) (n : ℕ) (inside : Inside) (inner : AreLocal inside) (whole : Bool) → IsLocal (constraint_first bounded v n inside whole)
unfolding constraint_first
local_constraint_first bounded v n inside inner whole = local_bind _ _ (local_non_literal bounded v)
    (λ c. local_bind _ _ (local_notes v whole) (λ _. local_behind_constraint bounded v n inside inner whole _))

pub consumes_constraint_first : (bounded : Bool) (v : Scope) (n : ℕ) (inside : Inside) (inner : AreLocal inside) (whole : Bool) → Consumes (constraint_first bounded v n inside whole)
unfolding constraint_first
consumes_constraint_first bounded v n inside inner whole = consumes_bind _ _ (consumes_non_literal bounded v)
    (λ c. local_bind _ _ (local_notes v whole) (λ _. local_behind_constraint bounded v n inside inner whole _))

pub local_literal_only : (bounded : Bool) (v : Scope) (n : ℕ) (inside : Inside) (inner : AreLocal inside) (whole : Bool) → IsLocal (literal_only bounded v n inside whole)
unfolding literal_only
local_literal_only bounded v n inside inner whole = local_bind _ _ (local_literal_constraint bounded v) (λ c. local_bind _ _ (local_notes v whole) (λ _. local_give _))

pub consumes_literal_only : (bounded : Bool) (v : Scope) (n : ℕ) (inside : Inside) (inner : AreLocal inside) (whole : Bool) → Consumes (literal_only bounded v n inside whole)
unfolding literal_only
consumes_literal_only bounded v n inside inner whole = consumes_bind _ _ (consumes_literal_constraint bounded v) (λ c. local_bind _ _ (local_notes v whole) (λ _. local_give _))

pub local_constraint_behind : (bounded : Bool) (v : Scope) (n : ℕ) (inside : Inside) (inner : AreLocal inside) (whole : Bool) (c : ShapeExpr) → IsLocal (constraint_behind bounded v n inside whole c)
unfolding constraint_behind
local_constraint_behind bounded v n inside inner whole c = local_bind _ _ (local_non_literal bounded v) (λ d. local_bind _ _ (local_notes v whole) (λ _. local_give _))

pub local_shape_first : (bounded : Bool) (v : Scope) (n : ℕ) (inside : Inside) (inner : AreLocal inside) (whole : Bool) → IsLocal (shape_first bounded v n inside whole)
unfolding shape_first
local_shape_first bounded v n inside inner whole = local_bind _ _ (local_shape_or_reference bounded v n inside inner whole)
    (λ s. local_either _ _ _ (local_constraint_behind bounded v n inside inner whole _) (local_give _))

pub consumes_shape_first : (bounded : Bool) (v : Scope) (n : ℕ) (inside : Inside) (inner : AreLocal inside) (whole : Bool) → Consumes (shape_first bounded v n inside whole)
unfolding shape_first
consumes_shape_first bounded v n inside inner whole = consumes_bind _ _ (consumes_shape_or_reference bounded v n inside inner whole)
    (λ s. local_either _ _ _ (local_constraint_behind bounded v n inside inner whole _) (local_give _))

pub local_parenthesised : (bounded : Bool) (v : Scope) (n : ℕ) (inside : Inside) (inner : AreLocal inside) → IsLocal (parenthesised bounded v n inside)
unfolding parenthesised
local_parenthesised bounded v n inside inner = local_bind _ _ (local_opens _ n) (λ _. local_bind _ _ (inner.expr) (λ e. local_bind _ _ (local_one _ _) (λ _. local_give _)))

pub consumes_parenthesised : (bounded : Bool) (v : Scope) (n : ℕ) (inside : Inside) (inner : AreLocal inside) → Consumes (parenthesised bounded v n inside)
unfolding parenthesised
consumes_parenthesised bounded v n inside inner = consumes_bind _ _ (consumes_opens _ n) (λ _. local_bind _ _ (inner.expr) (λ e. local_bind _ _ (local_one _ _) (λ _. local_give _)))

pub local_dot : (bounded : Bool) (v : Scope) (n : ℕ) (inside : Inside) (inner : AreLocal inside) → IsLocal (dot bounded v n inside)
unfolding dot
local_dot bounded v n inside inner = local_bind _ _ (local_one _ _) (λ _. local_give _)

pub consumes_dot : (bounded : Bool) (v : Scope) (n : ℕ) (inside : Inside) (inner : AreLocal inside) → Consumes (dot bounded v n inside)
unfolding dot
consumes_dot bounded v n inside inner = consumes_bind _ _ (consumes_one _ _) (λ _. local_give _)

pub local_atom : (bounded : Bool) (v : Scope) (n : ℕ) (inside : Inside) (inner : AreLocal inside) (whole : Bool) → IsLocal (atom bounded v n inside whole)
unfolding atom
local_atom bounded v n inside inner whole = local_either _ _ _ (local_constraint_first bounded v n inside inner whole)
    (local_either _ _ _ (local_literal_only bounded v n inside inner whole) (local_either _ _ _ (local_shape_first bounded v n inside inner whole) (local_either _ _ _ (local_parenthesised bounded v n inside inner) (local_dot bounded v n inside inner))))

pub local_negated : (bounded : Bool) (v : Scope) (n : ℕ) (inside : Inside) (inner : AreLocal inside) (whole : Bool) → IsLocal (negated bounded v n inside whole)
unfolding negated
local_negated bounded v n inside inner whole =
    local_either _ _ _ (local_bind _ _ (local_one _ _) (λ _. local_bind _ _ (local_atom bounded v n inside inner whole) (λ x. local_give _))) (local_atom bounded v n inside inner whole)

pub local_and_behind : (bounded : Bool) (v : Scope) (n : ℕ) (inside : Inside) (inner : AreLocal inside) (whole : Bool) (a : List ShapeExpr × Bool) → IsLocal (and_behind bounded v n inside whole a)
unfolding and_behind
local_and_behind bounded v n inside inner whole a = local_bind _ _ (local_one _ _) (λ _. local_bind _ _ (local_negated bounded v n inside inner whole) (λ x. local_give _))

pub consumes_and_behind : (bounded : Bool) (v : Scope) (n : ℕ) (inside : Inside) (inner : AreLocal inside) (whole : Bool) (a : List ShapeExpr × Bool) → Consumes (and_behind bounded v n inside whole a)
unfolding and_behind
consumes_and_behind bounded v n inside inner whole a = consumes_bind _ _ (consumes_one _ _) (λ _. local_bind _ _ (local_negated bounded v n inside inner whole) (λ x. local_give _))

pub local_conjunction_from : (bounded : Bool) (v : Scope) (n : ℕ) (inside : Inside) (inner : AreLocal inside) (whole : Bool) (x : ShapeExpr × Bool) →
    IsLocal (conjunction_from bounded v n inside whole x)
unfolding conjunction_from
local_conjunction_from bounded v n inside inner whole x =
    local_bind _ _ (local_loop _ _ (consumes_and_behind bounded v n inside inner whole) (local_and_behind bounded v n inside inner whole) _) (λ a. local_give _)

pub local_conjunction : (bounded : Bool) (v : Scope) (n : ℕ) (inside : Inside) (inner : AreLocal inside) (whole : Bool) → IsLocal (conjunction bounded v n inside whole)
unfolding conjunction
local_conjunction bounded v n inside inner whole = local_bind _ _ (local_negated bounded v n inside inner whole) (λ x. local_conjunction_from bounded v n inside inner whole x)

pub local_or_behind : (bounded : Bool) (v : Scope) (n : ℕ) (inside : Inside) (inner : AreLocal inside) (whole : Bool) (a : List ShapeExpr × Bool) → IsLocal (or_behind bounded v n inside whole a)
unfolding or_behind
local_or_behind bounded v n inside inner whole a = local_bind _ _ (local_one _ _) (λ _. local_bind _ _ (local_conjunction bounded v n inside inner whole) (λ x. local_give _))

pub consumes_or_behind : (bounded : Bool) (v : Scope) (n : ℕ) (inside : Inside) (inner : AreLocal inside) (whole : Bool) (a : List ShapeExpr × Bool) → Consumes (or_behind bounded v n inside whole a)
unfolding or_behind
consumes_or_behind bounded v n inside inner whole a = consumes_bind _ _ (consumes_one _ _) (λ _. local_bind _ _ (local_conjunction bounded v n inside inner whole) (λ x. local_give _))

pub local_disjunction_from : (bounded : Bool) (v : Scope) (n : ℕ) (inside : Inside) (inner : AreLocal inside) (whole : Bool) (x : ShapeExpr × Bool) →
    IsLocal (disjunction_from bounded v n inside whole x)
unfolding disjunction_from
local_disjunction_from bounded v n inside inner whole x =
    local_bind _ _ (local_loop _ _ (consumes_or_behind bounded v n inside inner whole) (local_or_behind bounded v n inside inner whole) _) (λ a. local_give _)

pub local_expression : (bounded : Bool) (v : Scope) (n : ℕ) (inside : Inside) (inner : AreLocal inside) (whole : Bool) → IsLocal (expression bounded v n inside whole)
unfolding expression
local_expression bounded v n inside inner whole = local_bind _ _ (local_conjunction bounded v n inside inner whole) (λ x. local_disjunction_from bounded v n inside inner whole x)

pub local_most : (bounded : Bool) (v : Scope) (n : ℕ) (inside : Inside) (inner : AreLocal inside) (least : ℕ) → IsLocal (most bounded v n inside least)
unfolding most
local_most bounded v n inside inner least = local_bind _ _ (local_one _ _)
    (λ _. local_either _ _ _ (local_bind _ _ (local_one _ _) (λ _. local_give _)) (local_either _ _ _ (local_bind _ _ (local_one _ _) (λ m. local_give _)) (local_give _)))

pub local_limits : (bounded : Bool) (v : Scope) (n : ℕ) (inside : Inside) (inner : AreLocal inside) → IsLocal (limits bounded v n inside)
unfolding limits
local_limits bounded v n inside inner = local_bind _ _ (local_one _ _)
    (λ least. local_bind _ _ (local_either _ _ _ (local_most bounded v n inside inner _) (local_give _)) (λ b. local_bind _ _ (local_one _ _) (λ _. local_give _)))

pub local_short : (bounded : Bool) (v : Scope) (n : ℕ) (inside : Inside) (inner : AreLocal inside) (a : Symbol) (c : Cardinality) → IsLocal (short bounded v n inside a c)
unfolding short
local_short bounded v n inside inner a c = local_bind _ _ (local_one _ _) (λ _. local_give _)

pub local_cardinality : (bounded : Bool) (v : Scope) (n : ℕ) (inside : Inside) (inner : AreLocal inside) → IsLocal (cardinality bounded v n inside)
unfolding cardinality
local_cardinality bounded v n inside inner = local_either _ _ _ (local_short bounded v n inside inner _ _)
    (local_either _ _ _ (local_short bounded v n inside inner _ _) (local_either _ _ _ (local_short bounded v n inside inner _ _) (local_either _ _ _ (local_bind _ _ (local_opens _ n) (λ _. local_bind _ _ (local_limits bounded v n inside inner) (λ c. local_give _))) (local_give _))))

pub local_further_from : (bounded : Bool) (v : Scope) (n : ℕ) (inside : Inside) (inner : AreLocal inside) (x : ShapeExpr × Bool) → IsLocal (further_from bounded v n inside x)
unfolding further_from
local_further_from bounded v n inside inner x = local_bind _ _ (local_conjunction_from bounded v n inside inner false x) (λ y. local_disjunction_from bounded v n inside inner false y)

pub local_further : (bounded : Bool) (v : Scope) (n : ℕ) (inside : Inside) (inner : AreLocal inside) (x : ShapeExpr × Bool) → IsLocal (further bounded v n inside x)
unfolding further
local_further bounded v n inside inner x = local_bind _ _ (local_further_from bounded v n inside inner x) (λ y. local_give _)

pub local_dot_value : (bounded : Bool) (v : Scope) (n : ℕ) (inside : Inside) (inner : AreLocal inside) → IsLocal (dot_value bounded v n inside)
unfolding dot_value
local_dot_value bounded v n inside inner = local_bind _ _ (local_one _ _) (λ _. local_either _ _ _ (local_further bounded v n inside inner _) (local_give _))

pub local_arc_value : (bounded : Bool) (v : Scope) (n : ℕ) (inside : Inside) (inner : AreLocal inside) → IsLocal (arc_value bounded v n inside)
unfolding arc_value
local_arc_value bounded v n inside inner = local_either _ _ _ (local_dot_value bounded v n inside inner) (local_bind _ _ (local_expression bounded v n inside inner false) (λ y. local_give _))

pub local_cardinality_behind : (bounded : Bool) (v : Scope) (n : ℕ) (inside : Inside) (inner : AreLocal inside) (flag : Bool) → IsLocal (cardinality_behind bounded v n inside flag)
unfolding cardinality_behind
local_cardinality_behind bounded v n inside inner true = local_bind _ _ (local_limits bounded v n inside inner) (λ c. local_give _)
local_cardinality_behind bounded v n inside inner false = local_cardinality bounded v n inside inner

pub local_direction : (bounded : Bool) (v : Scope) (n : ℕ) (inside : Inside) (inner : AreLocal inside) → IsLocal (direction bounded v n inside)
unfolding direction
local_direction bounded v n inside inner = local_either _ _ _ (local_bind _ _ (local_one _ _) (λ _. local_give _)) (local_give _)

pub local_an_arc : (bounded : Bool) (v : Scope) (n : ℕ) (inside : Inside) (inner : AreLocal inside) (l : Option Label) → IsLocal (an_arc bounded v n inside l)
unfolding an_arc
local_an_arc bounded v n inside inner l = local_bind _ _ (local_direction bounded v n inside inner)
    (λ inverse. local_bind _ _ (local_predicate v) (λ p. local_bind _ _ (local_arc_value bounded v n inside inner) (λ x. local_bind _ _ (local_cardinality_behind bounded v n inside inner _) (λ c. local_bind _ _ (local_annotations v) (λ _. local_give _)))))

pub local_grouped : (bounded : Bool) (v : Scope) (n : ℕ) (inside : Inside) (inner : AreLocal inside) (l : Option Label) → IsLocal (grouped bounded v n inside l)
unfolding grouped
local_grouped bounded v n inside inner l = local_bind _ _ (local_opens _ n)
    (λ _. local_bind _ _ (inner.triple_expr) (λ t. local_bind _ _ (local_one _ _) (λ _. local_bind _ _ (local_cardinality bounded v n inside inner) (λ c. local_bind _ _ (local_annotations v) (λ _. local_give _)))))

pub local_unlabelled : (bounded : Bool) (v : Scope) (n : ℕ) (inside : Inside) (inner : AreLocal inside) (l : Option Label) → IsLocal (unlabelled bounded v n inside l)
unfolding unlabelled
local_unlabelled bounded v n inside inner l = local_either _ _ _ (local_grouped bounded v n inside inner l) (local_an_arc bounded v n inside inner l)

pub local_inclusion : (bounded : Bool) (v : Scope) (n : ℕ) (inside : Inside) (inner : AreLocal inside) → IsLocal (inclusion bounded v n inside)
unfolding inclusion
local_inclusion bounded v n inside inner = local_bind _ _ (local_one _ _) (λ _. local_bind _ _ (local_label v) (λ l. local_give _))

pub local_unary : (bounded : Bool) (v : Scope) (n : ℕ) (inside : Inside) (inner : AreLocal inside) → IsLocal (unary bounded v n inside)
unfolding unary
local_unary bounded v n inside inner = local_either _ _ _ (local_inclusion bounded v n inside inner)
    (local_either _ _ _ (local_bind _ _ (local_one _ _) (λ _. local_bind _ _ (local_label v) (λ l. local_unlabelled bounded v n inside inner _))) (local_unlabelled bounded v n inside inner None))

pub local_semicolon : (bounded : Bool) (v : Scope) (n : ℕ) (inside : Inside) (inner : AreLocal inside) (a : List TripleExpr × Bool) → IsLocal (semicolon bounded v n inside a)
unfolding semicolon
local_semicolon bounded v n inside inner (us, true) = local_refuse _
local_semicolon bounded v n inside inner (us, false) = local_bind _ _ (local_one _ _)
    (λ _. local_either _ _ _ (local_bind _ _ (local_unary bounded v n inside inner) (λ t. local_give _)) (local_give _))

pub consumes_semicolon : (bounded : Bool) (v : Scope) (n : ℕ) (inside : Inside) (inner : AreLocal inside) (a : List TripleExpr × Bool) → Consumes (semicolon bounded v n inside a)
unfolding semicolon
consumes_semicolon bounded v n inside inner (us, true) = consumes_refuse _
consumes_semicolon bounded v n inside inner (us, false) = consumes_bind _ _ (consumes_one _ _)
    (λ _. local_either _ _ _ (local_bind _ _ (local_unary bounded v n inside inner) (λ t. local_give _)) (local_give _))

pub local_group : (bounded : Bool) (v : Scope) (n : ℕ) (inside : Inside) (inner : AreLocal inside) → IsLocal (group bounded v n inside)
unfolding group
local_group bounded v n inside inner = local_bind _ _ (local_unary bounded v n inside inner)
    (λ t. local_bind _ _ (local_loop _ _ (consumes_semicolon bounded v n inside inner) (local_semicolon bounded v n inside inner) _) (λ a. local_give _))

pub local_bar : (bounded : Bool) (v : Scope) (n : ℕ) (inside : Inside) (inner : AreLocal inside) (us : List TripleExpr) → IsLocal (bar bounded v n inside us)
unfolding bar
local_bar bounded v n inside inner us = local_bind _ _ (local_one _ _) (λ _. local_bind _ _ (local_group bounded v n inside inner) (λ t. local_give _))

pub consumes_bar : (bounded : Bool) (v : Scope) (n : ℕ) (inside : Inside) (inner : AreLocal inside) (us : List TripleExpr) → Consumes (bar bounded v n inside us)
unfolding bar
consumes_bar bounded v n inside inner us = consumes_bind _ _ (consumes_one _ _) (λ _. local_bind _ _ (local_group bounded v n inside inner) (λ t. local_give _))

pub local_alternatives : (bounded : Bool) (v : Scope) (n : ℕ) (inside : Inside) (inner : AreLocal inside) → IsLocal (alternatives bounded v n inside)
unfolding alternatives
local_alternatives bounded v n inside inner = local_bind _ _ (local_group bounded v n inside inner)
    (λ t. local_bind _ _ (local_loop _ _ (consumes_bar bounded v n inside inner) (local_bar bounded v n inside inner) _) (λ us. local_give _))

-- at each depth
pub local_level : (bounded : Bool) (v : Scope) (d : ℕ) → AreLocal (level bounded v d)
unfolding level
local_level bounded v zero = record { expr = local_refuse _; triple_expr = local_refuse _ }
local_level bounded v (suc d) = record {
  expr = local_expression bounded v d (level bounded v d) (local_level bounded v d) true;
  triple_expr = local_alternatives bounded v d (level bounded v d) (local_level bounded v d);
}

-- statements
module _ (bounded : Bool) (d : ℕ) where
  pub local_whole : (v : Scope) → IsLocal (whole bounded d v)
  unfolding whole
  local_whole v = local_bind _ _ ((local_level bounded v (suc d)).expr) (λ x. local_give _)

  local_base : (a : State) → IsLocal (base_directive bounded d a)
  unfolding base_directive
  local_base a = local_bind _ _ (local_one _ _) (λ _. local_bind _ _ (local_one _ _) (λ i. local_give _))

  consumes_base : (a : State) → Consumes (base_directive bounded d a)
  unfolding base_directive
  consumes_base a = consumes_bind _ _ (consumes_one _ _) (λ _. local_bind _ _ (local_one _ _) (λ i. local_give _))

  local_prefix : (a : State) → IsLocal (prefix_directive bounded d a)
  unfolding prefix_directive
  local_prefix a = local_bind _ _ (local_one _ _) (λ _. local_bind _ _ (local_one _ _) (λ t. local_bind _ _ (local_one _ _) (λ i. local_give _)))

  consumes_prefix : (a : State) → Consumes (prefix_directive bounded d a)
  unfolding prefix_directive
  consumes_prefix a = consumes_bind _ _ (consumes_one _ _) (λ _. local_bind _ _ (local_one _ _) (λ t. local_bind _ _ (local_one _ _) (λ i. local_give _)))

  local_import : (a : State) → IsLocal (import_directive bounded d a)
  unfolding import_directive
  local_import a = local_bind _ _ (local_one _ _) (λ _. local_bind _ _ (local_iri a.scope) (λ i. local_give _))

  consumes_import : (a : State) → Consumes (import_directive bounded d a)
  unfolding import_directive
  consumes_import a = consumes_bind _ _ (consumes_one _ _) (λ _. local_bind _ _ (local_iri a.scope) (λ i. local_give _))

  local_first : (e : MaybeShapeExpr) → IsLocal (first_start bounded d e)
  unfolding first_start
  local_first no_expr = local_one _ _
  local_first (one_expr e) = local_refuse _

  consumes_first : (e : MaybeShapeExpr) → Consumes (first_start bounded d e)
  unfolding first_start
  consumes_first no_expr = consumes_one _ _
  consumes_first (one_expr e) = consumes_refuse _

  local_start : (a : State) → IsLocal (start_directive bounded d a)
  unfolding start_directive
  local_start a = local_bind _ _ (local_first a.start) (λ _. local_bind _ _ (local_one _ _) (λ _. local_bind _ _ (local_whole a.scope) (λ e. local_give _)))

  consumes_start : (a : State) → Consumes (start_directive bounded d a)
  unfolding start_directive
  consumes_start a = consumes_bind _ _ (consumes_first a.start) (λ _. local_bind _ _ (local_one _ _) (λ _. local_bind _ _ (local_whole a.scope) (λ e. local_give _)))

  local_body : (v : Scope) → IsLocal (body bounded d v)
  unfolding body
  local_body v = local_either _ _ _ (local_refuse _) (local_whole v)

  local_declaration : (a : State) → IsLocal (declaration bounded d a)
  unfolding declaration
  local_declaration a = local_bind _ _ (local_label a.scope) (λ l. local_bind _ _ (local_body a.scope) (λ e. local_give _))

  consumes_declaration : (a : State) → Consumes (declaration bounded d a)
  unfolding declaration
  consumes_declaration a = consumes_bind _ _ (consumes_label a.scope) (λ l. local_bind _ _ (local_body a.scope) (λ e. local_give _))

  pub local_statement : (a : State) → IsLocal (statement bounded d a)
  unfolding statement
  local_statement a = local_either _ _ _ (local_base a) (local_either _ _ _ (local_prefix a) (local_either _ _ _ (local_import a) (local_either _ _ _ (local_start a) (local_declaration a))))

  pub consumes_statement : (a : State) → Consumes (statement bounded d a)
  unfolding statement
  consumes_statement a = consumes_either _ _ _ (consumes_base a)
      (consumes_either _ _ _ (consumes_prefix a) (consumes_either _ _ _ (consumes_import a) (consumes_either _ _ _ (consumes_start a) (consumes_declaration a))))

  pub local_document : (a : State) → IsLocal (document bounded d a)
  unfolding document
  local_document a = local_bind _ _ (local_loop _ _ consumes_statement local_statement _) (λ b. local_finish _ _)
