use Rattle.std.proofs.Common.{rules, ◌≡◌, ◌≢◌, ◌+◌, codes, false}
use Rattle.std.specs.Prelude.{Some}
use Rattle.serde_json.specs.View.{view}
use Rattle.shexj_reader.specs.ConstraintFaults.{ConstraintFault}
use Rattle.shexj_reader.specs.Constraints.{constraint_keys}
use Rattle.shexj_reader.specs.ExpressionFaults.{ArcFault, CardinalityFault, ExprFault, ExprObjectFault, GroupFault, JoinFault, NegationFault, ShapeFault, TripleFault, TripleObjectFault, bad_constraint, bad_negation, outside, too_deep, triple_too_deep}
use Rattle.shexj_reader.specs.Faults.{IsBad, IsUnknownKey, form}
use Rattle.shexj_reader.specs.Keys.{flag, is_object, members, text, texts, type_of, with_id}
use Rattle.shexj_reader.specs.Labels.{label_if_any}
use Rattle.shexj_reader.specs.Types.{arc_keys, expr_type, group_keys, join_keys, not_keys, shape_keys, triple_type}
use Rattle.shexj_reader.specs.declared.kinds.ExprKind.{ExprKind}
use Rattle.shexj_reader.specs.declared.kinds.TripleKind.{TripleKind}
use Rattle.shexj_reader.proofs.Causes.{because, made}
use Rattle.shexj_reader.proofs.ExpressionCauses.{arc_made, arc_passed, expr_handed, expr_made, expression_passed, formless, formless_triple, group_made, group_passed, join_passed, member_passed, negated_passed, negation_passed, placed, placed_triple, shape_made, shape_passed, triple_handed, triple_made, triple_passed, untyped, untyped_triple, value_passed}
use Rattle.shexj_reader.proofs.ReadParts.{exprs_more, exprs_within, triples_more, triples_within}
use Rattle.shexj_reader.proofs.expressions.+expressions.Goals as goal

pub read_expr-returns-then-not-is_object-clause-cause : goal.read_expr-returns-then-not-is_object-clause-cause
read_expr-returns-then-not-is_object-clause-cause t c =
    let d = view c.args.value.now in
    let no_object : is_object d ≡ false = search rules in
    because (λ f. f ≡ form c.args.key.now) (λ f. ExprFault f c.args.key.now c.args.labelled c.args.depth d) c.bad_form.result
    (λ f h. formless c.args.key.now c.args.labelled c.args.depth f d h c.in_default.ensures no_object) c.bad_form.ensures

pub read_expr-returns-clause-cause : goal.read_expr-returns-clause-cause
read_expr-returns-clause-cause t c =
    placed c.args.key.now c.args.labelled c.args.depth _ c.read_expr_object.result c.read_expr_object.ensures.cause

pub read_expr_object-returns-in_default-clause-cause : goal.read_expr_object-returns-in_default-clause-cause
read_expr_object-returns-in_default-clause-cause t c =
    let d = view c.args.value.now in
    let other : (kind : ExprKind) → type_of d ≢ Some (expr_type kind) = search rules in
    let inside : type_of d ≢ Some (codes "ShapeExternal") = search rules in
    because (λ f. f ≡ form (codes "type")) (λ f. ExprObjectFault f c.args.labelled c.args.depth d) c.bad_form.result
    (λ f h. untyped c.args.labelled c.args.depth f d h c.requires other inside) c.bad_form.ensures

pub read_expr_object-returns-then-has_type-clause-cause : goal.read_expr_object-returns-then-has_type-clause-cause
read_expr_object-returns-then-has_type-clause-cause t c =
    outside (search rules) (search rules)

pub read_expr_object-returns-then-depth-eq0-clause-cause : goal.read_expr_object-returns-then-depth-eq0-clause-cause
read_expr_object-returns-then-depth-eq0-clause-cause t c =
    let typed : type_of (view c.args.value.now) ≡ Some (expr_type c.in-Some.kind) = search rules in
    too_deep c.in-Some.kind (search rules) c.if-depth-eq0.true typed

pub read_expr_object-returns-in-Or-clause-cause : goal.read_expr_object-returns-in-Or-clause-cause
read_expr_object-returns-in-Or-clause-cause t c =
    expr_made c.args.labelled c.args.depth _ _ c.read_join.result c.map.result c.map.ensures.cases c.if-depth-eq0.false c.read_join.ensures.cause

pub read_expr_object-returns-in-And-clause-cause : goal.read_expr_object-returns-in-And-clause-cause
read_expr_object-returns-in-And-clause-cause t c =
    expr_made c.args.labelled c.args.depth _ _ c.read_join-in-And.result c.map-in-And.result c.map-in-And.ensures.cases c.if-depth-eq0.false c.read_join-in-And.ensures.cause

pub read_expr_object-returns-in-Node-clause-cause : goal.read_expr_object-returns-in-Node-clause-cause
read_expr_object-returns-in-Node-clause-cause t c =
    let d = view c.args.value.now in
    let typed : type_of d ≡ Some (codes "NodeConstraint") = search rules in
    made (λ f. ConstraintFault (with_id c.args.labelled constraint_keys) f d)
    (λ f. ExprObjectFault f c.args.labelled c.args.depth d) _ c.read_constraint.result c.map-in-Node.result c.map-in-Node.ensures.cases
    (λ f h. bad_constraint typed h) c.read_constraint.ensures.cause

pub read_expr_object-returns-in-Not-clause-cause : goal.read_expr_object-returns-in-Not-clause-cause
read_expr_object-returns-in-Not-clause-cause t c =
    expr_handed c.args.labelled c.args.depth _ c.read_not.result c.if-depth-eq0.false c.read_not.ensures.cause

pub read_expr_object-returns-in-Shape-clause-cause : goal.read_expr_object-returns-in-Shape-clause-cause
read_expr_object-returns-in-Shape-clause-cause t c =
    expr_handed c.args.labelled c.args.depth _ c.read_shape.result c.if-depth-eq0.false c.read_shape.ensures.cause

pub read_join-returns-in_err-only_own_keys-clause-cause : goal.read_join-returns-in_err-only_own_keys-clause-cause
read_join-returns-in_err-only_own_keys-clause-cause t c =
    let d = view c.args.value.now in
    join_passed (λ f. IsUnknownKey (with_id c.args.labelled join_keys) f d) c.args.labelled (c.args.depth + 1) d c.from_residual.result c.in_err-only_own_keys.field-0.0 c.from_residual.ensures.1 c.requires (λ f h. JoinFault.unknown_key h) c.in_err-only_own_keys.ensures.cause

pub read_join-returns-in_err-items-clause-cause : goal.read_join-returns-in_err-items-clause-cause
read_join-returns-in_err-items-clause-cause t c =
    let d = view c.args.value.now in
    join_passed (λ f. IsBad (codes "shapeExprs") members f d) c.args.labelled (c.args.depth + 1) d c.from_residual-in_err-items.result c.in_err-items.field-0.0 c.from_residual-in_err-items.ensures.1 c.requires (λ f h. JoinFault.no_members h) c.in_err-items.ensures.cause

pub read_join-returns-in_err-member-clause-cause : goal.read_join-returns-in_err-member-clause-cause
read_join-returns-in_err-member-clause-cause t c =
    member_passed c.args.labelled c.args.depth _ c.in_ok-items.items.now c.loop-item.item-index c.item-item.result c.from_residual-in_err-member.result c.in_err-member.field-0.0 c.from_residual-in_err-member.ensures.1
    c.requires c.in_ok-items.ensures.ok c.loop-item-test.true c.item-item.is c.in_err-member.ensures.cause

pub read_join-loop-item-preserved : goal.read_join-loop-item-preserved
read_join-loop-item-preserved t c =
    record {
      spelled = rw c.in_ok-push.ensures.items (exprs_more c.loop-item.all.items c.in_ok-items.items.now c.loop-item.item-index c.in_ok-member.member c.item-item.result c.loop-item-test.true c.item-item.is c.loop-item.invariant.spelled c.in_ok-member.ensures.ok.spelled);
      within = rw c.in_ok-push.ensures.items (exprs_within c.loop-item.all.items c.in_ok-member.member c.args.depth c.loop-item.invariant.within c.in_ok-member.ensures.ok.within);
    }

pub read_not-returns-in_err-only_own_keys-clause-cause : goal.read_not-returns-in_err-only_own_keys-clause-cause
read_not-returns-in_err-only_own_keys-clause-cause t c =
    let d = view c.args.value.now in
    negation_passed (λ f. IsUnknownKey (with_id c.args.labelled not_keys) f d) c.args.labelled (c.args.depth + 1) d c.from_residual.result c.in_err-only_own_keys.field-0.0 c.from_residual.ensures.1 c.requires (λ f h. NegationFault.unknown_key h) c.in_err-only_own_keys.ensures.cause

pub read_not-returns-in_default-clause-cause : goal.read_not-returns-in_default-clause-cause
read_not-returns-in_default-clause-cause t c =
    let d = view c.args.value.now in
    because (λ f. f ≡ form (codes "shapeExpr")) (λ f. ExprObjectFault f c.args.labelled (c.args.depth + 1) d) c.bad_form.result
    (λ f h. bad_negation c.requires (NegationFault.no_child h (search rules))) c.bad_form.ensures

pub read_not-returns-in_err-inner-clause-cause : goal.read_not-returns-in_err-inner-clause-cause
read_not-returns-in_err-inner-clause-cause t c =
    negated_passed c.args.labelled c.args.depth _ (view c.in-Some.child.now) c.from_residual-in_err-inner.result c.in_err-inner.field-0.0 c.from_residual-in_err-inner.ensures.1 c.requires (search rules) c.in_err-inner.ensures.cause

pub read_shape-returns-in_err-only_own_keys-clause-cause : goal.read_shape-returns-in_err-only_own_keys-clause-cause
read_shape-returns-in_err-only_own_keys-clause-cause t c =
    let d = view c.args.value.now in
    shape_passed (λ f. IsUnknownKey (with_id c.args.labelled shape_keys) f d) c.args.labelled (c.args.depth + 1) d c.from_residual.result c.in_err-only_own_keys.field-0.0 c.from_residual.ensures.1 c.requires (λ f h. ShapeFault.unknown_key h) c.in_err-only_own_keys.ensures.cause

pub read_shape-returns-in_err-closed-clause-cause : goal.read_shape-returns-in_err-closed-clause-cause
read_shape-returns-in_err-closed-clause-cause t c =
    let d = view c.args.value.now in
    shape_passed (λ f. IsBad (codes "closed") flag f d) c.args.labelled (c.args.depth + 1) d c.from_residual-in_err-closed.result c.in_err-closed.field-0.0 c.from_residual-in_err-closed.ensures.1 c.requires (λ f h. ShapeFault.bad_closed h) c.in_err-closed.ensures.cause

pub read_shape-returns-in_err-extra-clause-cause : goal.read_shape-returns-in_err-extra-clause-cause
read_shape-returns-in_err-extra-clause-cause t c =
    let d = view c.args.value.now in
    shape_passed (λ f. IsBad (codes "extra") texts f d) c.args.labelled (c.args.depth + 1) d c.from_residual-in_err-extra.result c.in_err-extra.field-0.0 c.from_residual-in_err-extra.ensures.1 c.requires (λ f h. ShapeFault.bad_extra h) c.in_err-extra.ensures.cause

pub read_shape-returns-clause-cause : goal.read_shape-returns-clause-cause
read_shape-returns-clause-cause t c =
    shape_made c.args.labelled (c.args.depth + 1) _ _ c.only_plain.result c.map.result c.map.ensures.cases c.requires c.only_plain.ensures.cause

pub read_shape-returns-in_err-inner-in-Some-clause-cause : goal.read_shape-returns-in_err-inner-in-Some-clause-cause
read_shape-returns-in_err-inner-in-Some-clause-cause t c =
    expression_passed c.args.labelled c.args.depth _ (view c.in-Some.child.now) c.from_residual-in_err-inner-in-Some.result c.in_err-inner-in-Some.field-0.0 c.from_residual-in_err-inner-in-Some.ensures.1 c.requires (search rules) c.in_err-inner-in-Some.ensures.cause

pub read_triple-returns-then-not-is_object-clause-cause : goal.read_triple-returns-then-not-is_object-clause-cause
read_triple-returns-then-not-is_object-clause-cause t c =
    let d = view c.args.value.now in
    let no_object : is_object d ≡ false = search rules in
    because (λ f. f ≡ form c.args.key.now) (λ f. TripleFault f c.args.key.now c.args.depth d) c.bad_form.result
    (λ f h. formless_triple c.args.key.now c.args.depth f d h c.in_default.ensures no_object) c.bad_form.ensures

pub read_triple-returns-clause-cause : goal.read_triple-returns-clause-cause
read_triple-returns-clause-cause t c =
    placed_triple c.args.key.now c.args.depth _ c.read_triple_object.result c.read_triple_object.ensures.cause

pub read_triple_object-returns-in_default-clause-cause : goal.read_triple_object-returns-in_default-clause-cause
read_triple_object-returns-in_default-clause-cause t c =
    let d = view c.args.value.now in
    let other : (kind : TripleKind) → type_of d ≢ Some (triple_type kind) = search rules in
    because (λ f. f ≡ form (codes "type")) (λ f. TripleObjectFault f c.args.depth d) c.bad_form.result
    (λ f h. untyped_triple c.args.depth f d h c.requires other) c.bad_form.ensures

pub read_triple_object-returns-then-depth-eq0-clause-cause : goal.read_triple_object-returns-then-depth-eq0-clause-cause
read_triple_object-returns-then-depth-eq0-clause-cause t c =
    let typed : type_of (view c.args.value.now) ≡ Some (triple_type c.in-Some.kind) = search rules in
    triple_too_deep c.in-Some.kind (search rules) c.if-depth-eq0.true typed

pub read_triple_object-returns-in-Each-clause-cause : goal.read_triple_object-returns-in-Each-clause-cause
read_triple_object-returns-in-Each-clause-cause t c =
    triple_made c.args.depth _ _ c.read_group.result c.map.result c.map.ensures.cases c.if-depth-eq0.false c.read_group.ensures.cause

pub read_triple_object-returns-in-One-clause-cause : goal.read_triple_object-returns-in-One-clause-cause
read_triple_object-returns-in-One-clause-cause t c =
    triple_made c.args.depth _ _ c.read_group-in-One.result c.map-in-One.result c.map-in-One.ensures.cases c.if-depth-eq0.false c.read_group-in-One.ensures.cause

pub read_triple_object-returns-in-Arc-clause-cause : goal.read_triple_object-returns-in-Arc-clause-cause
read_triple_object-returns-in-Arc-clause-cause t c =
    triple_handed c.args.depth _ c.read_arc.result c.if-depth-eq0.false c.read_arc.ensures.cause

pub read_group-returns-in_err-only_keys-clause-cause : goal.read_group-returns-in_err-only_keys-clause-cause
read_group-returns-in_err-only_keys-clause-cause t c =
    let d = view c.args.value.now in
    group_passed (λ f. IsUnknownKey group_keys f d)
    (c.args.depth + 1) d c.from_residual.result c.in_err-only_keys.field-0.0 c.from_residual.ensures.1 c.requires (λ f h. GroupFault.unknown_key h) c.in_err-only_keys.ensures.cause

pub read_group-returns-in_err-label-clause-cause : goal.read_group-returns-in_err-label-clause-cause
read_group-returns-in_err-label-clause-cause t c =
    let d = view c.args.value.now in
    group_passed (λ f. IsBad (codes "id") label_if_any f d)
    (c.args.depth + 1) d c.from_residual-in_err-label.result c.in_err-label.field-0.0 c.from_residual-in_err-label.ensures.1 c.requires (λ f h. GroupFault.bad_label h) c.in_err-label.ensures.cause

pub read_group-returns-in_err-min-clause-cause : goal.read_group-returns-in_err-min-clause-cause
read_group-returns-in_err-min-clause-cause t c =
    let d = view c.args.value.now in
    group_passed (λ f. CardinalityFault f d)
    (c.args.depth + 1) d c.from_residual-in_err-min.result c.in_err-min.field-0.0 c.from_residual-in_err-min.ensures.1 c.requires (λ f h. GroupFault.bad_count h) c.in_err-min.ensures.cause

pub read_group-returns-clause-cause : goal.read_group-returns-clause-cause
read_group-returns-clause-cause t c =
    group_made (c.args.depth + 1) _ _ c.only_plain.result c.map.result c.map.ensures.cases c.requires c.only_plain.ensures.cause

pub read_triples-returns-in_err-items-clause-cause : goal.read_triples-returns-in_err-items-clause-cause
read_triples-returns-in_err-items-clause-cause t c =
    let d = view c.args.value.now in
    group_passed (λ f. IsBad (codes "expressions") members f d)
    (c.args.depth + 1) d c.from_residual.result c.in_err-items.field-0.0 c.from_residual.ensures.1 c.requires (λ f h. GroupFault.no_members h) c.in_err-items.ensures.cause

pub read_triples-returns-in_err-member-clause-cause : goal.read_triples-returns-in_err-member-clause-cause
read_triples-returns-in_err-member-clause-cause t c =
    triple_passed c.args.depth _ c.in_ok-items.items.now c.loop-item.item-index c.item-item.result c.from_residual-in_err-member.result c.in_err-member.field-0.0 c.from_residual-in_err-member.ensures.1
    c.requires c.in_ok-items.ensures.ok c.loop-item-test.true c.item-item.is c.in_err-member.ensures.cause

pub read_triples-loop-item-preserved : goal.read_triples-loop-item-preserved
read_triples-loop-item-preserved t c =
    record {
      spelled = rw c.in_ok-push.ensures.items (triples_more c.loop-item.all.items c.in_ok-items.items.now c.loop-item.item-index c.in_ok-member.member c.item-item.result c.loop-item-test.true c.item-item.is c.loop-item.invariant.spelled c.in_ok-member.ensures.ok.spelled);
      within = rw c.in_ok-push.ensures.items (triples_within c.loop-item.all.items c.in_ok-member.member c.args.depth c.loop-item.invariant.within c.in_ok-member.ensures.ok.within);
    }

pub read_arc-returns-in_err-only_keys-clause-cause : goal.read_arc-returns-in_err-only_keys-clause-cause
read_arc-returns-in_err-only_keys-clause-cause t c =
    let d = view c.args.value.now in
    arc_passed (λ f. IsUnknownKey arc_keys f d)
    (c.args.depth + 1) d c.from_residual.result c.in_err-only_keys.field-0.0 c.from_residual.ensures.1 c.requires (λ f h. ArcFault.unknown_key h) c.in_err-only_keys.ensures.cause

pub read_arc-returns-in_err-label-clause-cause : goal.read_arc-returns-in_err-label-clause-cause
read_arc-returns-in_err-label-clause-cause t c =
    let d = view c.args.value.now in
    arc_passed (λ f. IsBad (codes "id") label_if_any f d)
    (c.args.depth + 1) d c.from_residual-in_err-label.result c.in_err-label.field-0.0 c.from_residual-in_err-label.ensures.1 c.requires (λ f h. ArcFault.bad_label h) c.in_err-label.ensures.cause

pub read_arc-returns-in_err-inverse-clause-cause : goal.read_arc-returns-in_err-inverse-clause-cause
read_arc-returns-in_err-inverse-clause-cause t c =
    let d = view c.args.value.now in
    arc_passed (λ f. IsBad (codes "inverse") flag f d)
    (c.args.depth + 1) d c.from_residual-in_err-inverse.result c.in_err-inverse.field-0.0 c.from_residual-in_err-inverse.ensures.1 c.requires (λ f h. ArcFault.bad_inverse h) c.in_err-inverse.ensures.cause

pub read_arc-returns-in_err-predicate-clause-cause : goal.read_arc-returns-in_err-predicate-clause-cause
read_arc-returns-in_err-predicate-clause-cause t c =
    let d = view c.args.value.now in
    arc_passed (λ f. IsBad (codes "predicate") text f d)
    (c.args.depth + 1) d c.from_residual-in_err-predicate.result c.in_err-predicate.field-0.0 c.from_residual-in_err-predicate.ensures.1 c.requires (λ f h. ArcFault.bad_predicate h) c.in_err-predicate.ensures.cause

pub read_arc-returns-in_err-min-clause-cause : goal.read_arc-returns-in_err-min-clause-cause
read_arc-returns-in_err-min-clause-cause t c =
    let d = view c.args.value.now in
    arc_passed (λ f. CardinalityFault f d)
    (c.args.depth + 1) d c.from_residual-in_err-min.result c.in_err-min.field-0.0 c.from_residual-in_err-min.ensures.1 c.requires (λ f h. ArcFault.bad_count h) c.in_err-min.ensures.cause

pub read_arc-returns-clause-cause : goal.read_arc-returns-clause-cause
read_arc-returns-clause-cause t c =
    arc_made (c.args.depth + 1) _ _ c.only_plain.result c.map.result c.map.ensures.cases c.requires c.only_plain.ensures.cause

pub read_arc-returns-in_err-inner-in-Some-clause-cause : goal.read_arc-returns-in_err-inner-in-Some-clause-cause
read_arc-returns-in_err-inner-in-Some-clause-cause t c =
    value_passed c.args.depth _ (view c.in-Some.child.now) c.from_residual-in_err-inner-in-Some.result c.in_err-inner-in-Some.field-0.0 c.from_residual-in_err-inner-in-Some.ensures.1 c.requires (search rules) c.in_err-inner-in-Some.ensures.cause
