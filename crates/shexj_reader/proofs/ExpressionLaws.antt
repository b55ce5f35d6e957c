-- Where a shape or a triple expression within the limit is spelled, no fault stands.
use Rattle.std.proofs.Common.{◌≡◌, ◌≤◌, ℕ, zero, suc, Bool, false, List, ap, subst, arith}
use Rattle.std.specs.Prelude.{Option, Some, None, codes, option_map}
use Rattle.std.specs.Str.{chars}
use Rattle.serde_json.specs.Data.{Data, Items, no_items, item}
use Rattle.serde_json.specs.Find.{get, get_item}
use Rattle.tally.specs.Span.{IsOrdered}
use Rattle.tally.specs.declared.Bound.{Bound}
use Rattle.tally.specs.declared.Bound.TheVariants.{Upto}
use Rattle.schema_documents.specs.declared.label.Label.{Label}
use Rattle.schema_documents.specs.Tree.{MaybeShapeExpr, MaybeTripleExpr, ShapeExpr, ShapeExprs, TripleBody, TripleExpr, TripleExprs, arc, conj, disj, each, include, more_exprs, more_triples, neg, no_expr, no_exprs, no_triple, no_triples, node, one, one_expr, one_triple, refer, shape, triple}
use Rattle.shexj_reader.specs.Cardinalities.{IsCardinality}
use Rattle.shexj_reader.specs.Constraints.{constraint_keys}
use Rattle.shexj_reader.specs.ExpressionFaults.{ArcFault, CardinalityFault, ExprFault, ExprObjectFault, GroupFault, HasNoExprType, HasNoTripleType, IsItem, IsNoExpr, IsNoTriple, JoinFault, NegationFault, ShapeFault, TripleFault, TripleObjectFault}
use Rattle.shexj_reader.specs.ExpressionFaults as faults
use Rattle.shexj_reader.specs.Expressions.{HasChild, HasMembers, IsArc, IsGroup, IsJoined, IsNegated, IsShape, SpellsBody, SpellsExpr, SpellsExpression, SpellsExprs, SpellsTripleExpr, SpellsTripleExprs, SpellsValueExpr}
use Rattle.shexj_reader.specs.Faults.{Fault}
use Rattle.shexj_reader.specs.Keys.{type_of, with_id, word}
use Rattle.shexj_reader.specs.Labels.{label, label_from}
use Rattle.shexj_reader.specs.Nesting.{body_nesting, exprs_nesting, maybe_expr_nesting, maybe_triple_nesting, nesting, triple_nesting, triples_nesting}
use Rattle.shexj_reader.specs.Types.{arc_keys, group_keys, join_keys, not_keys, shape_keys}
use Rattle.shexj_reader.specs.declared.kinds.ExprKind.TheVariants as Exprs
use Rattle.shexj_reader.specs.declared.kinds.TripleKind.TheVariants as Triples
use Rattle.shexj_reader.proofs.ConstraintLaws.{no_constraint_fault}
use Rattle.shexj_reader.proofs.KeyLaws.{known_keys, no_plain_fault}
use Rattle.shexj_reader.proofs.TypeLaws.{arc_at, grouped_at, has_type, joined_at, negated_at, node_at, no_text, not_external, of_no_type, other_type, reference_type, shape_at, text_type, tree_type}

-- ---- what stands inside a spelled object is spelled

pub record IsMember (n : ℕ) (v : Data) : Type 0 where
  pub expr : ShapeExpr
  pub spelled : SpellsExpr false expr v
  pub within : nesting expr ≤ n

pub record IsTripleMember (n : ℕ) (v : Data) : Type 0 where
  pub t : TripleExpr
  pub spelled : SpellsTripleExpr t v
  pub within : triple_nesting t ≤ n

member_in : (n : ℕ) (es : ShapeExprs) (ds : Items) (k : ℕ) (v : Data) → SpellsExprs es ds → exprs_nesting es ≤ n → get_item k ds ≡ Some v → IsMember n v
member_in n no_exprs no_items k v h w e = cc
member_in n no_exprs (item d ds) k v h w e = absurd h
member_in n (more_exprs x es) no_items k v h w e = absurd h
member_in n (more_exprs x es) (item d ds) zero v h w e = let same : d ≡ v = cc in record { expr = x; spelled = subst (SpellsExpr false x) same h.0; within = omega arith }
member_in n (more_exprs x es) (item d ds) (suc k) v h w e = member_in n es ds k v h.1 (omega arith) e

triple_in : (n : ℕ) (ts : TripleExprs) (ds : Items) (k : ℕ) (v : Data) → SpellsTripleExprs ts ds → triples_nesting ts ≤ n → get_item k ds ≡ Some v → IsTripleMember n v
triple_in n no_triples no_items k v h w e = cc
triple_in n no_triples (item d ds) k v h w e = absurd h
triple_in n (more_triples x ts) no_items k v h w e = absurd h
triple_in n (more_triples x ts) (item d ds) zero v h w e = let same : d ≡ v = cc in record { t = x; spelled = subst (SpellsTripleExpr x) same h.0; within = omega arith }
triple_in n (more_triples x ts) (item d ds) (suc k) v h w e = triple_in n ts ds k v h.1 (omega arith) e

member_at : (n : ℕ) (key : List ℕ) (es : ShapeExprs) (v d : Data) → IsItem key v d → HasMembers key (SpellsExprs es) d → exprs_nesting es ≤ n → IsMember n v
member_at n key es v d i h w =
    let found = h.found in let listed = i.listed in
    let same : h.items ≡ i.items = cc in
    member_in n es i.items i.place v (subst (SpellsExprs es) same h.all) w i.there

triple_at : (n : ℕ) (key : List ℕ) (ts : TripleExprs) (v d : Data) → IsItem key v d → HasMembers key (SpellsTripleExprs ts) d → triples_nesting ts ≤ n → IsTripleMember n v
triple_at n key ts v d i h w =
    let found = h.found in let listed = i.listed in
    let same : h.items ≡ i.items = cc in
    triple_in n ts i.items i.place v (subst (SpellsTripleExprs ts) same h.all) w i.there

pub child_at : (n : ℕ) (key : List ℕ) (e : ShapeExpr) (v d : Data) → get key d ≡ Some v → HasChild key (SpellsExpr false e) d → nesting e ≤ n → IsMember n v
child_at n key e v d there h w =
    let found = h.found in
    let same : h.child ≡ v = cc in
    record { expr = e; spelled = subst (SpellsExpr false e) same h.one; within = w }

value_in : (n : ℕ) (e : MaybeShapeExpr) (v : Data) → SpellsValueExpr e (Some v) → maybe_expr_nesting e ≤ n → IsMember n v
value_in n no_expr v h w = absurd h
value_in n (one_expr e) v h w = record { expr = e; spelled = h; within = w }

pub value_at : (n : ℕ) (e : MaybeShapeExpr) (v : Data) (o : Option Data) → o ≡ Some v → SpellsValueExpr e o → maybe_expr_nesting e ≤ n → IsMember n v
value_at n e v o there h w = value_in n e v (subst (SpellsValueExpr e) there h) w

expression_in : (n : ℕ) (t : MaybeTripleExpr) (v : Data) → SpellsExpression t (Some v) → maybe_triple_nesting t ≤ n → IsTripleMember n v
expression_in n no_triple v h w = absurd h
expression_in n (one_triple t) v h w = record { t = t; spelled = h; within = w }

expression_at : (n : ℕ) (t : MaybeTripleExpr) (v : Data) (o : Option Data) → o ≡ Some v → SpellsExpression t o → maybe_triple_nesting t ≤ n → IsTripleMember n v
expression_at n t v o there h w = expression_in n t v (subst (SpellsExpression t) there h) w

-- ---- no fault of an object apart from the expressions inside it

no_join_fault : (labelled : Bool) (type : List ℕ) (spelled : Items → Type 0) (f : Fault) (d : Data) → JoinFault labelled f d → IsJoined labelled type spelled d → ⊥
no_join_fault labelled type spelled f d (JoinFault.unknown_key h) s = known_keys (with_id labelled join_keys) f d h s.object.only
no_join_fault labelled type spelled f d (JoinFault.no_members h) s = let found = s.has_members.found in let wrong = h.wrong in cc

no_negation_fault : (labelled : Bool) (spelled : Data → Type 0) (f : Fault) (d : Data) → NegationFault labelled f d → IsNegated labelled spelled d → ⊥
no_negation_fault labelled spelled f d (NegationFault.unknown_key h) s = known_keys (with_id labelled not_keys) f d h s.object.only
no_negation_fault labelled spelled f d (NegationFault.no_child is none) s = let found = s.has_child.found in cc

no_shape_fault : (labelled closed : Bool) (extra : List (List ℕ)) (spelled : Option Data → Type 0) (f : Fault) (d : Data) → ShapeFault labelled f d → IsShape labelled closed extra spelled d → ⊥
no_shape_fault labelled closed extra spelled f d (ShapeFault.unknown_key h) s = known_keys (with_id labelled shape_keys) f d h s.object.only
no_shape_fault labelled closed extra spelled f d (ShapeFault.bad_closed h) s = let own = s.has_closed in let wrong = h.wrong in cc
no_shape_fault labelled closed extra spelled f d (ShapeFault.bad_extra h) s = let own = s.has_extra in let wrong = h.wrong in cc
no_shape_fault labelled closed extra spelled f d (ShapeFault.not_plain h) s = no_plain_fault f d h s.plain

no_cardinality_fault : (low : ℕ) (high : Bound) (f : Fault) (d : Data) → CardinalityFault f d → IsCardinality low high d → ⊥
no_cardinality_fault low high f d (CardinalityFault.bad_min h) s = let own = s.min in let wrong = h.wrong in cc
no_cardinality_fault low high f d (CardinalityFault.bad_max h) s = let own = s.max in let wrong = h.wrong in cc
no_cardinality_fault low high f d (CardinalityFault.crossed a b is min max lt) s =
    let own_min = s.min in let own_max = s.max in
    let same_low : low ≡ a = cc in let same_high : high ≡ Upto b = cc in
    let ordered : IsOrdered low (Upto b) = subst (IsOrdered low) same_high s.ordered in omega arith

no_group_fault : (type : List ℕ) (spelled : Items → Type 0) (name : Option Label) (low : ℕ) (high : Bound) (f : Fault) (d : Data) → GroupFault f d → IsGroup type spelled name low high d → ⊥
no_group_fault type spelled name low high f d (GroupFault.unknown_key h) s = known_keys group_keys f d h s.object.only
no_group_fault type spelled name low high f d (GroupFault.bad_label h) s = let own = s.has_label in let wrong = h.wrong in cc
no_group_fault type spelled name low high f d (GroupFault.no_members h) s = let found = s.has_members.found in let wrong = h.wrong in cc
no_group_fault type spelled name low high f d (GroupFault.bad_count h) s = no_cardinality_fault low high f d h s.counted
no_group_fault type spelled name low high f d (GroupFault.not_plain h) s = no_plain_fault f d h s.plain

no_arc_fault : (inverse : Bool) (predicate : List ℕ) (spelled : Option Data → Type 0) (name : Option Label) (low : ℕ) (high : Bound) (f : Fault) (d : Data) →
    ArcFault f d → IsArc inverse predicate spelled name low high d → ⊥
no_arc_fault inverse predicate spelled name low high f d (ArcFault.unknown_key h) s = known_keys arc_keys f d h s.object.only
no_arc_fault inverse predicate spelled name low high f d (ArcFault.bad_label h) s = let own = s.has_label in let wrong = h.wrong in cc
no_arc_fault inverse predicate spelled name low high f d (ArcFault.bad_inverse h) s = let own = s.has_inverse in let wrong = h.wrong in cc
no_arc_fault inverse predicate spelled name low high f d (ArcFault.bad_predicate h) s = let own = s.has_predicate in let wrong = h.wrong in cc
no_arc_fault inverse predicate spelled name low high f d (ArcFault.bad_count h) s = no_cardinality_fault low high f d h s.counted
no_arc_fault inverse predicate spelled name low high f d (ArcFault.not_plain h) s = no_plain_fault f d h s.plain

-- what is spelled has a type of its place, or is a text
typed : (labelled : Bool) (e : ShapeExpr) (f : Fault) (d : Data) → HasNoExprType f d → SpellsExpr labelled e d → ⊥
typed labelled (disj es) f d h s = h.no_type Exprs.Or s.object.type
typed labelled (conj es) f d h s = h.no_type Exprs.And s.object.type
typed labelled (neg e) f d h s = h.no_type Exprs.Not s.object.type
typed labelled (node c) f d h s = h.no_type Exprs.Node s.object.type
typed labelled (shape closed extra t) f d h s = h.no_type Exprs.Shape s.object.type
typed labelled (refer l) f d h s = no_text labelled d l s h.object

-- what is spelled is an object, or a text
formed : (key : List ℕ) (labelled : Bool) (e : ShapeExpr) (f : Fault) (d : Data) → IsNoExpr key labelled f d → SpellsExpr labelled e d → ⊥
formed key labelled (disj es) f d h s = of_no_type d (codes "ShapeOr") h.no_object s.object.type
formed key labelled (conj es) f d h s = of_no_type d (codes "ShapeAnd") h.no_object s.object.type
formed key labelled (neg e) f d h s = of_no_type d (codes "ShapeNot") h.no_object s.object.type
formed key labelled (node c) f d h s = of_no_type d (codes "NodeConstraint") h.no_object s.object.type
formed key labelled (shape closed extra t) f d h s = of_no_type d (codes "Shape") h.no_object s.object.type
formed key labelled (refer l) f d h s = let none = h.no_reference in cc

label_word : (d : Data) (l : Label) → label (Some d) ≡ Some l → word (Some d) ≡ None → ⊥
label_word d l e none = let no_label : label (Some d) ≡ None = ap (λ (o : Option (List ℕ)). option_map label_from (option_map chars o)) none in cc

typed_body : (b : TripleBody) (name : Option Label) (low : ℕ) (high : Bound) (f : Fault) (d : Data)
    → HasNoTripleType f d → SpellsBody b name low high d → ⊥
typed_body (each ts) name low high f d h s = h.no_type Triples.Each s.object.type
typed_body (one ts) name low high f d h s = h.no_type Triples.One s.object.type
typed_body (arc inverse p e) name low high f d h s = h.no_type Triples.Arc s.object.type
typed_body (include l) name low high f d h s = no_text false d l s.has_target h.object

formed_body : (key : List ℕ) (b : TripleBody) (name : Option Label) (low : ℕ) (high : Bound) (f : Fault) (d : Data)
    → IsNoTriple key f d → SpellsBody b name low high d → ⊥
formed_body key (each ts) name low high f d h s = of_no_type d (codes "EachOf") h.no_object s.object.type
formed_body key (one ts) name low high f d h s = of_no_type d (codes "OneOf") h.no_object s.object.type
formed_body key (arc inverse p e) name low high f d h s = of_no_type d (codes "TripleConstraint") h.no_object s.object.type
formed_body key (include l) name low high f d h s = label_word d l s.has_target h.no_inclusion

not_deep : (labelled : Bool) (e : ShapeExpr) (d : Data) (own : List ℕ) → type_of d ≡ Some own → SpellsExpr labelled e d → nesting e ≤ 0 → ⊥
not_deep labelled (disj es) d own t s w = omega arith
not_deep labelled (conj es) d own t s w = omega arith
not_deep labelled (neg e) d own t s w = omega arith
not_deep labelled (node c) d own t s w = omega arith
not_deep labelled (shape closed extra x) d own t s w = omega arith
not_deep labelled (refer l) d own t s w = let none = reference_type labelled d l s in cc

not_deep_body : (b : TripleBody) (name : Option Label) (low : ℕ) (high : Bound) (d : Data) (own : List ℕ) → type_of d ≡ Some own → SpellsBody b name low high d → body_nesting b ≤ 0 → ⊥
not_deep_body (each ts) name low high d own t s w = omega arith
not_deep_body (one ts) name low high d own t s w = omega arith
not_deep_body (arc inverse p e) name low high d own t s w = omega arith
not_deep_body (include l) name low high d own t s w = let none = text_type d l s.has_target in cc

-- ---- no fault of an object or of an expression inside it

mutual
  pub no_expr_fault : (f : Fault) {key : List ℕ} {labelled : Bool} {n : ℕ} {d : Data}
      → ExprFault f key labelled n d → (e : ShapeExpr) → SpellsExpr labelled e d → nesting e ≤ n → ⊥
  no_expr_fault f {key} {labelled} {n} {d} (faults.no_expr h) e s w = formed key labelled e f d h s
  no_expr_fault f {key} {labelled} {n} {d} (faults.expr_object h) e s w = no_object_fault f h e s w

  no_object_fault : (f : Fault) {labelled : Bool} {n : ℕ} {d : Data}
      → ExprObjectFault f labelled n d → (e : ShapeExpr) → SpellsExpr labelled e d → nesting e ≤ n → ⊥
  no_object_fault f {labelled} {n} {d} (faults.no_expr_type h) e s w = typed labelled e f d h s
  no_object_fault f {labelled} {n} {d} (faults.outside is t) e s w = other_type (tree_type e) (Some (codes "ShapeExternal")) (type_of d) (not_external e) (has_type labelled e d s) t
  no_object_fault f {labelled} {n} {d} (faults.too_deep kind is end t) e s w = not_deep labelled e d _ t s (omega arith)
  no_object_fault f {labelled} {n} {d} (faults.bad_join t h) e s w =
      let own = joined_at labelled e d t s in no_join_fault labelled own.type (SpellsExprs own.es) f d h own.join
  no_object_fault f {labelled} {n} {d} (faults.in_join m v up t i inner) e s w =
      let own = joined_at labelled e d t s in
      let deeper = own.deeper in
      let member = member_at m (codes "shapeExprs") own.es v d i own.join.has_members (omega arith) in
      no_expr_fault f inner member.expr member.spelled member.within
  no_object_fault f {labelled} {n} {d} (faults.bad_negation t h) e s w =
      let own = negated_at labelled e d t s in no_negation_fault labelled (SpellsExpr false own.inner) f d h own.negation
  no_object_fault f {labelled} {n} {d} (faults.in_negation m v up t there inner) e s w =
      let own = negated_at labelled e d t s in
      let deeper = own.deeper in
      let member = child_at m (codes "shapeExpr") own.inner v d there own.negation.has_child (omega arith) in
      no_expr_fault f inner member.expr member.spelled member.within
  no_object_fault f {labelled} {n} {d} (faults.bad_constraint t h) e s w =
      let own = node_at labelled e d t s in no_constraint_fault (with_id labelled constraint_keys) own.constraint f d h own.spelled
  no_object_fault f {labelled} {n} {d} (faults.bad_shape t h) e s w =
      let own = shape_at labelled e d t s in no_shape_fault labelled own.closed own.extra (SpellsExpression own.t) f d h own.spelled
  no_object_fault f {labelled} {n} {d} (faults.in_shape m v up t there inner) e s w =
      let own = shape_at labelled e d t s in
      let deeper = own.deeper in
      let member = expression_at m own.t v (get (codes "expression") d) there own.spelled.has_expression (omega arith) in
      no_triple_fault f inner member.t member.spelled member.within

  pub no_triple_fault : (f : Fault) {key : List ℕ} {n : ℕ} {d : Data}
      → TripleFault f key n d → (t : TripleExpr) → SpellsTripleExpr t d → triple_nesting t ≤ n → ⊥
  no_triple_fault f {key} {n} {d} (faults.no_triple h) (triple name low high b) s w = formed_body key b name low high f d h s
  no_triple_fault f {key} {n} {d} (faults.triple_object h) t s w = no_triple_object_fault f h t s w

  no_triple_object_fault : (f : Fault) {n : ℕ} {d : Data}
      → TripleObjectFault f n d → (t : TripleExpr) → SpellsTripleExpr t d → triple_nesting t ≤ n → ⊥
  no_triple_object_fault f {n} {d} (faults.no_triple_type h) (triple name low high b) s w = typed_body b name low high f d h s
  no_triple_object_fault f {n} {d} (faults.triple_too_deep kind is end t) (triple name low high b) s w = not_deep_body b name low high d _ t s (omega arith)
  no_triple_object_fault f {n} {d} (faults.bad_group t h) (triple name low high b) s w =
      let own = grouped_at b name low high d t s in no_group_fault own.type (SpellsTripleExprs own.ts) name low high f d h own.group
  no_triple_object_fault f {n} {d} (faults.in_group m v up t i inner) (triple name low high b) s w =
      let own = grouped_at b name low high d t s in
      let deeper = own.deeper in
      let member = triple_at m (codes "expressions") own.ts v d i own.group.has_members (omega arith) in
      no_triple_fault f inner member.t member.spelled member.within
  no_triple_object_fault f {n} {d} (faults.bad_arc t h) (triple name low high b) s w =
      let own = arc_at b name low high d t s in no_arc_fault own.inverse own.predicate (SpellsValueExpr own.e) name low high f d h own.spelled
  no_triple_object_fault f {n} {d} (faults.in_arc m v up t there inner) (triple name low high b) s w =
      let own = arc_at b name low high d t s in
      let deeper = own.deeper in
      let member = value_at m own.e v (get (codes "valueExpr") d) there own.spelled.has_value (omega arith) in
      no_expr_fault f inner member.expr member.spelled member.within
