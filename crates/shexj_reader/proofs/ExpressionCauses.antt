-- How the fault of a part is the fault of an expression.
use Rattle.std.proofs.Common.{◌≡◌, ◌≢◌, ◌+◌, ◌-◌, ◌<◌, ℕ, suc, Bool, false, true, List, arith, get_or, length, subst, sym}
use Rattle.std.specs.Prelude.{Err, IfErr, IsErrAnd, IsOkAnd, MatchResult, None, Result, Some, codes}
use Rattle.serde_json.specs.Data.{Data}
use Rattle.serde_json.specs.Find.{as_str, get}
use Rattle.serde_json.specs.View.{items_view, view}
use Rattle.serde_json.specs.declared.value.Value.{Value}
use Rattle.schema_documents.specs.declared.error.SchemaError.{SchemaError}
use Rattle.shexj_reader.specs.ExpressionFaults.{ArcFault, ExprFault, ExprObjectFault, GroupFault, IsItem, JoinFault, NegationFault, ShapeFault, TripleFault, TripleObjectFault}
use Rattle.shexj_reader.specs.ExpressionFaults as faults
use Rattle.shexj_reader.specs.Faults.{Because, Fault, PlainFault, form}
use Rattle.shexj_reader.specs.Keys.{is_object, members, type_of}
use Rattle.shexj_reader.specs.Labels.{reference}
use Rattle.shexj_reader.specs.Types.{IsGroupType, IsJoin, expr_type, triple_type}
use Rattle.shexj_reader.specs.declared.kinds.ExprKind.{ExprKind}
use Rattle.shexj_reader.specs.declared.kinds.TripleKind.{TripleKind}
use Rattle.shexj_reader.proofs.Causes.{handed, made, passed}
use Rattle.shexj_reader.proofs.ValueParts.{item_at}

one_up : (n : ℕ) → n + 1 ≡ suc n
one_up n = omega arith

back_up : (n : ℕ) → n ≢ 0 → (n - 1) + 1 ≡ n
back_up n h = omega arith

-- ---- a fault of the object itself, passed on by a `?`

pub join_passed : {T : Type 0} (P : Fault → Type 0) (labelled : Bool) (n : ℕ) (d : Data) (r : Result T SchemaError) (e : SchemaError) →
    IsErrAnd r (λ x. x ≡ e) → IsJoin d → ((f : Fault) → P f → JoinFault labelled f d) → Because P e → IfErr r (Because (λ f. ExprObjectFault f labelled n d))
join_passed P labelled n d r e same t w h = passed P (λ f. ExprObjectFault f labelled n d) r e same (λ f k. faults.bad_join t (w f k)) h

pub negation_passed : {T : Type 0} (P : Fault → Type 0) (labelled : Bool) (n : ℕ) (d : Data) (r : Result T SchemaError) (e : SchemaError) →
    IsErrAnd r (λ x. x ≡ e) → type_of d ≡ Some (codes "ShapeNot") → ((f : Fault) → P f → NegationFault labelled f d) → Because P e → IfErr r (Because (λ f. ExprObjectFault f labelled n d))
negation_passed P labelled n d r e same t w h = passed P (λ f. ExprObjectFault f labelled n d) r e same (λ f k. faults.bad_negation t (w f k)) h

pub shape_passed : {T : Type 0} (P : Fault → Type 0) (labelled : Bool) (n : ℕ) (d : Data) (r : Result T SchemaError) (e : SchemaError) →
    IsErrAnd r (λ x. x ≡ e) → type_of d ≡ Some (codes "Shape") → ((f : Fault) → P f → ShapeFault labelled f d) → Because P e → IfErr r (Because (λ f. ExprObjectFault f labelled n d))
shape_passed P labelled n d r e same t w h = passed P (λ f. ExprObjectFault f labelled n d) r e same (λ f k. faults.bad_shape t (w f k)) h

pub group_passed : {T : Type 0} (P : Fault → Type 0) (n : ℕ) (d : Data) (r : Result T SchemaError) (e : SchemaError) → IsErrAnd r (λ x. x ≡ e) → IsGroupType d →
    ((f : Fault) → P f → GroupFault f d) → Because P e → IfErr r (Because (λ f. TripleObjectFault f n d))
group_passed P n d r e same t w h = passed P (λ f. TripleObjectFault f n d) r e same (λ f k. faults.bad_group t (w f k)) h

pub arc_passed : {T : Type 0} (P : Fault → Type 0) (n : ℕ) (d : Data) (r : Result T SchemaError) (e : SchemaError) → IsErrAnd r (λ x. x ≡ e) →
    type_of d ≡ Some (codes "TripleConstraint") → ((f : Fault) → P f → ArcFault f d) → Because P e → IfErr r (Because (λ f. TripleObjectFault f n d))
arc_passed P n d r e same t w h = passed P (λ f. TripleObjectFault f n d) r e same (λ f k. faults.bad_arc t (w f k)) h

-- ---- a fault of the object itself, at the last step

pub shape_made : {T U : Type 0} (labelled : Bool) (n : ℕ) (d : Data) (made_of : T → U → Type 0) (r : Result T SchemaError) (s : Result U SchemaError) →
    MatchResult r (λ x. IsOkAnd s (made_of x)) (λ e. s ≡ Err e) → type_of d ≡ Some (codes "Shape") → IfErr r (Because (λ f. PlainFault f d)) → IfErr s (Because (λ f. ExprObjectFault f labelled n d))
shape_made labelled n d made_of r s m t h =
    made (λ f. PlainFault f d) (λ f. ExprObjectFault f labelled n d) made_of r s m (λ f k. faults.bad_shape t (ShapeFault.not_plain k)) h

pub group_made : {T U : Type 0} (n : ℕ) (d : Data) (made_of : T → U → Type 0) (r : Result T SchemaError) (s : Result U SchemaError) →
    MatchResult r (λ x. IsOkAnd s (made_of x)) (λ e. s ≡ Err e) → IsGroupType d → IfErr r (Because (λ f. PlainFault f d)) → IfErr s (Because (λ f. TripleObjectFault f n d))
group_made n d made_of r s m t h =
    made (λ f. PlainFault f d) (λ f. TripleObjectFault f n d) made_of r s m (λ f k. faults.bad_group t (GroupFault.not_plain k)) h

pub arc_made : {T U : Type 0} (n : ℕ) (d : Data) (made_of : T → U → Type 0) (r : Result T SchemaError) (s : Result U SchemaError) →
    MatchResult r (λ x. IsOkAnd s (made_of x)) (λ e. s ≡ Err e) → type_of d ≡ Some (codes "TripleConstraint") → IfErr r (Because (λ f. PlainFault f d)) →
    IfErr s (Because (λ f. TripleObjectFault f n d))
arc_made n d made_of r s m t h =
    made (λ f. PlainFault f d) (λ f. TripleObjectFault f n d) made_of r s m (λ f k. faults.bad_arc t (ArcFault.not_plain k)) h

-- ---- a fault of an expression inside it, passed on by a `?`

item_of : (key : List ℕ) (d : Data) (vs : List Value) (i : ℕ) (v : Value) → members (get key d) ≡ Some (items_view vs) → i < length vs → v ≡ get_or vs i v → IsItem key (view v) d
item_of key d vs i v found lt is = record { items = items_view vs; listed = found; place = i; there = item_at vs i v lt is }

pub member_passed : {T : Type 0} (labelled : Bool) (n : ℕ) (d : Data) (vs : List Value) (i : ℕ) (v : Value) (r : Result T SchemaError) (e : SchemaError) →
    IsErrAnd r (λ x. x ≡ e) → IsJoin d → members (get (codes "shapeExprs") d) ≡ Some (items_view vs) → i < length vs → v ≡ get_or vs i v →
    Because (λ f. ExprFault f (codes "shapeExprs") false n (view v)) e → IfErr r (Because (λ f. ExprObjectFault f labelled (n + 1) d))
member_passed labelled n d vs i v r e same t found lt is h =
    passed (λ f. ExprFault f (codes "shapeExprs") false n (view v))
    (λ f. ExprObjectFault f labelled (n + 1) d) r e same (λ f k. faults.in_join n (view v) (one_up n) t (item_of (codes "shapeExprs") d vs i v found lt is) k) h

pub negated_passed : {T : Type 0} (labelled : Bool) (n : ℕ) (d v : Data) (r : Result T SchemaError) (e : SchemaError) → IsErrAnd r (λ x. x ≡ e) →
    type_of d ≡ Some (codes "ShapeNot") → get (codes "shapeExpr") d ≡ Some v → Because (λ f. ExprFault f (codes "shapeExpr") false n v) e →
    IfErr r (Because (λ f. ExprObjectFault f labelled (n + 1) d))
negated_passed labelled n d v r e same t there h =
    passed (λ f. ExprFault f (codes "shapeExpr") false n v) (λ f. ExprObjectFault f labelled (n + 1) d) r e same (λ f k. faults.in_negation n v (one_up n) t there k) h

pub expression_passed : {T : Type 0} (labelled : Bool) (n : ℕ) (d v : Data) (r : Result T SchemaError) (e : SchemaError) → IsErrAnd r (λ x. x ≡ e) →
    type_of d ≡ Some (codes "Shape") → get (codes "expression") d ≡ Some v → Because (λ f. TripleFault f (codes "expression") n v) e → IfErr r (Because (λ f. ExprObjectFault f labelled (n + 1) d))
expression_passed labelled n d v r e same t there h =
    passed (λ f. TripleFault f (codes "expression") n v) (λ f. ExprObjectFault f labelled (n + 1) d) r e same (λ f k. faults.in_shape n v (one_up n) t there k) h

pub triple_passed : {T : Type 0} (n : ℕ) (d : Data) (vs : List Value) (i : ℕ) (v : Value) (r : Result T SchemaError) (e : SchemaError) →
    IsErrAnd r (λ x. x ≡ e) → IsGroupType d → members (get (codes "expressions") d) ≡ Some (items_view vs) → i < length vs → v ≡ get_or vs i v →
    Because (λ f. TripleFault f (codes "expressions") n (view v)) e → IfErr r (Because (λ f. TripleObjectFault f (n + 1) d))
triple_passed n d vs i v r e same t found lt is h =
    passed (λ f. TripleFault f (codes "expressions") n (view v))
    (λ f. TripleObjectFault f (n + 1) d) r e same (λ f k. faults.in_group n (view v) (one_up n) t (item_of (codes "expressions") d vs i v found lt is) k) h

pub value_passed : {T : Type 0} (n : ℕ) (d v : Data) (r : Result T SchemaError) (e : SchemaError) → IsErrAnd r (λ x. x ≡ e) →
    type_of d ≡ Some (codes "TripleConstraint") → get (codes "valueExpr") d ≡ Some v → Because (λ f. ExprFault f (codes "valueExpr") false n v) e →
    IfErr r (Because (λ f. TripleObjectFault f (n + 1) d))
value_passed n d v r e same t there h =
    passed (λ f. ExprFault f (codes "valueExpr") false n v) (λ f. TripleObjectFault f (n + 1) d) r e same (λ f k. faults.in_arc n v (one_up n) t there k) h

-- ---- what a reader of one type hands to the reader of all

pub expr_handed : {T : Type 0} (labelled : Bool) (n : ℕ) (d : Data) (r : Result T SchemaError) → n ≢ 0 →
    IfErr r (Because (λ f. ExprObjectFault f labelled ((n - 1) + 1) d)) → IfErr r (Because (λ f. ExprObjectFault f labelled n d))
expr_handed labelled n d r up h = subst (λ (k : ℕ). IfErr r (Because (λ f. ExprObjectFault f labelled k d))) (back_up n up) h

pub expr_made : {T U : Type 0} (labelled : Bool) (n : ℕ) (d : Data) (made_of : T → U → Type 0) (r : Result T SchemaError) (s : Result U SchemaError) →
    MatchResult r (λ x. IsOkAnd s (made_of x)) (λ e. s ≡ Err e) → n ≢ 0 → IfErr r (Because (λ f. ExprObjectFault f labelled ((n - 1) + 1) d)) → IfErr s (Because (λ f. ExprObjectFault f labelled n d))
expr_made labelled n d made_of r s m up h =
    made (λ f. ExprObjectFault f labelled ((n - 1) + 1) d) (λ f. ExprObjectFault f labelled n d) made_of r s m (λ f k. subst (λ (j : ℕ). ExprObjectFault f labelled j d) (back_up n up) k) h

pub triple_handed : {T : Type 0} (n : ℕ) (d : Data) (r : Result T SchemaError) → n ≢ 0 → IfErr r (Because (λ f. TripleObjectFault f ((n - 1) + 1) d)) → IfErr r (Because (λ f. TripleObjectFault f n d))
triple_handed n d r up h = subst (λ (k : ℕ). IfErr r (Because (λ f. TripleObjectFault f k d))) (back_up n up) h

pub triple_made : {T U : Type 0} (n : ℕ) (d : Data) (made_of : T → U → Type 0) (r : Result T SchemaError) (s : Result U SchemaError) →
    MatchResult r (λ x. IsOkAnd s (made_of x)) (λ e. s ≡ Err e) → n ≢ 0 → IfErr r (Because (λ f. TripleObjectFault f ((n - 1) + 1) d)) → IfErr s (Because (λ f. TripleObjectFault f n d))
triple_made n d made_of r s m up h =
    made (λ f. TripleObjectFault f ((n - 1) + 1) d) (λ f. TripleObjectFault f n d) made_of r s m (λ f k. subst (λ (j : ℕ). TripleObjectFault f j d) (back_up n up) k) h

-- ---- what is neither an object nor a text, and what an object hands to the key under which it stands

pub formless : (key : List ℕ) (labelled : Bool) (n : ℕ) (f : Fault) (d : Data)
    → f ≡ form key → None ≡ reference labelled d → is_object d ≡ false → ExprFault f key labelled n d
formless key labelled n f d is none no_object = faults.no_expr (record { is = is; no_reference = sym none; no_object = no_object })

pub formless_triple : (key : List ℕ) (n : ℕ) (f : Fault) (d : Data)
    → f ≡ form key → None ≡ as_str d → is_object d ≡ false → TripleFault f key n d
formless_triple key n f d is none no_object = faults.no_triple (record { is = is; no_inclusion = sym none; no_object = no_object })

pub placed : {T : Type 0} (key : List ℕ) (labelled : Bool) (n : ℕ) (d : Data) (r : Result T SchemaError)
    → IfErr r (Because (λ f. ExprObjectFault f labelled n d)) → IfErr r (Because (λ f. ExprFault f key labelled n d))
placed key labelled n d r h = handed (λ f. ExprObjectFault f labelled n d) (λ f. ExprFault f key labelled n d) r (λ f k. faults.expr_object k) h

pub placed_triple : {T : Type 0} (key : List ℕ) (n : ℕ) (d : Data) (r : Result T SchemaError)
    → IfErr r (Because (λ f. TripleObjectFault f n d)) → IfErr r (Because (λ f. TripleFault f key n d))
placed_triple key n d r h = handed (λ f. TripleObjectFault f n d) (λ f. TripleFault f key n d) r (λ f k. faults.triple_object k) h

-- ---- no type that belongs there

pub untyped : (labelled : Bool) (n : ℕ) (f : Fault) (d : Data)
    → f ≡ form (codes "type") → is_object d ≡ true → ((kind : ExprKind) → type_of d ≢ Some (expr_type kind)) → type_of d ≢ Some (codes "ShapeExternal")
    → ExprObjectFault f labelled n d
untyped labelled n f d is object other inside = faults.no_expr_type (record { is = is; object = object; no_type = other; no_external = inside })

pub untyped_triple : (n : ℕ) (f : Fault) (d : Data)
    → f ≡ form (codes "type") → is_object d ≡ true → ((kind : TripleKind) → type_of d ≢ Some (triple_type kind)) → TripleObjectFault f n d
untyped_triple n f d is object other = faults.no_triple_type (record { is = is; object = object; no_type = other })
