-- Shape expressions and triple expressions are read back from what is written of them.
use Rattle.std.proofs.Common.{◌≡◌, ◌≢◌, ◌∙◌, ap, refl, sym, subst, ℕ, ◌<◌, ◌^◌, Bool, true, false, List, ◌∷◌}
use Rattle.std.specs.Prelude.{Option, Some, None, codes, option_map, is_some, ⊤}
use Rattle.serde_json.specs.Data.{Data, array, string, Items}
use Rattle.serde_json.specs.Find.{get}
use Rattle.node_constraint.specs.Constraint.{Constraint}
use Rattle.node_constraint.specs.declared.Kind4.{Kind4}
use Rattle.tally.specs.Span.{IsOrdered}
use Rattle.tally.specs.declared.Bound.{Bound}
use Rattle.schema_documents.specs.declared.label.Label.{Label}
use Rattle.schema_documents.specs.Tree.{MaybeShapeExpr, MaybeTripleExpr, ShapeExpr, ShapeExprs, TripleBody, TripleExpr, TripleExprs, arc, conj, disj, each, include, more_exprs, more_triples, neg, no_expr, no_exprs, no_triple, no_triples, node, one, one_expr, one_triple, refer, shape, triple}
use Rattle.shexj_reader.specs.Constraints.{IsConstraint, IsKindWord, constraint_keys, kind_word}
use Rattle.shexj_reader.specs.Expressions.{IsArc, IsGroup, IsJoined, IsNegated, IsShape, SpellsBody, SpellsExpr, SpellsExpression, SpellsExprs, SpellsTripleExpr, SpellsTripleExprs, SpellsValueExpr}
use Rattle.shexj_reader.specs.Keys.{IsPlain, flag, has_only, is_empty_list, is_list, members, some_items, text, text_if_any, texts, with_id, word}
use Rattle.shexj_reader.specs.Labels.{label_if_any}
use Rattle.shexj_reader.specs.Types.{arc_keys, group_keys, join_keys, not_keys, shape_keys}
use Rattle.shexj_reader.specs.Values.{SpellsValueSet}
use Rattle.shexj_writer.specs.Constraints.{constraint_data, constraint_fields}
use Rattle.shexj_writer.specs.Expressible.{AreExpressible, AreExpressibleTriples, IsExpressible, IsExpressibleBody, IsExpressibleConstraint, IsExpressibleExpression, IsExpressibleTriple, IsExpressibleValueExpr}
use Rattle.shexj_writer.specs.Expressible as Expressible
use Rattle.shexj_writer.specs.Expressions.{arc_data, arc_fields, body_data, expr_data, expression_data, exprs_items, group_data, group_fields, join_data, join_fields, not_data, not_fields, shape_data, shape_fields, triple_data, triples_items, value_expr_data}
use Rattle.shexj_writer.specs.Held as Held
use Rattle.shexj_writer.specs.Plain.{plain_body, plain_constraint, plain_expr, plain_expression, plain_exprs, plain_triple, plain_triples, plain_value}
use Rattle.shexj_writer.specs.Texts.{flag_data, label_data, max_data, min_data, text_data, texts_data, texts_items}
use Rattle.shexj_writer.specs.Values.{value_set_data}
use Rattle.shexj_writer.specs.Whole.{are_whole_exprs, are_whole_triples, is_whole_body, is_whole_constraint, is_whole_expr, is_whole_expression, is_whole_triple, is_whole_value}
use Rattle.shexj_writer.proofs.FacetsBack.{facets_back}
use Rattle.shexj_writer.proofs.Fields.{both, field_is, only_listed}
use Rattle.shexj_writer.proofs.Sound.{plain_sound}
use Rattle.shexj_writer.proofs.TextsBack.{counted_back, flag_back, label_back, label_if_any_back, text_back, text_if_any_back, texts_back}
use Rattle.shexj_writer.proofs.ValuesBack.{value_set_back}

-- ---- node constraints

constraint_only : (id : Option Data) (c : Constraint) → has_only (with_id (is_some id) constraint_keys) (constraint_data id c) ≡ true
unfolding constraint_data
constraint_only None c = only_listed constraint_keys (constraint_fields None c) refl
constraint_only (Some d) c = only_listed (codes "id" ∷ constraint_keys) (constraint_fields (Some d) c) refl

record HasParts (id : Option Data) (c : Constraint) : Type 0 where
  has_type : get (codes "type") (constraint_data id c) ≡ Some (string (codes "NodeConstraint"))
  has_kind : get (codes "nodeKind") (constraint_data id c) ≡ option_map (λ kind. string (kind_word kind)) c.kind
  has_datatype : get (codes "datatype") (constraint_data id c) ≡ option_map text_data c.datatype
  has_values : get (codes "values") (constraint_data id c) ≡ option_map value_set_data c.values
  no_acts : get (codes "semActs") (constraint_data id c) ≡ None
  no_notes : get (codes "annotations") (constraint_data id c) ≡ None

has_parts : (id : Option Data) (c : Constraint) → HasParts id c
unfolding constraint_data
has_parts id c = record {
  has_type = field_is (codes "type") (constraint_fields id c) refl;
  has_kind = field_is (codes "nodeKind") (constraint_fields id c) refl;
  has_datatype = field_is (codes "datatype") (constraint_fields id c) refl;
  has_values = field_is (codes "values") (constraint_fields id c) refl;
  no_acts = field_is (codes "semActs") (constraint_fields id c) refl;
  no_notes = field_is (codes "annotations") (constraint_fields id c) refl;
}

kind_back : (kind : Option Kind4) (o : Option Data) → o ≡ option_map (λ k. string (kind_word k)) kind → IsKindWord kind o
kind_back None o e = e
kind_back (Some kind) o e = ap word e

plain_back : (d : Data) → get (codes "semActs") d ≡ None → get (codes "annotations") d ≡ None → IsPlain d
plain_back d no_acts no_notes = record { acts = ap is_empty_list no_acts; notes = ap is_list no_notes }

constraint_back : (id : Option Data) (c : Constraint) → Held.IsHeldConstraint c → IsExpressibleConstraint c → is_whole_constraint c ≡ true →
    IsConstraint (with_id (is_some id) constraint_keys) (plain_constraint c) (constraint_data id c)
constraint_back id c held is whole =
    let parts = has_parts id c in
    record {
      object = record { only = constraint_only id c; type = ap word parts.has_type };
      kind = kind_back c.kind _ parts.has_kind;
      datatype = ap text_if_any parts.has_datatype ∙ text_if_any_back c.datatype held.datatype;
      facets = facets_back id c held is.once whole;
      values = subst (SpellsValueSet c.values) (sym parts.has_values) (value_set_back c.values held.values is.values);
      plain = plain_back (constraint_data id c) parts.no_acts parts.no_notes;
      sound = plain_sound c.datatype c.facets is.sound;
    }

-- ---- objects around expressions

join_only : (id : Option Data) (type : List ℕ) (ds : Items) → has_only (with_id (is_some id) join_keys) (join_data id type ds) ≡ true
join_only None type ds = only_listed join_keys (join_fields None type ds) refl
join_only (Some d) type ds = only_listed (codes "id" ∷ join_keys) (join_fields (Some d) type ds) refl

join_back : (id : Option Data) (type : List ℕ) (ds : Items) (spelled : Items → Type 0) → some_items ds ≡ Some ds → spelled ds → IsJoined (is_some id) type spelled (join_data id type ds)
join_back id type ds spelled some all =
    let fs = join_fields id type ds in
    let has_type : get (codes "type") (join_data id type ds) ≡ Some (string type) = field_is (codes "type") fs refl in
    let has_list : get (codes "shapeExprs") (join_data id type ds) ≡ Some (array ds) = field_is (codes "shapeExprs") fs refl in
    record {
      object = record { only = join_only id type ds; type = ap word has_type };
      has_members = record { items = ds; found = ap members has_list ∙ some; all = all };
    }

not_only : (id : Option Data) (d : Data) → has_only (with_id (is_some id) not_keys) (not_data id d) ≡ true
not_only None d = only_listed not_keys (not_fields None d) refl
not_only (Some i) d = only_listed (codes "id" ∷ not_keys) (not_fields (Some i) d) refl

not_back : (id : Option Data) (d : Data) (spelled : Data → Type 0) → spelled d → IsNegated (is_some id) spelled (not_data id d)
not_back id d spelled own =
    let fs = not_fields id d in
    let has_type : get (codes "type") (not_data id d) ≡ Some (string (codes "ShapeNot")) = field_is (codes "type") fs refl in
    record {
      object = record { only = not_only id d; type = ap word has_type };
      has_child = record { child = d; found = field_is (codes "shapeExpr") fs refl; one = own };
    }

shape_only : (id : Option Data) (closed : Bool) (extra : Items) (o : Option Data) → has_only (with_id (is_some id) shape_keys) (shape_data id closed extra o) ≡ true
shape_only None closed extra o = only_listed shape_keys (shape_fields None closed extra o) refl
shape_only (Some d) closed extra o = only_listed (codes "id" ∷ shape_keys) (shape_fields (Some d) closed extra o) refl

shape_back : (id : Option Data) (closed : Bool) (extra : List (List ℕ)) (o : Option Data) (spelled : Option Data → Type 0) → Held.AreTexts extra → spelled o →
    IsShape (is_some id) closed extra spelled (shape_data id closed (texts_items extra) o)
shape_back id closed extra o spelled held own =
    let fs = shape_fields id closed (texts_items extra) o in
    let d = shape_data id closed (texts_items extra) o in
    let has_type : get (codes "type") d ≡ Some (string (codes "Shape")) = field_is (codes "type") fs refl in
    let has_closed : get (codes "closed") d ≡ flag_data closed = field_is (codes "closed") fs refl in
    let has_extra : get (codes "extra") d ≡ texts_data extra = field_is (codes "extra") fs refl in
    let has_inner : get (codes "expression") d ≡ o = field_is (codes "expression") fs refl in
    record {
      object = record { only = shape_only id closed (texts_items extra) o; type = ap word has_type };
      has_closed = ap flag has_closed ∙ flag_back closed;
      has_extra = ap texts has_extra ∙ texts_back extra held;
      has_expression = subst spelled (sym has_inner) own;
      plain = plain_back d (field_is (codes "semActs") fs refl) (field_is (codes "annotations") fs refl);
    }

-- what is known of a label and a cardinality
record HasCount (name : Option Label) (low : ℕ) (high : Bound) : Type 0 where
  expressible : Expressible.IsLabelIfAny name
  held : Held.IsLabelIfAny name
  ordered : IsOrdered low high
  few : low < 2 ^ 32
  bounded : Held.IsBound high

group_back : (type : List ℕ) (ds : Items) (spelled : Items → Type 0) (name : Option Label) (low : ℕ) (high : Bound) → some_items ds ≡ Some ds → spelled ds →
    HasCount name low high → IsGroup type spelled name low high (group_data type ds name low high)
group_back type ds spelled name low high some all count =
    let fs = group_fields type ds name low high in
    let d = group_data type ds name low high in
    let has_type : get (codes "type") d ≡ Some (string type) = field_is (codes "type") fs refl in
    let has_list : get (codes "expressions") d ≡ Some (array ds) = field_is (codes "expressions") fs refl in
    let has_label : get (codes "id") d ≡ option_map label_data name = field_is (codes "id") fs refl in
    let has_min : get (codes "min") d ≡ min_data low high = field_is (codes "min") fs refl in
    let has_max : get (codes "max") d ≡ max_data low high = field_is (codes "max") fs refl in
    record {
      object = record { only = only_listed group_keys fs refl; type = ap word has_type };
      has_label = ap label_if_any has_label ∙ label_if_any_back name count.expressible count.held;
      has_members = record { items = ds; found = ap members has_list ∙ some; all = all };
      counted = counted_back low high d has_min has_max count.ordered count.few count.bounded;
      plain = plain_back d (field_is (codes "semActs") fs refl) (field_is (codes "annotations") fs refl);
    }

arc_back : (inverse : Bool) (predicate : List ℕ) (o : Option Data) (spelled : Option Data → Type 0) (name : Option Label) (low : ℕ) (high : Bound) →
    Held.IsText predicate → spelled o → HasCount name low high → IsArc inverse predicate spelled name low high (arc_data inverse predicate o name low high)
arc_back inverse predicate o spelled name low high held own count =
    let fs = arc_fields inverse predicate o name low high in
    let d = arc_data inverse predicate o name low high in
    let has_type : get (codes "type") d ≡ Some (string (codes "TripleConstraint")) = field_is (codes "type") fs refl in
    let has_label : get (codes "id") d ≡ option_map label_data name = field_is (codes "id") fs refl in
    let has_inverse : get (codes "inverse") d ≡ flag_data inverse = field_is (codes "inverse") fs refl in
    let has_predicate : get (codes "predicate") d ≡ Some (text_data predicate) = field_is (codes "predicate") fs refl in
    let has_value : get (codes "valueExpr") d ≡ o = field_is (codes "valueExpr") fs refl in
    let has_min : get (codes "min") d ≡ min_data low high = field_is (codes "min") fs refl in
    let has_max : get (codes "max") d ≡ max_data low high = field_is (codes "max") fs refl in
    record {
      object = record { only = only_listed arc_keys fs refl; type = ap word has_type };
      has_label = ap label_if_any has_label ∙ label_if_any_back name count.expressible count.held;
      has_inverse = ap flag has_inverse ∙ flag_back inverse;
      has_predicate = ap text has_predicate ∙ text_back predicate held;
      has_value = subst spelled (sym has_value) own;
      counted = counted_back low high d has_min has_max count.ordered count.few count.bounded;
      plain = plain_back d (field_is (codes "semActs") fs refl) (field_is (codes "annotations") fs refl);
    }

-- ---- expressions

some_exprs : (es : ShapeExprs) → es ≢ no_exprs → some_items (exprs_items es) ≡ Some (exprs_items es)
some_exprs no_exprs some = absurd (some refl)
some_exprs (more_exprs e es) some = refl

some_triples : (ts : TripleExprs) → ts ≢ no_triples → some_items (triples_items ts) ≡ Some (triples_items ts)
some_triples no_triples some = absurd (some refl)
some_triples (more_triples t ts) some = refl

-- no label of its own where it is a reference
abbrev pub IsUnlabelled : Option Data → ShapeExpr → Type 0
IsUnlabelled id (refer l) = id ≡ None
IsUnlabelled id e = ⊤

unlabelled : (e : ShapeExpr) → IsUnlabelled None e
unlabelled (conj es) = tt
unlabelled (disj es) = tt
unlabelled (neg e) = tt
unlabelled (node c) = tt
unlabelled (shape closed extra t) = tt
unlabelled (refer l) = refl

mutual
  pub expr_back : (id : Option Data) (e : ShapeExpr) → IsUnlabelled id e → Held.IsHeldExpr e → IsExpressible e → is_whole_expr e ≡ true → SpellsExpr (is_some id) (plain_expr e) (expr_data id e)
  expr_back id (conj es) own held is whole = join_back id (codes "ShapeAnd") (exprs_items es) (SpellsExprs (plain_exprs es)) (some_exprs es is.0) (exprs_back es held is.1 whole)
  expr_back id (disj es) own held is whole = join_back id (codes "ShapeOr") (exprs_items es) (SpellsExprs (plain_exprs es)) (some_exprs es is.0) (exprs_back es held is.1 whole)
  expr_back id (neg e) own held is whole = not_back id (expr_data None e) (SpellsExpr false (plain_expr e)) (expr_back None e (unlabelled e) held is whole)
  expr_back id (node c) own held is whole = constraint_back id c held is whole
  expr_back id (shape closed extra t) own held is whole = shape_back id closed extra (expression_data t) (SpellsExpression (plain_expression t)) held.0 (expression_back t held.1 is whole)
  expr_back None (refer l) own held is whole = label_back l is held
  expr_back (Some d) (refer l) own held is whole = absurd (cc)

  exprs_back : (es : ShapeExprs) → Held.AreHeldExprs es → AreExpressible es → are_whole_exprs es ≡ true → SpellsExprs (plain_exprs es) (exprs_items es)
  exprs_back no_exprs held is whole = tt
  exprs_back (more_exprs e es) held is whole =
      let parts = both (is_whole_expr e) (are_whole_exprs es) whole in
      (expr_back None e (unlabelled e) held.0 is.0 parts.0, exprs_back es held.1 is.1 parts.1)

  pub value_back : (e : MaybeShapeExpr) → Held.IsHeldValueExpr e → IsExpressibleValueExpr e → is_whole_value e ≡ true → SpellsValueExpr (plain_value e) (value_expr_data e)
  value_back no_expr held is whole = tt
  value_back (one_expr e) held is whole = expr_back None e (unlabelled e) held is whole

  triple_back : (t : TripleExpr) → Held.IsHeldTriple t → IsExpressibleTriple t → is_whole_triple t ≡ true → SpellsTripleExpr (plain_triple t) (triple_data t)
  triple_back (triple name low high b) held is whole = body_back b name low high held is.0 is.1.0 is.1.1 whole

  body_back : (b : TripleBody) (name : Option Label) (low : ℕ) (high : Bound) → Held.IsHeldBody b name low high → Expressible.IsLabelIfAny name →
      IsOrdered low high → IsExpressibleBody b name low high → is_whole_body b ≡ true → SpellsBody (plain_body b) name low high (body_data b name low high)
  body_back (each ts) name low high held labelled ordered is whole =
      group_back (codes "EachOf") (triples_items ts) (SpellsTripleExprs (plain_triples ts)) name low high (some_triples ts is.0) (triples_back ts held.1.1.1 is.1 whole)
      (record { expressible = labelled; held = held.0; ordered = ordered; few = held.1.0; bounded = held.1.1.0 })
  body_back (one ts) name low high held labelled ordered is whole =
      group_back (codes "OneOf") (triples_items ts) (SpellsTripleExprs (plain_triples ts)) name low high (some_triples ts is.0) (triples_back ts held.1.1.1 is.1 whole)
      (record { expressible = labelled; held = held.0; ordered = ordered; few = held.1.0; bounded = held.1.1.0 })
  body_back (arc inverse predicate e) name low high held labelled ordered is whole =
      arc_back inverse predicate (value_expr_data e) (SpellsValueExpr (plain_value e)) name low high held.1.1.1.0 (value_back e held.1.1.1.1 is whole)
      (record { expressible = labelled; held = held.0; ordered = ordered; few = held.1.0; bounded = held.1.1.0 })
  body_back (include target) name low high held labelled ordered is whole = record {
    has_target = label_back target is.0 held;
    no_label = is.1.0;
    once = is.1.1.0;
    only_once = is.1.1.1;
  }

  triples_back : (ts : TripleExprs) → Held.AreHeldTriples ts → AreExpressibleTriples ts → are_whole_triples ts ≡ true → SpellsTripleExprs (plain_triples ts) (triples_items ts)
  triples_back no_triples held is whole = tt
  triples_back (more_triples t ts) held is whole =
      let parts = both (is_whole_triple t) (are_whole_triples ts) whole in
      (triple_back t held.0 is.0 parts.0, triples_back ts held.1 is.1 parts.1)

  expression_back : (t : MaybeTripleExpr) → Held.IsHeldExpression t → IsExpressibleExpression t → is_whole_expression t ≡ true → SpellsExpression (plain_expression t) (expression_data t)
  expression_back no_triple held is whole = tt
  expression_back (one_triple t) held is whole = triple_back t held is whole
