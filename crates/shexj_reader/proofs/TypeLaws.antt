-- What stands in a value that is spelled, by the type of the value.
use Rattle.std.proofs.Common.{◌≡◌, ◌∙◌, ℕ, suc, Bool, true, false, List, refl, sym, ap}
use Rattle.std.proofs.lemmas.Slice.Eq.{bytes_eq-Decides}
use Rattle.std.specs.Prelude.{Option, Some, None, codes}
use Rattle.std.specs.Str.{bytes_eq}
use Rattle.serde_json.specs.Data.{Data, null, boolean, number, string, array, object}
use Rattle.tally.specs.declared.Bound.{Bound}
use Rattle.node_constraint.specs.Constraint.{Constraint}
use Rattle.schema_documents.specs.declared.label.Label.{Label}
use Rattle.schema_documents.specs.Tree.{MaybeShapeExpr, MaybeTripleExpr, ShapeExpr, ShapeExprs, TripleBody, TripleExprs, arc, conj, disj, each, include, neg, node, one, refer, shape}
use Rattle.shexj_reader.specs.Constraints.{IsConstraint, constraint_keys}
use Rattle.shexj_reader.specs.Expressions.{IsArc, IsGroup, IsJoined, IsNegated, IsShape, SpellsBody, SpellsExpr, SpellsExpression, SpellsExprs, SpellsTripleExprs, SpellsValueExpr}
use Rattle.shexj_reader.specs.Keys.{is_object, type_of, with_id}
use Rattle.shexj_reader.specs.Labels.{label, reference}
use Rattle.shexj_reader.specs.Nesting.{body_nesting, exprs_nesting, maybe_expr_nesting, maybe_triple_nesting, nesting, triples_nesting}
use Rattle.shexj_reader.specs.Types.{IsGroupType, IsJoin, all_of, each_of, one_of, some_of}

-- ---- types that a test tells apart

abbrev pub same_type : Option (List ℕ) → Option (List ℕ) → Bool
same_type None None = true
same_type (Some a) (Some b) = bytes_eq a b
same_type None (Some b) = false
same_type (Some a) None = false

same_type-refl : (a : Option (List ℕ)) → same_type a a ≡ true
same_type-refl None = refl
same_type-refl (Some a) = (bytes_eq-Decides a a).1 refl

pub other_type : (a b t : Option (List ℕ)) → same_type a b ≡ false → t ≡ a → t ≡ b → ⊥
other_type a b t apart h k =
    let same : a ≡ b = sym h ∙ k in
    let is : same_type a b ≡ true = sym (ap (λ (x : Option (List ℕ)). same_type a x) same) ∙ same_type-refl a in cc

-- ---- the type of a value that is spelled

abbrev pub tree_type : ShapeExpr → Option (List ℕ)
tree_type (disj es) = Some (codes "ShapeOr")
tree_type (conj es) = Some (codes "ShapeAnd")
tree_type (neg e) = Some (codes "ShapeNot")
tree_type (node c) = Some (codes "NodeConstraint")
tree_type (shape closed extra t) = Some (codes "Shape")
tree_type (refer l) = None

-- a text has no type
pub text_type : (d : Data) (l : Label) → label (Some d) ≡ Some l → type_of d ≡ None
text_type null l e = refl
text_type (boolean b) l e = refl
text_type (number n) l e = refl
text_type (string s) l e = refl
text_type (array ds) l e = refl
text_type (object ms) l e = cc

pub reference_type : (labelled : Bool) (d : Data) (l : Label) → reference labelled d ≡ Some l → type_of d ≡ None
reference_type true d l e = cc
reference_type false d l e = text_type d l e

-- a text is no object
no_text_object : (d : Data) (l : Label) → label (Some d) ≡ Some l → is_object d ≡ true → ⊥
no_text_object null l e is = cc
no_text_object (boolean b) l e is = cc
no_text_object (number n) l e is = cc
no_text_object (string s) l e is = cc
no_text_object (array ds) l e is = cc
no_text_object (object ms) l e is = cc

pub no_text : (labelled : Bool) (d : Data) (l : Label) → reference labelled d ≡ Some l → is_object d ≡ true → ⊥
no_text true d l e is = cc
no_text false d l e is = no_text_object d l e is

-- what is no object has no type
pub of_no_type : (d : Data) (name : List ℕ) → is_object d ≡ false → type_of d ≡ Some name → ⊥
of_no_type null name no_object typed = cc
of_no_type (boolean b) name no_object typed = cc
of_no_type (number n) name no_object typed = cc
of_no_type (string s) name no_object typed = cc
of_no_type (array ds) name no_object typed = cc
of_no_type (object ms) name no_object typed = cc

pub has_type : (labelled : Bool) (e : ShapeExpr) (d : Data) → SpellsExpr labelled e d → type_of d ≡ tree_type e
has_type labelled (disj es) d s = s.object.type
has_type labelled (conj es) d s = s.object.type
has_type labelled (neg e) d s = s.object.type
has_type labelled (node c) d s = s.object.type
has_type labelled (shape closed extra t) d s = s.object.type
has_type labelled (refer l) d s = reference_type labelled d l s

abbrev pub body_type : TripleBody → Option (List ℕ)
body_type (each ts) = Some (codes "EachOf")
body_type (one ts) = Some (codes "OneOf")
body_type (arc inverse p e) = Some (codes "TripleConstraint")
body_type (include l) = None

pub has_body_type : (b : TripleBody) (name : Option Label) (low : ℕ) (high : Bound) (d : Data) → SpellsBody b name low high d → type_of d ≡ body_type b
has_body_type (each ts) name low high d s = s.object.type
has_body_type (one ts) name low high d s = s.object.type
has_body_type (arc inverse p e) name low high d s = s.object.type
has_body_type (include l) name low high d s = text_type d l s.has_target

pub not_external : (e : ShapeExpr) → same_type (tree_type e) (Some (codes "ShapeExternal")) ≡ false
not_external (disj es) = refl
not_external (conj es) = refl
not_external (neg e) = refl
not_external (node c) = refl
not_external (shape closed extra t) = refl
not_external (refer l) = refl

-- no spelled expression has this type
pub not_decl : (e : ShapeExpr) → same_type (tree_type e) (Some (codes "ShapeDecl")) ≡ false
not_decl (disj es) = refl
not_decl (conj es) = refl
not_decl (neg e) = refl
not_decl (node c) = refl
not_decl (shape closed extra t) = refl
not_decl (refer l) = refl

not_join : (own : Option (List ℕ)) (d : Data) → same_type own (Some (codes "ShapeOr")) ≡ false → same_type own (Some (codes "ShapeAnd")) ≡ false → type_of d ≡ own → IsJoin d → ⊥
not_join own d no_or no_and typed (some_of t) = other_type own (Some (codes "ShapeOr")) (type_of d) no_or typed t
not_join own d no_or no_and typed (all_of t) = other_type own (Some (codes "ShapeAnd")) (type_of d) no_and typed t

not_group : (own : Option (List ℕ)) (d : Data) → same_type own (Some (codes "EachOf")) ≡ false → same_type own (Some (codes "OneOf")) ≡ false → type_of d ≡ own → IsGroupType d → ⊥
not_group own d no_each no_one typed (each_of t) = other_type own (Some (codes "EachOf")) (type_of d) no_each typed t
not_group own d no_each no_one typed (one_of t) = other_type own (Some (codes "OneOf")) (type_of d) no_one typed t

-- ---- a spelled shape expression, by its type

pub record Joined (labelled : Bool) (e : ShapeExpr) (d : Data) : Type 0 where
  pub type : List ℕ
  pub es : ShapeExprs
  pub join : IsJoined labelled type (SpellsExprs es) d
  pub deeper : nesting e ≡ suc (exprs_nesting es)

pub joined_at : (labelled : Bool) (e : ShapeExpr) (d : Data) → IsJoin d → SpellsExpr labelled e d → Joined labelled e d
joined_at labelled (disj es) d h s = record { type = codes "ShapeOr"; es = es; join = s; deeper = refl }
joined_at labelled (conj es) d h s = record { type = codes "ShapeAnd"; es = es; join = s; deeper = refl }
joined_at labelled (neg e) d h s = absurd (not_join (tree_type (neg e)) d refl refl (has_type labelled (neg e) d s) h)
joined_at labelled (node c) d h s = absurd (not_join (tree_type (node c)) d refl refl (has_type labelled (node c) d s) h)
joined_at labelled (shape closed extra t) d h s = absurd (not_join (tree_type (shape closed extra t)) d refl refl (has_type labelled (shape closed extra t) d s) h)
joined_at labelled (refer l) d h s = absurd (not_join (tree_type (refer l)) d refl refl (has_type labelled (refer l) d s) h)

pub record Negated (labelled : Bool) (e : ShapeExpr) (d : Data) : Type 0 where
  pub inner : ShapeExpr
  pub negation : IsNegated labelled (SpellsExpr false inner) d
  pub deeper : nesting e ≡ suc (nesting inner)

pub negated_at : (labelled : Bool) (e : ShapeExpr) (d : Data) → type_of d ≡ Some (codes "ShapeNot") → SpellsExpr labelled e d → Negated labelled e d
negated_at labelled (neg e) d h s = record { inner = e; negation = s; deeper = refl }
negated_at labelled (disj es) d h s = absurd (other_type (tree_type (disj es)) (Some (codes "ShapeNot")) (type_of d) refl (has_type labelled (disj es) d s) h)
negated_at labelled (conj es) d h s = absurd (other_type (tree_type (conj es)) (Some (codes "ShapeNot")) (type_of d) refl (has_type labelled (conj es) d s) h)
negated_at labelled (node c) d h s = absurd (other_type (tree_type (node c)) (Some (codes "ShapeNot")) (type_of d) refl (has_type labelled (node c) d s) h)
negated_at labelled (shape closed extra t) d h s = absurd (other_type (tree_type (shape closed extra t)) (Some (codes "ShapeNot")) (type_of d) refl (has_type labelled (shape closed extra t) d s) h)
negated_at labelled (refer l) d h s = absurd (other_type (tree_type (refer l)) (Some (codes "ShapeNot")) (type_of d) refl (has_type labelled (refer l) d s) h)

pub record Noded (labelled : Bool) (d : Data) : Type 0 where
  pub constraint : Constraint
  pub spelled : IsConstraint (with_id labelled constraint_keys) constraint d

pub node_at : (labelled : Bool) (e : ShapeExpr) (d : Data) → type_of d ≡ Some (codes "NodeConstraint") → SpellsExpr labelled e d → Noded labelled d
node_at labelled (node c) d h s = record { constraint = c; spelled = s }
node_at labelled (disj es) d h s = absurd (other_type (tree_type (disj es)) (Some (codes "NodeConstraint")) (type_of d) refl (has_type labelled (disj es) d s) h)
node_at labelled (conj es) d h s = absurd (other_type (tree_type (conj es)) (Some (codes "NodeConstraint")) (type_of d) refl (has_type labelled (conj es) d s) h)
node_at labelled (neg e) d h s = absurd (other_type (tree_type (neg e)) (Some (codes "NodeConstraint")) (type_of d) refl (has_type labelled (neg e) d s) h)
node_at labelled (shape closed extra t) d h s = absurd (other_type (tree_type (shape closed extra t)) (Some (codes "NodeConstraint")) (type_of d) refl (has_type labelled (shape closed extra t) d s) h)
node_at labelled (refer l) d h s = absurd (other_type (tree_type (refer l)) (Some (codes "NodeConstraint")) (type_of d) refl (has_type labelled (refer l) d s) h)

pub record Shaped (labelled : Bool) (e : ShapeExpr) (d : Data) : Type 0 where
  pub closed : Bool
  pub extra : List (List ℕ)
  pub t : MaybeTripleExpr
  pub spelled : IsShape labelled closed extra (SpellsExpression t) d
  pub deeper : nesting e ≡ suc (maybe_triple_nesting t)

pub shape_at : (labelled : Bool) (e : ShapeExpr) (d : Data) → type_of d ≡ Some (codes "Shape") → SpellsExpr labelled e d → Shaped labelled e d
shape_at labelled (shape closed extra t) d h s = record { closed = closed; extra = extra; t = t; spelled = s; deeper = refl }
shape_at labelled (disj es) d h s = absurd (other_type (tree_type (disj es)) (Some (codes "Shape")) (type_of d) refl (has_type labelled (disj es) d s) h)
shape_at labelled (conj es) d h s = absurd (other_type (tree_type (conj es)) (Some (codes "Shape")) (type_of d) refl (has_type labelled (conj es) d s) h)
shape_at labelled (neg e) d h s = absurd (other_type (tree_type (neg e)) (Some (codes "Shape")) (type_of d) refl (has_type labelled (neg e) d s) h)
shape_at labelled (node c) d h s = absurd (other_type (tree_type (node c)) (Some (codes "Shape")) (type_of d) refl (has_type labelled (node c) d s) h)
shape_at labelled (refer l) d h s = absurd (other_type (tree_type (refer l)) (Some (codes "Shape")) (type_of d) refl (has_type labelled (refer l) d s) h)

-- ---- a spelled triple expression, by its type

pub record Grouped (b : TripleBody) (name : Option Label) (low : ℕ) (high : Bound) (d : Data) : Type 0 where
  pub type : List ℕ
  pub ts : TripleExprs
  pub group : IsGroup type (SpellsTripleExprs ts) name low high d
  pub deeper : body_nesting b ≡ suc (triples_nesting ts)

pub grouped_at : (b : TripleBody) (name : Option Label) (low : ℕ) (high : Bound) (d : Data) → IsGroupType d → SpellsBody b name low high d → Grouped b name low high d
grouped_at (each ts) name low high d h s = record { type = codes "EachOf"; ts = ts; group = s; deeper = refl }
grouped_at (one ts) name low high d h s = record { type = codes "OneOf"; ts = ts; group = s; deeper = refl }
grouped_at (arc i p e) name low high d h s = absurd (not_group (body_type (arc i p e)) d refl refl (has_body_type (arc i p e) name low high d s) h)
grouped_at (include l) name low high d h s = absurd (not_group (body_type (include l)) d refl refl (has_body_type (include l) name low high d s) h)

pub record Arced (b : TripleBody) (name : Option Label) (low : ℕ) (high : Bound) (d : Data) : Type 0 where
  pub inverse : Bool
  pub predicate : List ℕ
  pub e : MaybeShapeExpr
  pub spelled : IsArc inverse predicate (SpellsValueExpr e) name low high d
  pub deeper : body_nesting b ≡ suc (maybe_expr_nesting e)

pub arc_at : (b : TripleBody) (name : Option Label) (low : ℕ) (high : Bound) (d : Data) → type_of d ≡ Some (codes "TripleConstraint") → SpellsBody b name low high d → Arced b name low high d
arc_at (arc i p e) name low high d h s = record { inverse = i; predicate = p; e = e; spelled = s; deeper = refl }
arc_at (each ts) name low high d h s = absurd (other_type (body_type (each ts)) (Some (codes "TripleConstraint")) (type_of d) refl (has_body_type (each ts) name low high d s) h)
arc_at (one ts) name low high d h s = absurd (other_type (body_type (one ts)) (Some (codes "TripleConstraint")) (type_of d) refl (has_body_type (one ts) name low high d s) h)
arc_at (include l) name low high d h s = absurd (other_type (body_type (include l)) (Some (codes "TripleConstraint")) (type_of d) refl (has_body_type (include l) name low high d s) h)
