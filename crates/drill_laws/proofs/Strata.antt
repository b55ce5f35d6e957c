-- The schema of a drill has no negative edge, and its Shape is narrow.
use Rattle.std.proofs.Common.{◌≡◌, ◌∙◌, ℕ, zero, suc, ◌<◌, List, [], ◌∷◌, Bool, true, false, Some, None, refl, sym, ap, subst, arith, inl, inr}
use Rattle.std.specs.Prelude.{Option, Contains, slice_get, slice_index}
use Rattle.node_constraint.specs.Constraint.{Constraint}
use Rattle.rdf_terms.specs.declared.terms.Term.{Term}
use Rattle.rdf_terms.specs.declared.terms.TermId.{TermId}
use Rattle.rdf_terms.specs.declared.terms.Triple.{Triple}
use Rattle.lists.specs.Distinct.{AreDistinct}
use Rattle.lists.proofs.Members.{in_one, in_rest, not_in_none}
use Rattle.schema_documents.specs.declared.label.Label.{Label}
use Rattle.schema_tree.specs.declared.schema.Expr.{Expr}
use Rattle.schema_tree.specs.declared.schema.Expr.TheVariants as Exprs
use Rattle.schema_tree.specs.declared.schema.ExprId.{ExprId}
use Rattle.schema_tree.specs.declared.schema.Occurrence.{Occurrence}
use Rattle.schema_tree.specs.declared.schema.Pair.{Pair}
use Rattle.schema_tree.specs.declared.schema.Shape.{Shape}
use Rattle.schema_tree.specs.declared.schema.ShapeId.{ShapeId}
use Rattle.schema_tree.specs.Edges.{Edge, IsNegative, IsStratum, IsStratumOf, Path, StandsIn, StandsInValue, by_any, by_negative, in_and, in_not, in_or, itself, level, stay}
use Rattle.schema_tree.specs.Entries.{shape_at}
use Rattle.schema_tree.specs.Laws.{PlainShapesAreNarrow, WidthIsOne}
use Rattle.schema_tree.specs.Needs.{IsDecided}
use Rattle.schema_tree.specs.Width.{HasWidth, IsPlain, IsWithinWidth, width_of}
use Rattle.drill_laws.proofs.Standing.{item_schema, next_occurrence, tag_occurrence, the_shape}

-- ---- what the Shape is

is_forward : (o : Occurrence) → Contains the_shape.occs o → o.inverse ≡ false
is_forward o c = elim (in_rest next_occurrence (tag_occurrence ∷ []) o c) [
  | inl e ↦ sym (ap (λ (z : Occurrence). z.inverse) e)
  | inr h ↦ sym (ap (λ (z : Occurrence). z.inverse) (in_one tag_occurrence o h))
]

abbrev predicates : List TermId
predicates = record { 0 = 0 } ∷ record { 0 = 1 } ∷ []

at_number : (i : ℕ) (x : TermId) → slice_get predicates i ≡ Some x → x.0 ≡ i
at_number zero x e = let same : Some (record { 0 = 0 }) ≡ Some x = e in number_of 0 x same
  where
    number_of : (n : ℕ) (x : TermId) → Some (record { 0 = n }) ≡ Some x → x.0 ≡ n
    number_of n x same = let is : record { 0 = n } ≡ x = cc in sym (ap (λ (z : TermId). z.0) is)
at_number (suc zero) x e = let same : Some (record { 0 = 1 }) ≡ Some x = e in number_of 1 x same
  where
    number_of : (n : ℕ) (x : TermId) → Some (record { 0 = n }) ≡ Some x → x.0 ≡ n
    number_of n x same = let is : record { 0 = n } ≡ x = cc in sym (ap (λ (z : TermId). z.0) is)
at_number (suc (suc i)) x e = absurd (let bad : ⊥ = cc in bad)

are_apart : AreDistinct predicates
are_apart i j x h k = sym (at_number i x h) ∙ at_number j x k

pub is_plain : IsPlain the_shape
is_plain = record { forward = is_forward; no_extra = refl; apart = are_apart }

module _ (item : Label) (tags : Constraint) where
  -- ---- entries

  abbrev joins : Expr → Bool
  joins (Exprs.And es) = true
  joins (Exprs.Or es) = true
  joins (Exprs.Not e) = true
  joins (Exprs.Node c) = false
  joins (Exprs.Shape i) = false

  abbrev IsFine : Expr → Type 0
  IsFine x = (joins x ≡ false) × ((i : ShapeId) → x ≡ Exprs.Shape i → i.0 ≡ 0)

  shape_number : (i j : ShapeId) → Exprs.Shape i ≡ Exprs.Shape j → j.0 ≡ i.0
  shape_number i j e = let same : i ≡ j = cc in sym (ap (λ (z : ShapeId). z.0) same)

  fine_shape : IsFine (Exprs.Shape (record { 0 = 0 }))
  fine_shape = (refl, λ i e. shape_number (record { 0 = 0 }) i e)

  fine_node : (c : Constraint) → IsFine (Exprs.Node c)
  fine_node c = (refl, λ i e. absurd (let bad : ⊥ = cc in bad))

  same_expr : (x y : Expr) → Some x ≡ Some y → x ≡ y
  same_expr x y e = cc

  fine_entry : (k : ℕ) (x : Expr) → slice_get (Exprs.Shape (record { 0 = 0 }) ∷ Exprs.Node tags ∷ []) k ≡ Some x → IsFine x
  fine_entry zero x e = subst IsFine (same_expr (Exprs.Shape (record { 0 = 0 })) x e) fine_shape
  fine_entry (suc zero) x e = subst IsFine (same_expr (Exprs.Node tags) x e) (fine_node tags)
  fine_entry (suc (suc k)) x e = absurd (let bad : ⊥ = cc in bad)

  no_join : (x : Expr) → joins x ≡ true → IsFine x → ⊥
  no_join x e f = let both : true ≡ false = sym e ∙ f.0 in cc

  -- ---- edges

  pub stands_first : (i : ShapeId) (e : ExprId) (sign : Bool) → StandsIn (item_schema item tags) i e sign → (i.0 ≡ 0) × (sign ≡ false)
  stands_first i e _ (itself at) = ((fine_entry e.0 (Exprs.Shape i) at).1 i refl, refl)
  stands_first i e sign (in_and es d at c h) = absurd (no_join (Exprs.And es) refl (fine_entry e.0 (Exprs.And es) at))
  stands_first i e sign (in_or es d at c h) = absurd (no_join (Exprs.Or es) refl (fine_entry e.0 (Exprs.Or es) at))
  stands_first i e _ (in_not d at h) = absurd (no_join (Exprs.Not d) refl (fine_entry e.0 (Exprs.Not d) at))

  pub stands_first_value : (i : ShapeId) (v : Option ExprId) (sign : Bool) → StandsInValue (item_schema item tags) i v sign → (i.0 ≡ 0) × (sign ≡ false)
  stands_first_value i None sign h = absurd h
  stands_first_value i (Some e) sign h = stands_first i e sign h

  same_shape : (x y : Shape) → Some x ≡ Some y → x ≡ y
  same_shape x y e = cc

  one_shape : (k : ℕ) (x : Shape) → slice_get (the_shape ∷ []) k ≡ Some x → x.extra ≡ []
  one_shape zero x e = sym (ap (λ (z : Shape). z.extra) (same_shape the_shape x e))
  one_shape (suc k) x e = absurd (let bad : ⊥ = cc in bad)

  not_negative : (i t : ShapeId) (e : Edge (item_schema item tags) i t) → IsNegative e → ⊥
  not_negative i t e (inl h) = let f = (stands_first_value t e.occ.value e.sign e.stands).1 in let both : true ≡ false = sym h ∙ f in cc
  not_negative i t e (inr h) = not_in_none e.occ.predicate (subst (λ xs. Contains xs e.occ.predicate) (one_shape i.0 e.shape e.is) h.1)

  none_counted : (i t : ShapeId) (m : ℕ) → Path (item_schema item tags) i t m → m ≡ 0
  none_counted i t _ stay = refl
  none_counted i t m (by_any j e rest) = none_counted j t m rest
  none_counted i t _ (by_negative j e n rest) = absurd (not_negative i j e n)

  first_level : (k : ℕ) → k < 1 → slice_index (0 ∷ []) k ≡ 0
  first_level zero l = refl
  first_level (suc k) l = absurd (omega (arith, l))

  stratum : (i : ShapeId) → i.0 < 1 → IsStratumOf (item_schema item tags) i (level (0 ∷ []) i)
  stratum i l = subst (IsStratumOf (item_schema item tags) i) (sym (first_level i.0 l)) ((i, stay), λ t m path. (let e = none_counted i t m path in omega (arith, e)))

  pub is_stratum : IsStratum (item_schema item tags) (0 ∷ [])
  is_stratum = (refl, stratum)

  -- ---- Width

  module _ (narrow : PlainShapesAreNarrow) (one : WidthIsOne) (terms : List Term) (g : List Triple) where
    none_there : (x : Option Shape) (q : Pair) → x ≡ None → (w : ℕ) → HasWidth (item_schema item tags) terms g q w → shape_at (item_schema item tags) q.shape ≡ x → w ≡ 1
    none_there x q e w h is = h.is ∙ ap (λ z. width_of h.plain z g q.node) (is ∙ e)

    narrow_at : (q : Pair) (k : ℕ) → q.shape.0 ≡ k → IsWithinWidth (item_schema item tags) terms g 1048576 q
    narrow_at q zero e = (1, narrow (item_schema item tags) terms g q the_shape (ap (λ z. slice_get (the_shape ∷ []) z) e) is_plain, omega arith)
    narrow_at q (suc k) e =
        let (w, has) = (one (item_schema item tags) terms g q).0 in
        let is : w ≡ 1 = none_there None q refl w has (ap (λ z. slice_get (the_shape ∷ []) z) e) in
        (w, has, omega (arith, is))

    pub decided : (n : TermId) (e : ExprId) → IsDecided (item_schema item tags) terms g 1048576 n e
    decided n e q reaches = narrow_at q q.shape.0 refl
