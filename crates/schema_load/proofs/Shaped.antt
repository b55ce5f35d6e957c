-- The Shapes of parts, one after the other.
use Rattle.std.proofs.Common.{◌≡◌, ℕ, zero, suc, ◌+◌, ◌<◌, ◌≤◌, List, [], ◌∷◌, ◌++◌, refl, sym, ap, subst, arith, length, ◌∙◌, Option, Some, None, take, map}
use Rattle.std.specs.List.{AllZip}
use Rattle.std.proofs.lemmas.Bool.{cases_lt}
use Rattle.std.proofs.lemmas.List.{append-nil}
use Rattle.std.proofs.Common.{inl, inr}
use Rattle.rdf_terms.specs.declared.terms.Term.{Term}
use Rattle.rdf_terms.specs.declared.terms.Term.TheVariants.{Iri}
use Rattle.lists.proofs.Beside.{zip_push}
use Rattle.lists.proofs.Members.{got_in, in_flat_map}
use Rattle.schema_tree.specs.declared.schema.ExprId.{ExprId}
use Rattle.schema_tree.specs.declared.schema.Shape.{Shape}
use Rattle.schema_load.specs.declared.part.Part.{Part}
use Rattle.schema_load.specs.declared.part.Part.TheVariants as Parts
use Rattle.schema_load.specs.declared.part.ShapePart.{ShapePart}
use Rattle.schema_load.specs.Building.{HasEach, HasPredicates}
use Rattle.schema_load.specs.Parts.{IsAt, is_shape, places_where, predicates_in, shape_places, with_place}
use Rattle.schema_load.specs.Requirements.{HasOccurrences, IsCrowded, NoneIs}
use Rattle.schema_load.specs.Shapes.{AddsShape, AddsShapeOf, CanUnfold, IsBodyInside, IsShapeFrom}
use Rattle.schema_load.specs.Stands.{IsShapeAt}
use Rattle.schema_load.specs.Steps.{HoldTriples, IsTripleAt}
use Rattle.schema_load.proofs.Levels.{places_step}
use Rattle.schema_load.proofs.One.{one_at}
use Rattle.schema_load.proofs.Tops.{whole_parts}

pub part_at : (parts : List Part) (i : ℕ) → i < length parts → (x : Part) × IsAt parts i x
part_at [] i lt = absurd (omega arith)
part_at (x ∷ xs) zero lt = (x, refl)
part_at (x ∷ xs) (suc i) lt = part_at xs i (omega arith)

-- the table has the predicates in EXTRA
pub extra_there : (parts : List Part) (terms : List Term) (p : ℕ) (head : ShapePart) → HasPredicates parts terms → IsAt parts p (Parts.Shape head) → HasEach (map Iri head.extra) terms
extra_there parts terms p head has at t c = has t (in_flat_map predicates_in parts (Parts.Shape head) t (got_in parts p (Parts.Shape head) at) c)

-- each Shape of parts that keep the limits can be unfolded
pub can_unfold : (parts : List Part) → HoldTriples parts → NoneIs (IsCrowded parts) → ((p : ℕ) → IsTripleAt parts p → (n : ℕ) × HasOccurrences parts p n) → CanUnfold parts
can_unfold parts triples few all p head at = go head.body refl
  where
    go : (b : Option ℕ) → head.body ≡ b → IsBodyInside parts b
    go None e = tt
    go (Some q) e =
        let there : IsTripleAt parts q = triples p q (Parts.Shape head) at e in
        let (n, has) = all q there in (
          there,
          (
            n,
            has,
            elim (cases_lt 256 n) [
              | inl many ↦ absurd (few p (record { head = head; here = at; body = q; has_body = e; number = n; occurrences = has; many = many }))
              | inr le ↦ omega arith
            ],
          ),
        )

module _ (terms : List Term) (parts : List Part) (number : ℕ → ExprId) where
  pub shape_at : (p : ℕ) (head : ShapePart) (s : Shape) → IsAt parts p (Parts.Shape head) → IsShapeFrom terms parts number head s → IsShapeAt terms parts number p s
  shape_at p head s at is = record { head = head; here = at; closed = is.closed; extra = is.extra; body = is.body }

  pub adds_shape : (p : ℕ) (x : Part) (old new : List Shape) → IsAt parts p x → AddsShapeOf terms parts number x p old new → AddsShape terms parts number p old new
  adds_shape p x old new at adds y there = subst (λ z. AddsShapeOf terms parts number z p old new) (one_at parts p x y at there) adds

  pub no_shape : (p : ℕ) (x : Part) (old : List Shape) → ((s : ShapePart) → x ≡ Parts.Shape s → ⊥) → AddsShapeOf terms parts number x p old old
  no_shape p (Parts.Shape s) old other = absurd (other s refl)
  no_shape p Parts.Start old other = refl
  no_shape p (Parts.Declares l) old other = refl
  no_shape p (Parts.And ps) old other = refl
  no_shape p (Parts.Or ps) old other = refl
  no_shape p (Parts.Not q) old other = refl
  no_shape p (Parts.Node c) old other = refl
  no_shape p (Parts.Ref l) old other = refl
  no_shape p (Parts.Triple t) old other = refl

  same_shapes : (ps : List ℕ) (old new : List Shape) → AllZip (IsShapeAt terms parts number) ps old → new ≡ old → AllZip (IsShapeAt terms parts number) (ps ++ []) new
  same_shapes ps old new before e = subst (λ us. AllZip (IsShapeAt terms parts number) us new) (sym (append-nil ps)) (subst (λ ss. AllZip (IsShapeAt terms parts number) ps ss) (sym e) before)

  shapes_step : (i : ℕ) (x : Part) → IsAt parts i x → places_where is_shape 0 (take (i + 1) parts) ≡ places_where is_shape 0 (take i parts) ++ with_place (is_shape x) i []
  shapes_step i x at =
      ap (λ n. places_where is_shape 0 (take n parts)) (let e : i + 1 ≡ suc i = omega arith in e)
      ∙ (places_step is_shape 0 parts i x at ∙ ap (λ n. places_where is_shape 0 (take i parts) ++ with_place (is_shape x) n []) (let e : 0 + i ≡ i = omega arith in e))

  abbrev Zipped : List ℕ → List Shape → Type 0
  Zipped ps shapes = AllZip (IsShapeAt terms parts number) ps shapes

  added_on : (p : ℕ) (x : Part) (ps : List ℕ) (old new : List Shape) → Zipped ps old → AddsShapeOf terms parts number x p old new → Zipped (ps ++ with_place (is_shape x) p []) new
  added_on p (Parts.Shape head) ps old new before (s, is, grown) = subst (λ ss. Zipped (ps ++ p ∷ []) ss) (sym grown) (zip_push (IsShapeAt terms parts number) ps old p s before is)
  added_on p Parts.Start ps old new before e = same_shapes ps old new before e
  added_on p (Parts.Declares l) ps old new before e = same_shapes ps old new before e
  added_on p (Parts.And qs) ps old new before e = same_shapes ps old new before e
  added_on p (Parts.Or qs) ps old new before e = same_shapes ps old new before e
  added_on p (Parts.Not q) ps old new before e = same_shapes ps old new before e
  added_on p (Parts.Node c) ps old new before e = same_shapes ps old new before e
  added_on p (Parts.Ref l) ps old new before e = same_shapes ps old new before e
  added_on p (Parts.Triple t) ps old new before e = same_shapes ps old new before e

  pub shapes_more : (i : ℕ) (old new : List Shape) → i < length parts → Zipped (places_where is_shape 0 (take i parts)) old →
      AddsShape terms parts number i old new → Zipped (places_where is_shape 0 (take (i + 1) parts)) new
  shapes_more i old new lt before adds =
      let (x, at) = part_at parts i lt in
      subst (λ ps. Zipped ps new) (sym (shapes_step i x at)) (added_on i x (places_where is_shape 0 (take i parts)) old new before (adds x at))

  pub shapes_all : (i : ℕ) (shapes : List Shape) → length parts ≤ i → Zipped (places_where is_shape 0 (take i parts)) shapes → Zipped (shape_places parts) shapes
  shapes_all i shapes le all = subst (λ us. Zipped (places_where is_shape 0 us) shapes) (whole_parts parts i le) all
