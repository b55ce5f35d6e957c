-- The strata of schemas with few Shapes.
use Rattle.std.proofs.Common.{◌≡◌, ℕ, zero, suc, Bool, false, true≢false, inl, inr, List, [], ◌∷◌, refl, arith, sym, subst, ap, length}
use Rattle.std.specs.Prelude.{Contains, Some, None, ◌⊎◌, slice_get}
use Rattle.schema_tree.specs.declared.schema.Expr.TheVariants as Exprs
use Rattle.schema_tree.specs.declared.schema.ExprId.{ExprId}
use Rattle.schema_tree.specs.declared.schema.Occurrence.{Occurrence}
use Rattle.schema_tree.specs.declared.schema.Schema.{Schema}
use Rattle.schema_tree.specs.declared.schema.Shape.{Shape}
use Rattle.schema_tree.specs.declared.schema.ShapeId.{ShapeId}
use Rattle.schema_tree.specs.Edges.{Edge, IsNegative, IsStratum, IsStratumOf, Path, StandsIn, StandsInValue, stay, by_any, by_negative, itself, in_and, in_or, in_not, level}
use Rattle.schema_tree.specs.Entries.{entry}
use Rattle.schema_tree.specs.Samples.{shape_id, expr_id, open_shape, schema_of}
use Rattle.lists.proofs.Members.{not_in_none}
use Rattle.tally.specs.Plan.{Plan}

-- in an entry that is a Shape stands that Shape alone, not negated
pub in_shape : (s : Schema) (u t : ShapeId) (e : ExprId) (sign : Bool) → entry s e ≡ Some (Exprs.Shape u) → StandsIn s t e sign → (sign ≡ false) × (t ≡ u)
in_shape s u t e sign is (itself at) = (refl, cc)
in_shape s u t e sign is (in_and es d at held deeper) = absurd (cc)
in_shape s u t e sign is (in_or es d at held deeper) = absurd (cc)
in_shape s u t e sign is (in_not d at deeper) = absurd (cc)

-- the Shape of a schema with one is that one
only_shape : (sh found : Shape) (k : ℕ) → slice_get (sh ∷ []) k ≡ Some found → sh ≡ found
only_shape sh found zero is = cc
only_shape sh found (suc k) is = absurd (cc)

module _ (s : Schema) where
  -- without negative edges a path counts none
  no_fall : ((i t : ShapeId) (e : Edge s i t) → ¬ IsNegative e) → (i t : ShapeId) (k : ℕ) → Path s i t k → k ≡ 0
  no_fall none i t k stay = refl
  no_fall none i t k (by_any j e rest) = no_fall none j t k rest
  no_fall none i t _ (by_negative {k = m} j e negative rest) = absurd (none i j e negative)

  -- so a single Shape is on stratum 0
  one_stratum : length s.shapes ≡ 1 → ((i t : ShapeId) (e : Edge s i t) → ¬ IsNegative e) → IsStratum s (0 ∷ [])
  one_stratum single none = (
    sym single,
    λ i within.
        let first : 0 ≡ i.0 = omega (arith, within, single) in
        subst (λ j. IsStratumOf s j (level (0 ∷ []) j)) (ap (λ k. shape_id k) first)
        ((shape_id 0, stay), λ t m path. let z : m ≡ 0 = no_fall none (shape_id 0) t m path in omega (arith, z)),
  )

-- a value that is the Shape itself, or is not there
abbrev pub IsPlainValue : Occurrence → Type 0
IsPlainValue o = (o.value ≡ None) ⊎ (o.value ≡ Some (expr_id 0))

-- the schema of one Shape without EXTRA
abbrev pub alone : Plan → List Occurrence → Schema
alone c occs = schema_of (Exprs.Shape (shape_id 0) ∷ []) (open_shape [] c occs ∷ [])

-- where its values are plain, its edges are not negative
alone_not_negative :
    (c : Plan) (occs : List Occurrence) → ((o : Occurrence) → Contains occs o → IsPlainValue o) →
    (i t : ShapeId) (e : Edge (alone c occs) i t) → ¬ IsNegative e
alone_not_negative c occs plain_values i t e (inl negated) =
    let same : open_shape [] c occs ≡ e.shape = only_shape _ e.shape i.0 e.is in
    let of : Contains occs e.occ = subst (λ sh. Contains sh.occs e.occ) (sym same) e.of in
    elim (plain_values e.occ of) [
      | inl absent ↦ subst (λ v. StandsInValue (alone c occs) t v e.sign) absent e.stands
      | inr itself_is ↦
          let stands : StandsIn (alone c occs) t (expr_id 0) e.sign = subst (λ v. StandsInValue (alone c occs) t v e.sign) itself_is e.stands in
          let positive : e.sign ≡ false = (in_shape (alone c occs) (shape_id 0) t (expr_id 0) e.sign refl stands).0 in
          absurd (true≢false (cc))
    ]
alone_not_negative c occs plain_values i t e (inr (out, extra)) =
    let same : open_shape [] c occs ≡ e.shape = only_shape _ e.shape i.0 e.is in
    not_in_none e.occ.predicate (subst (λ sh. Contains sh.extra e.occ.predicate) (sym same) extra)

-- and it is on stratum 0
pub alone_on_0 : (c : Plan) (occs : List Occurrence) → ((o : Occurrence) → Contains occs o → IsPlainValue o) → IsStratum (alone c occs) (0 ∷ [])
alone_on_0 c occs plain_values = one_stratum (alone c occs) refl (alone_not_negative c occs plain_values)
