-- The strata of a schema are one list.
use Rattle.std.proofs.Common.{◌≡◌, ℕ, suc, ◌<◌, ◌≤◌, List, [], ◌∷◌, length, slice_index, arith, refl, sym, subst, ◌∙◌}
use Rattle.schema_tree.specs.declared.schema.Schema.{Schema}
use Rattle.schema_tree.specs.declared.schema.ShapeId.{ShapeId}
use Rattle.schema_tree.specs.Edges.{IsStratum, IsStratumOf}

-- lists of one length with one number at each place are one
lists_one : (f g : List ℕ) → length f ≡ length g → ((k : ℕ) → k < length f → slice_index f k ≡ slice_index g k) → f ≡ g
lists_one [] [] l each = refl
lists_one [] (k ∷ g) l each = absurd (omega (arith, l))
lists_one (k ∷ f) [] l each = absurd (omega (arith, l))
lists_one (k ∷ f) (m ∷ g) l each =
    let first : k ≡ m = each 0 (omega arith) in
    let rest : f ≡ g = lists_one f g (omega (arith, l)) (λ j less. each (suc j) (omega (arith, less))) in
    λ i. first i ∷ rest i

-- a Shape has one stratum
levels_one : (s : Schema) (i : ShapeId) (a b : ℕ) → IsStratumOf s i a → IsStratumOf s i b → a ≡ b
levels_one s i a b ((t, way), most) ((u, path), top) =
    let up : a ≤ b = top t a way in
    let down : b ≤ a = most u b path in
    omega (arith, up, down)

-- so the strata of a schema are one list
pub strata_one : (s : Schema) (f g : List ℕ) → IsStratum s f → IsStratum s g → f ≡ g
strata_one s f g (long, each) (wide, at) = lists_one f g (long ∙ sym wide) (λ k less. one k less)
  where
    one : (k : ℕ) → k < length f → slice_index f k ≡ slice_index g k
    one k less =
        let shape : ShapeId = record { 0 = k } in
        let here : k < length s.shapes = subst (λ n. k < n) long less in
        levels_one s shape (slice_index f k) (slice_index g k) (each shape here) (at shape here)
