-- The labels of parts, one after the other.
use Rattle.std.proofs.Common.{◌≡◌, ℕ, zero, suc, ◌+◌, ◌<◌, ◌≤◌, List, [], ◌∷◌, ◌++◌, refl, sym, ap, subst, arith, length, ◌∙◌, Option, Some, take, map, inl}
use Rattle.std.specs.Prelude.{Contains, slice_get}
use Rattle.std.specs.List.{flat_map}
use Rattle.std.proofs.lemmas.List.{append-nil, map-append}
use Rattle.lists.proofs.Members.{from_map}
use Rattle.schema_documents.specs.declared.label.Label.{Label}
use Rattle.schema_documents.specs.Tree.{Declaration, Document, MaybeShapeExpr, no_expr, one_expr}
use Rattle.schema_tree.specs.declared.schema.ExprId.{ExprId}
use Rattle.schema_tree.specs.Labels.{IsDeclared}
use Rattle.schema_load.specs.declared.part.Part.{Part}
use Rattle.schema_load.specs.declared.part.Part.TheVariants as Parts
use Rattle.schema_load.specs.Building.{AddsLabel, IsStartIn, label_in, labels_in}
use Rattle.schema_load.specs.Parts.{IsAt, declarations}
use Rattle.schema_load.specs.Reading.{lay_decls, lay_start, parts_of, root_start, size_of_start}
use Rattle.schema_load.specs.Requirements.{HasOne, IsTwice, NoneIs}
use Rattle.schema_load.specs.Stands.{IsStart}
use Rattle.schema_load.proofs.Loadable.{head_of}
use Rattle.schema_load.proofs.One.{one_at}
use Rattle.schema_load.proofs.Shaped.{part_at}

-- ---- one more part

-- what a part declares
abbrev head_in : Part → ℕ → List (Label × ℕ)
head_in (Parts.Declares l) p = (l, p + 1) ∷ []
head_in _ p = []

heads_step : (k : ℕ) (us : List Part) (i : ℕ) (x : Part) → slice_get us i ≡ Some x → declarations k (take (suc i) us) ≡ declarations k (take i us) ++ head_in x (k + i)
heads_step k [] i x at = absurd (let bad : ⊥ = cc in bad)
heads_step k (u ∷ us) zero x at =
    let same : u ≡ x = cc in
    subst (λ z. declarations k (u ∷ []) ≡ head_in z (k + 0)) same (subst (λ n. declarations k (u ∷ []) ≡ head_in u n) (let e : k ≡ k + 0 = omega arith in e) (alone u))
  where
    alone : (v : Part) → declarations k (v ∷ []) ≡ head_in v k
    alone (Parts.Declares l) = refl
    alone Parts.Start = refl
    alone (Parts.And ps) = refl
    alone (Parts.Or ps) = refl
    alone (Parts.Not q) = refl
    alone (Parts.Node c) = refl
    alone (Parts.Shape s) = refl
    alone (Parts.Ref l) = refl
    alone (Parts.Triple t) = refl
heads_step k (u ∷ us) (suc i) x at = go u (heads_step (k + 1) us i x at ∙ ap (λ n. declarations (k + 1) (take i us) ++ head_in x n) (let e : (k + 1) + i ≡ k + suc i = omega arith in e))
  where
    go : (v : Part) → declarations (k + 1) (take (suc i) us) ≡ declarations (k + 1) (take i us) ++ head_in x (k + suc i) →
        declarations k (v ∷ take (suc i) us) ≡ declarations k (v ∷ take i us) ++ head_in x (k + suc i)
    go (Parts.Declares l) e = ap (λ us. first l ∷ us) e
      where
        first : Label → Label × ℕ
        first m = (m, k + 1)
    go Parts.Start e = e
    go (Parts.And ps) e = e
    go (Parts.Or ps) e = e
    go (Parts.Not q) e = e
    go (Parts.Node c) e = e
    go (Parts.Shape s) e = e
    go (Parts.Ref l) e = e
    go (Parts.Triple t) e = e

numbered_head : (number : ℕ → ExprId) (x : Part) (p : ℕ) → map (λ d. (d.0, number d.1)) (head_in x p) ≡ label_in x p number
numbered_head number (Parts.Declares l) p = refl
numbered_head number Parts.Start p = refl
numbered_head number (Parts.And ps) p = refl
numbered_head number (Parts.Or ps) p = refl
numbered_head number (Parts.Not q) p = refl
numbered_head number (Parts.Node c) p = refl
numbered_head number (Parts.Shape s) p = refl
numbered_head number (Parts.Ref l) p = refl
numbered_head number (Parts.Triple t) p = refl

labels_step : (parts : List Part) (number : ℕ → ExprId) (i : ℕ) (x : Part) → IsAt parts i x → labels_in (take (i + 1) parts) number ≡ labels_in (take i parts) number ++ label_in x i number
labels_step parts number i x at =
    ap (λ n. labels_in (take n parts) number) (let e : i + 1 ≡ suc i = omega arith in e)
    ∙ (ap (map (λ d. (d.0, number d.1))) (heads_step 0 parts i x at ∙ ap (λ n. declarations 0 (take i parts) ++ head_in x n) (let e : 0 + i ≡ i = omega arith in e))
    ∙ (map-append (λ d. (d.0, number d.1)) (declarations 0 (take i parts)) (head_in x i)
    ∙ ap (λ us. labels_in (take i parts) number ++ us) (numbered_head number x i)))

pub labels_more : (parts : List Part) (number : ℕ → ExprId) (i : ℕ) (old new : List (Label × ExprId)) → i < length parts →
    old ≡ labels_in (take i parts) number → AddsLabel parts number i old new → new ≡ labels_in (take (i + 1) parts) number
labels_more parts number i old new lt before adds =
    let (x, at) = part_at parts i lt in
    adds x at ∙ (ap (λ us. us ++ label_in x i number) before ∙ sym (labels_step parts number i x at))

-- ---- each label is new

take_get : (us : List Part) (i j : ℕ) (x : Part) → slice_get (take i us) j ≡ Some x → (slice_get us j ≡ Some x) × (j < i)
take_get [] zero j x e = absurd (let bad : ⊥ = cc in bad)
take_get [] (suc i) j x e = absurd (let bad : ⊥ = cc in bad)
take_get (u ∷ us) zero j x e = absurd (let bad : ⊥ = cc in bad)
take_get (u ∷ us) (suc i) zero x e = (e, omega arith)
take_get (u ∷ us) (suc i) (suc j) x e = let (at, lt) = take_get us i j x e in (at, omega arith)

pub label_new : (parts : List Part) (number : ℕ → ExprId) (i : ℕ) (labels : List (Label × ExprId)) → NoneIs (HasOne (IsTwice parts)) →
    labels ≡ labels_in (take i parts) number → (l : Label) → IsAt parts i (Parts.Declares l) → ¬ IsDeclared labels l
label_new parts number i labels once are l at (e, c) =
    let (d, held, is) = from_map (λ d. (d.0, number d.1)) (declarations 0 (take i parts)) (l, e) (subst (λ us. Contains us (l, e)) are c) in
    let head = head_of 0 (take i parts) d held in
    let (there, lt) = take_get parts i head.index (Parts.Declares d.0) head.at in
    let same : d.0 ≡ l = ap (λ (z : Label × ExprId). z.0) is in
    once i (l, inl (record { here = at; other = head.index; there = subst (λ z. IsAt parts head.index (Parts.Declares z)) same there; apart = λ one. omega arith }))

-- ---- one label

pub no_label : (parts : List Part) (number : ℕ → ExprId) (p : ℕ) (y : Part) (old : List (Label × ExprId)) → IsAt parts p y → ((l : Label) → y ≡ Parts.Declares l → ⊥) → AddsLabel parts number p old old
no_label parts number p y old at other x there = go x (one_at parts p y x at there)
  where
    go : (v : Part) → y ≡ v → old ≡ old ++ label_in v p number
    go (Parts.Declares l) e = absurd (other l e)
    go Parts.Start e = sym (append-nil old)
    go (Parts.And ps) e = sym (append-nil old)
    go (Parts.Or ps) e = sym (append-nil old)
    go (Parts.Not q) e = sym (append-nil old)
    go (Parts.Node c) e = sym (append-nil old)
    go (Parts.Shape s) e = sym (append-nil old)
    go (Parts.Ref l) e = sym (append-nil old)
    go (Parts.Triple t) e = sym (append-nil old)

-- ---- the start

-- documents without a start do not begin with the head of one
no_start_first : (ds : List Declaration) → ¬ IsAt (lay_decls 0 ds) 0 Parts.Start
no_start_first [] at = (let bad : ⊥ = cc in bad)
no_start_first (d ∷ ds) at = (let both : Parts.Declares d.label ≡ Parts.Start = cc in let bad : ⊥ = cc in bad)

pub start_is : (docs : List Document) (number : ℕ → ExprId) (start : Option ExprId) → IsStartIn (parts_of docs) number start → IsStart number (root_start docs) start
start_is docs number start is = go (root_start docs) is
  where
    go : (v : MaybeShapeExpr) → IsStartIn (lay_start v ++ lay_decls (size_of_start v) (flat_map (λ d. d.decls) docs)) number start → IsStart number v start
    go no_expr h = h.absent (no_start_first (flat_map (λ d. d.decls) docs))
    go (one_expr e) h = h.there refl
