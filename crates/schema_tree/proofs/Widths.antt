-- Each pair has one Width, and it is at most the product over its classes by form alone.
use Rattle.std.proofs.Common.{◌≡◌, ℕ, zero, suc, ◌*◌, ◌≤◌, inl, inr, List, [], ◌∷◌, refl, arith, sym, subst, ap, ◌∙◌, max, min, map}
use Rattle.std.specs.Prelude.{Option, Some, None, count_by, slice_get}
use Rattle.node_constraint.specs.Laws.{NodesAreDecided}
use Rattle.rdf_terms.specs.declared.terms.Term.{Term}
use Rattle.rdf_terms.specs.declared.terms.TermId.{TermId}
use Rattle.rdf_terms.specs.declared.terms.Triple.{Triple}
use Rattle.schema_tree.specs.declared.schema.Expr.{Expr}
use Rattle.schema_tree.specs.declared.schema.Expr.TheVariants as Exprs
use Rattle.schema_tree.specs.declared.schema.ExprId.{ExprId}
use Rattle.schema_tree.specs.declared.schema.Pair.{Pair}
use Rattle.schema_tree.specs.declared.schema.Schema.{Schema}
use Rattle.schema_tree.specs.declared.schema.Shape.{Shape}
use Rattle.schema_tree.specs.declared.verdicts.Verdict.{Verdict}
use Rattle.schema_tree.specs.declared.verdicts.Verdict.TheVariants.{Yes, No, Unknown}
use Rattle.schema_tree.specs.Entries.{SatNodeAt, entry, shape_at}
use Rattle.schema_tree.specs.Needs.{IsDecided, IsDecidedByForm}
use Rattle.schema_tree.specs.Relevant.{relevant}
use Rattle.schema_tree.specs.Width.{HasWidth, IsPlain, IsWithinWidth, PlainEntry, PlainIs, coarse, coarse_of, coarse_over, fine_over, firsts, open_places_for, product, same_fine_class, ways, width_of}
use Rattle.schema_tree.proofs.Decide.{decide_node}
use Rattle.lists.proofs.Decided.{Decided, decide_le}
use Rattle.schema_tree.proofs.PlainWidth.{plain_coarse}

-- ---- the verdicts without a look at Shapes

module _ (s : Schema) (terms : List Term) where
  one_entry : (n : TermId) (x : Option Expr) (v w : Verdict) → PlainEntry terms n x v → PlainEntry terms n x w → v ≡ w
  one_entry n None v w a b = a ∙ sym b
  one_entry n (Some (Exprs.And es)) v w a b = a ∙ sym b
  one_entry n (Some (Exprs.Or es)) v w a b = a ∙ sym b
  one_entry n (Some (Exprs.Not e)) v w a b = a ∙ sym b
  one_entry n (Some (Exprs.Node c)) Yes Yes a b = refl
  one_entry n (Some (Exprs.Node c)) Yes No a b = absurd (b a)
  one_entry n (Some (Exprs.Node c)) Yes Unknown a b = absurd b
  one_entry n (Some (Exprs.Node c)) No Yes a b = absurd (a b)
  one_entry n (Some (Exprs.Node c)) No No a b = refl
  one_entry n (Some (Exprs.Node c)) No Unknown a b = absurd b
  one_entry n (Some (Exprs.Node c)) Unknown w a b = absurd a
  one_entry n (Some (Exprs.Shape i)) v w a b = a ∙ sym b

  -- there is one verdict
  pub one_plain : (n : TermId) (x : Option ExprId) (v w : Verdict) → PlainIs s terms n x v → PlainIs s terms n x w → v ≡ w
  one_plain n None v w a b = a ∙ sym b
  one_plain n (Some e) v w a b = one_entry n (entry s e) v w a b

  module _ (nodes : NodesAreDecided) where
    some_entry : (n : TermId) (x : Option Expr) → (v : Verdict) × PlainEntry terms n x v
    some_entry n None = (Unknown, refl)
    some_entry n (Some (Exprs.And es)) = (Unknown, refl)
    some_entry n (Some (Exprs.Or es)) = (Unknown, refl)
    some_entry n (Some (Exprs.Not e)) = (Unknown, refl)
    some_entry n (Some (Exprs.Node c)) = go (decide_node nodes c (slice_get terms n.0))
      where
        go : Decided (SatNodeAt c (slice_get terms n.0)) → (v : Verdict) × PlainEntry terms n (Some (Exprs.Node c)) v
        go (inl holds) = (Yes, holds)
        go (inr fails) = (No, fails)
    some_entry n (Some (Exprs.Shape i)) = (Unknown, refl)

    some_plain : (n : TermId) (x : Option ExprId) → (v : Verdict) × PlainIs s terms n x v
    some_plain n None = (Yes, refl)
    some_plain n (Some e) = some_entry n (entry s e)

    -- there is a Width
    pub some_width : (g : List Triple) (p : Pair) → (w : ℕ) × HasWidth s terms g p w
    some_width g p = (
      width_of (λ n x. (some_plain n x).0) (shape_at s p.shape) g p.node,
      record { plain = λ n x. (some_plain n x).0; tells = λ n x. (some_plain n x).1; is = refl },
    )

  -- there is but one
  pub one_width : (g : List Triple) (p : Pair) (v w : ℕ) → HasWidth s terms g p v → HasWidth s terms g p w → v ≡ w
  one_width g p v w a b = a.is ∙ (λ i. width_of (λ n x. one_plain n x (a.plain n x) (b.plain n x) (a.tells n x) (b.tells n x) i) (shape_at s p.shape) g p.node) ∙ sym b.is

-- whether it is within a bound
pub decide_within : (s : Schema) (terms : List Term) → NodesAreDecided → (g : List Triple) (bound : ℕ) (p : Pair) → Decided (IsWithinWidth s terms g bound p)
decide_within s terms nodes g bound p = let (w, has) = some_width s terms nodes g p in go w has (decide_le w bound)
  where
    go : (w : ℕ) → HasWidth s terms g p w → Decided (w ≤ bound) → Decided (IsWithinWidth s terms g bound p)
    go w has (inl le) = inl (w, has, le)
    go w has (inr above) = inr (λ t. above (subst (λ k. k ≤ bound) (one_width s terms g p t.0 w t.1 has) t.2))

-- ---- the lesser of two

min_left : (a b : ℕ) → min a b ≤ a
min_left a b = omega arith

min_one : (a b : ℕ) → a ≡ 1 → 1 ≤ b → min a b ≡ 1
min_one a b is some = omega (arith, is, some)

narrower_of : (plain : TermId → Option ExprId → Verdict) (x : Option Shape) (g : List Triple) (n : TermId) → width_of plain x g n ≤ coarse_of x g n
narrower_of plain None g n = omega arith
narrower_of plain (Some sh) g n = min_left (coarse_over sh n (relevant sh.occs g n)) (fine_over plain sh n (relevant sh.occs g n))

pub narrower : (s : Schema) (terms : List Term) (g : List Triple) (p : Pair) (w : ℕ) → HasWidth s terms g p w → w ≤ coarse s g p
narrower s terms g p w has = let le = narrower_of has.plain (shape_at s p.shape) g p.node in let is = has.is in omega (arith, le, is)

pub decided_by_form :
    (s : Schema) (terms : List Term) → NodesAreDecided → (g : List Triple) (budget : ℕ) (n : TermId) (e : ExprId) →
    IsDecidedByForm s g budget n e → IsDecided s terms g budget n e
decided_by_form s terms nodes g budget n e form q reached =
    let (w, has) = some_width s terms nodes g q in
    let le = narrower s terms g q w has in
    let bound = form q reached in
    (w, has, omega (arith, le, bound))

-- ---- ways

-- where there is a place, there is a way
pub ways_some : (d p : ℕ) → 1 ≤ ways d (suc p)
ways_some zero p = omega arith
ways_some (suc d) p = let e = ways_some d p in omega (arith, e)

ways_one : (d p : ℕ) → 1 ≤ ways d (max 1 p)
ways_one d zero = ways_some d 0
ways_one d (suc p) = subst (λ k. 1 ≤ ways d k) (let e : suc p ≡ max 1 (suc p) = omega arith in e) (ways_some d p)

mul_some : (a b : ℕ) → 1 ≤ a → 1 ≤ b → 1 ≤ a * b
mul_some a b h k = grind (arith, h, k)

product_some : (f : Triple → ℕ) (ts : List Triple) → ((t : Triple) → 1 ≤ f t) → 1 ≤ product (map f ts)
product_some f [] each = omega arith
product_some f (t ∷ ts) each = mul_some (f t) (product (map f ts)) (each t) (product_some f ts each)

pub fine_some : (plain : TermId → Option ExprId → Verdict) (sh : Shape) (n : TermId) (ts : List Triple) → 1 ≤ fine_over plain sh n ts
fine_some plain sh n ts =
    product_some (λ t. ways (count_by (same_fine_class plain sh n t) ts) (max 1 (open_places_for plain sh n t))) (firsts (same_fine_class plain sh n) ts)
    (λ t. ways_one (count_by (same_fine_class plain sh n t) ts) (open_places_for plain sh n t))

pub plain_width : (s : Schema) (terms : List Term) → NodesAreDecided → (g : List Triple) (p : Pair) (sh : Shape) → shape_at s p.shape ≡ Some sh → IsPlain sh → HasWidth s terms g p 1
plain_width s terms nodes g p sh is fine =
    let (w, has) = some_width s terms nodes g p in
    subst (λ k. HasWidth s terms g p k) (one w has) has
  where
    one : (w : ℕ) → HasWidth s terms g p w → w ≡ 1
    one w has =
        has.is ∙ ap (λ x. width_of has.plain x g p.node) is
        ∙ min_one (coarse_over sh p.node (relevant sh.occs g p.node)) (fine_over has.plain sh p.node (relevant sh.occs g p.node))
        (sym (ap (λ x. coarse_of x g p.node) is) ∙ plain_coarse s g p sh is fine) (fine_some has.plain sh p.node (relevant sh.occs g p.node))
