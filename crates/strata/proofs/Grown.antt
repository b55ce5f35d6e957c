-- How lists of arcs grow.
use Rattle.std.proofs.Common.{◌≡◌, ℕ, suc, ◌<◌, ◌⊎◌, inl, inr, List, [], ◌∷◌, ◌++◌, refl, arith, sym, subst, ap, length, take, get_or, ◌+◌, Bool, true, false, ◌∙◌}
use Rattle.std.specs.Prelude.{Contains, ◌||◌, Some, None, IfOk, Result, Ok, Err}
use Rattle.std.proofs.lemmas.List.Elements.{Contains-append_cases, Contains-append_left, Contains-append_right}
use Rattle.std.proofs.Math.Seq.{take-suc}
use Rattle.std.proofs.lemmas.Option.{slice_get-get_or}
use Rattle.schema_tree.specs.declared.schema.Schema.{Schema}
use Rattle.schema_tree.specs.declared.schema.ShapeId.{ShapeId}
use Rattle.schema_tree.specs.declared.schema.ExprId.{ExprId}
use Rattle.node_constraint.specs.Constraint.{Constraint}
use Rattle.schema_tree.specs.declared.schema.Expr.{Expr}
use Rattle.schema_tree.specs.declared.schema.Expr.TheVariants as Exprs
use Rattle.schema_tree.specs.Entries.{entry}
use Rattle.schema_tree.specs.Edges.{StandsIn, itself, in_and, in_or, in_not, StandsInValue}
use Rattle.lists.proofs.Members.{in_one, is_first}
use Rattle.strata.specs.declared.edges.Arc.{Arc}
use Rattle.rdf_terms.specs.declared.terms.TermId.{TermId}
use Rattle.schema_tree.specs.declared.schema.Occurrence.{Occurrence}
use Rattle.strata.specs.Gathers.{Grows, FromEntry, FromOcc, FromShape, is_extra}

pub grow_none : (P : Arc → Type 0) (xs : List Arc) → ((a : Arc) → ¬ P a) → Grows P xs xs
grow_none P xs none = record { kept = λ a c. c; added = λ a h. absurd (none a h); only = λ a c. inl c }

pub grow_same : (P Q : Arc → Type 0) → ((a : Arc) → P a → Q a) → ((a : Arc) → Q a → P a) → (xs ys : List Arc) → Grows P xs ys → Grows Q xs ys
grow_same P Q to from xs ys g = record {
  kept = g.kept;
  added = λ a h. g.added a (from a h);
  only = λ a c. elim (g.only a c) [ inl old ↦ inl old | inr new ↦ inr (to a new) ];
}

pub grow_join : (P Q : Arc → Type 0) (xs ys zs : List Arc) → Grows P xs ys → Grows Q ys zs → Grows (λ a. P a ⊎ Q a) xs zs
grow_join P Q xs ys zs g h = record {
  kept = λ a c. h.kept a (g.kept a c);
  added = λ a s. elim s [ inl p ↦ h.kept a (g.added a p) | inr q ↦ h.added a q ];
  only = λ a c. elim (h.only a c) [
    | inl mid ↦ elim (g.only a mid) [ inl old ↦ inl old | inr p ↦ inr (inl p) ]
    | inr q ↦ inr (inr q)
  ];
}

pub grow_one : (P : Arc → Type 0) (xs : List Arc) (x : Arc) → P x → ((a : Arc) → P a → x ≡ a) → Grows P xs (xs ++ x ∷ [])
grow_one P xs x h once = record {
  kept = λ a c. Contains-append_left xs (x ∷ []) a c;
  added = λ a p. Contains-append_right xs (x ∷ []) a (subst (λ z. Contains (x ∷ []) z) (once a p) (is_first x []));
  only = λ a c. elim (Contains-append_cases xs (x ∷ []) a c) [
    | inl old ↦ inl old
    | inr new ↦ inr (subst P (in_one x a new) h)
  ];
}

pub or_true : (b : Bool) → b || true ≡ true
or_true true = refl
or_true false = refl

pub or_false : (b : Bool) → b || false ≡ b
or_false true = refl
or_false false = refl

module _ (s : Schema) where
  -- what an entry holds, by its kind
  pub stands_and : (t : ShapeId) (e : ExprId) (sign : Bool) (es : List ExprId) → entry s e ≡ Some (Exprs.And es) → StandsIn s t e sign → (d : ExprId) × Contains es d × StandsIn s t d sign
  stands_and t e sign es is (itself i) = absurd (let bad : ⊥ = cc in bad)
  stands_and t e sign es is (in_and fs d i c st) = let same : fs ≡ es = cc in (d, subst (λ us. Contains us d) same c, st)
  stands_and t e sign es is (in_or fs d i c st) = absurd (let bad : ⊥ = cc in bad)
  stands_and t e _ es is (in_not d i st) = absurd (let bad : ⊥ = cc in bad)

  pub stands_or : (t : ShapeId) (e : ExprId) (sign : Bool) (es : List ExprId) → entry s e ≡ Some (Exprs.Or es) → StandsIn s t e sign → (d : ExprId) × Contains es d × StandsIn s t d sign
  stands_or t e sign es is (itself i) = absurd (let bad : ⊥ = cc in bad)
  stands_or t e sign es is (in_and fs d i c st) = absurd (let bad : ⊥ = cc in bad)
  stands_or t e sign es is (in_or fs d i c st) = let same : fs ≡ es = cc in (d, subst (λ us. Contains us d) same c, st)
  stands_or t e _ es is (in_not d i st) = absurd (let bad : ⊥ = cc in bad)

  pub stands_not : (t : ShapeId) (e : ExprId) (sign : Bool) (d : ExprId) → entry s e ≡ Some (Exprs.Not d) → StandsIn s t e sign → (sign ≡ true) × ((b : Bool) × StandsIn s t d b)
  stands_not t e sign d is (itself i) = absurd (let bad : ⊥ = cc in bad)
  stands_not t e sign d is (in_and fs u i c st) = absurd (let bad : ⊥ = cc in bad)
  stands_not t e sign d is (in_or fs u i c st) = absurd (let bad : ⊥ = cc in bad)
  stands_not t e _ d is (in_not {sign = b} u i st) = let same : u ≡ d = cc in (refl, (b, subst (λ z. StandsIn s t z b) same st))

  pub stands_shape : (t : ShapeId) (e : ExprId) (sign : Bool) (u : ShapeId) → entry s e ≡ Some (Exprs.Shape u) → StandsIn s t e sign → (sign ≡ false) × (u ≡ t)
  stands_shape t e sign u is (itself i) = let same : u ≡ t = cc in (refl, same)
  stands_shape t e sign u is (in_and fs d i c st) = absurd (let bad : ⊥ = cc in bad)
  stands_shape t e sign u is (in_or fs d i c st) = absurd (let bad : ⊥ = cc in bad)
  stands_shape t e _ u is (in_not d i st) = absurd (let bad : ⊥ = cc in bad)

  pub stands_node : (t : ShapeId) (e : ExprId) (sign : Bool) (k : Constraint) → entry s e ≡ Some (Exprs.Node k) → ¬ StandsIn s t e sign
  stands_node t e sign k is (itself i) = let bad : ⊥ = cc in bad
  stands_node t e sign k is (in_and fs d i c st) = let bad : ⊥ = cc in bad
  stands_node t e sign k is (in_or fs d i c st) = let bad : ⊥ = cc in bad
  stands_node t e _ k is (in_not d i st) = let bad : ⊥ = cc in bad

  pub stands_none : (t : ShapeId) (e : ExprId) (sign : Bool) → entry s e ≡ None → ¬ StandsIn s t e sign
  stands_none t e sign is (itself i) = let bad : ⊥ = cc in bad
  stands_none t e sign is (in_and fs d i c st) = let bad : ⊥ = cc in bad
  stands_none t e sign is (in_or fs d i c st) = let bad : ⊥ = cc in bad
  stands_none t e _ is (in_not d i st) = let bad : ⊥ = cc in bad

-- an entry that is read by its place
pub entry_in : (s : Schema) (e : ExprId) (es : List Expr) (x y : Expr) → es ≡ s.exprs → x ≡ get_or es e.0 x → x ≡ y → e.0 < length s.exprs → entry s e ≡ Some y
entry_in s e es x y same at is lt =
    slice_get-get_or s.exprs e.0 x lt ∙ ap (λ (z : Expr). Some z) (ap (λ (zs : List Expr). get_or zs e.0 x) (sym same) ∙ sym at ∙ is)

pub if_ok : {X E : Type 0} (P Q : X → Type 0) → ((x : X) → P x → Q x) → (r : Result X E) → IfOk r P → IfOk r Q
if_ok P Q f (Ok x) h = f x h
if_ok P Q f (Err e) h = h

module _ (s : Schema) (from : ShapeId) (extra : List TermId) where
  pub occ_none : (o : Occurrence) → o.value ≡ None → (xs : List Arc) → Grows (FromOcc s from extra o) xs xs
  occ_none o is xs = grow_none (FromOcc s from extra o) xs (λ a h. subst (λ v. StandsInValue s a.to v h.1.0) is h.1.1)

  pub occ_some : (o : Occurrence) (e : ExprId) → o.value ≡ Some e → (xs ys : List Arc) → Grows (FromEntry s from (is_extra extra o) e) xs ys → Grows (FromOcc s from extra o) xs ys
  occ_some o e is xs ys g = grow_same (FromEntry s from (is_extra extra o) e) (FromOcc s from extra o)
      (λ a h. (h.0, (h.1.0, subst (λ v. StandsInValue s a.to v h.1.0) (sym is) h.1.1, h.1.2)))
      (λ a h. (h.0, (h.1.0, subst (λ v. StandsInValue s a.to v h.1.0) is h.1.1, h.1.2))) xs ys g

  -- one more occurrence
  pub grow_occ : (os : List Occurrence) (k : ℕ) (d : Occurrence) → k < length os → (xs ys zs : List Arc) → Grows (FromShape s from extra (take k os)) xs ys →
      Grows (FromOcc s from extra (get_or os k d)) ys zs → Grows (FromShape s from extra (take (k + 1) os)) xs zs
  grow_occ os k d lt xs ys zs g h =
      grow_same _ _ to back xs zs (grow_join (FromShape s from extra (take k os)) (FromOcc s from extra (get_or os k d)) xs ys zs g h)
    where
      is : take (k + 1) os ≡ take k os ++ get_or os k d ∷ []
      is = ap (λ j. take j os) (let e : k + 1 ≡ suc k = omega arith in e) ∙ take-suc os k d lt

      to : (a : Arc) → FromShape s from extra (take k os) a ⊎ FromOcc s from extra (get_or os k d) a → FromShape s from extra (take (k + 1) os) a
      to a (inl (o, c, p, q)) = (o, subst (λ us. Contains us o) (sym is) (Contains-append_left (take k os) (get_or os k d ∷ []) o c), p, q)
      to a (inr p) = (get_or os k d, subst (λ us. Contains us (get_or os k d)) (sym is) (Contains-append_right (take k os) (get_or os k d ∷ []) (get_or os k d) (is_first (get_or os k d) [])), p.0, p.1)

      back : (a : Arc) → FromShape s from extra (take (k + 1) os) a → FromShape s from extra (take k os) a ⊎ FromOcc s from extra (get_or os k d) a
      back a (o, c, p, q) = elim (Contains-append_cases (take k os) (get_or os k d ∷ []) o (subst (λ us. Contains us o) is c)) [
        | inl old ↦ inl (o, old, p, q)
        | inr new ↦ inr (subst (λ u. FromOcc s from extra u a) (sym (in_one (get_or os k d) o new)) (p, q))
      ]
