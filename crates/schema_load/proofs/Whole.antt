-- Each part of documents names shape expressions only, and one follows each head.
use Rattle.std.proofs.Common.{◌≡◌, ℕ, zero, suc, ◌+◌, ◌<◌, ◌≤◌, List, [], ◌∷◌, ◌++◌, refl, sym, subst, arith, length, Some, true, false, inl, inr, ◌⊎◌}
use Rattle.std.specs.Prelude.{slice_get, Contains}
use Rattle.std.specs.List.{flat_map}
use Rattle.std.proofs.lemmas.List.{append_assoc, length-append}
use Rattle.lists.proofs.Members.{in_rest, not_in_none}
use Rattle.schema_documents.specs.Tree.{Declaration, Document, MaybeShapeExpr, MaybeTripleExpr, ShapeExpr, ShapeExprs, TripleBody, TripleExpr, TripleExprs, arc, conj, disj, each, include, more_exprs, more_triples, neg, no_expr, no_exprs, no_triple, no_triples, node, one, one_expr, one_triple, refer, shape, triple}
use Rattle.schema_load.specs.declared.part.Part.{Part}
use Rattle.schema_load.specs.declared.part.Part.TheVariants as Parts
use Rattle.schema_load.specs.declared.part.TriplePart.{TriplePart}
use Rattle.schema_load.specs.declared.part.TripleForm.{TripleForm}
use Rattle.schema_load.specs.declared.part.TripleForm.TheVariants.{Arc, Each, Include, One}
use Rattle.schema_load.specs.Graph.{FormLeadsTo, LeadsTo, Reaches}
use Rattle.schema_load.specs.Requirements.{HasOne, IsCircle, IsIncludeCircle, NoneIs}
use Rattle.schema_load.specs.Steps.{FormHolds, HoldTriples, HoldsTriple, IsTripleAt}
use Rattle.schema_load.proofs.Stuck.{IsLabelled, Steps, label_on_cycle}
use Rattle.schema_load.specs.Parts.{AreWhole, FormNames, IsAt, IsExprAt, Names, is_head}
use Rattle.schema_load.specs.Reading.{body_place, form_at, lay, lay_all, lay_body, lay_decls, lay_form, lay_start, lay_triple, lay_triples, lay_value, parts_of, places, root_start, size_of, size_of_start, size_of_triple, triple_places, value_place}
use Rattle.schema_load.proofs.Laid.{size_is, start_size, triple_size}

-- the members of a triple expression, and those of a part
abbrev pub FormInside : TripleForm → ℕ → Type 0
FormInside (Each ps) q = Contains ps q
FormInside (One ps) q = Contains ps q
FormInside (Arc a) q = ⊥
FormInside (Include l) q = ⊥

abbrev pub Inside : Part → ℕ → Type 0
Inside (Parts.And ps) q = Contains ps q
Inside (Parts.Or ps) q = Contains ps q
Inside (Parts.Not m) q = m ≡ q
Inside (Parts.Triple t) q = FormInside t.form q
Inside _ q = ⊥

places_low : (p : ℕ) (es : ShapeExprs) (q : ℕ) → Contains (places p es) q → p ≤ q
places_low p no_exprs q c = absurd (not_in_none q c)
places_low p (more_exprs e es) q c = elim (in_rest p (places (p + size_of e) es) q c) [
  | inl same ↦ omega arith
  | inr rest ↦ (let h = places_low (p + size_of e) es q rest in omega arith)
]

triples_low : (p : ℕ) (ts : TripleExprs) (q : ℕ) → Contains (triple_places p ts) q → p ≤ q
triples_low p no_triples q c = absurd (not_in_none q c)
triples_low p (more_triples t ts) q c = elim (in_rest p (triple_places (p + size_of_triple t) ts) q c) [
  | inl same ↦ omega arith
  | inr rest ↦ (let h = triples_low (p + size_of_triple t) ts q rest in omega arith)
]

form_low : (p : ℕ) (b : TripleBody) (q : ℕ) → FormInside (form_at p b) q → p < q
form_low p (each ts) q c = let h = triples_low (p + 1) ts q c in omega arith
form_low p (one ts) q c = let h = triples_low (p + 1) ts q c in omega arith
form_low p (arc inverse predicate value) q c = absurd c
form_low p (include l) q c = absurd c

module _ (whole : List Part) where
  -- the list stands in the whole from the place on
  abbrev pub Holds : ℕ → List Part → Type 0
  Holds p [] = Unit {0}
  Holds p (u ∷ us) = IsAt whole p u × Holds (p + 1) us

  -- what is asked of the part at a place
  abbrev pub Good : ℕ → Part → Type 0
  Good p u = ((q : ℕ) → Names u q → IsExprAt whole q) × (is_head u ≡ true → IsExprAt whole (p + 1)) × ((q : ℕ) → Inside u q → p < q) × ((q : ℕ) → HoldsTriple u q → IsTripleAt whole q)

  abbrev pub AreGood : ℕ → List Part → Type 0
  AreGood p [] = Unit {0}
  AreGood p (u ∷ us) = Good p u × AreGood (p + 1) us

  holds_left : (p : ℕ) (us vs : List Part) → Holds p (us ++ vs) → Holds p us
  holds_left p [] vs h = tt
  holds_left p (u ∷ us) vs (a, h) = (a, holds_left (p + 1) us vs h)

  holds_right : (p n : ℕ) (us vs : List Part) → length us ≡ n → Holds p (us ++ vs) → Holds (p + n) vs
  holds_right p n [] vs e h = subst (λ k. Holds k vs) (let q : p ≡ p + n = omega arith in q) h
  holds_right p zero (u ∷ us) vs e h = absurd (omega arith)
  holds_right p (suc n) (u ∷ us) vs e (a, h) = subst (λ k. Holds k vs) (let q : (p + 1) + n ≡ p + suc n = omega arith in q) (holds_right (p + 1) n us vs (omega arith) h)

  good_append : (p n : ℕ) (us vs : List Part) → length us ≡ n → AreGood p us → AreGood (p + n) vs → AreGood p (us ++ vs)
  good_append p n [] vs e g h = subst (λ k. AreGood k vs) (let q : p + n ≡ p = omega arith in q) h
  good_append p zero (u ∷ us) vs e g h = absurd (omega arith)
  good_append p (suc n) (u ∷ us) vs e (a, g) h = (a, good_append (p + 1) n us vs (omega arith) g (subst (λ k. AreGood k vs) (let q : p + suc n ≡ (p + 1) + n = omega arith in q) h))

  expr_here : (p : ℕ) (e : ShapeExpr) → Holds p (lay p e) → IsExprAt whole p
  expr_here p (conj es) (a, h) = (_, a, refl)
  expr_here p (disj es) (a, h) = (_, a, refl)
  expr_here p (neg e) (a, h) = (_, a, refl)
  expr_here p (node c) (a, h) = (_, a, refl)
  expr_here p (shape closed extra t) (a, h) = (_, a, refl)
  expr_here p (refer l) (a, h) = (_, a, refl)

  places_fine : (p : ℕ) (es : ShapeExprs) → Holds p (lay_all p es) → (q : ℕ) → Contains (places p es) q → IsExprAt whole q
  places_fine p no_exprs h q c = absurd (not_in_none q c)
  places_fine p (more_exprs e es) h q c = elim (in_rest p (places (p + size_of e) es) q c) [
    | inl same ↦ subst (λ n. IsExprAt whole n) same (expr_here p e (holds_left p (lay p e) (lay_all (p + size_of e) es) h))
    | inr rest ↦ places_fine (p + size_of e) es (holds_right p (size_of e) (lay p e) (lay_all (p + size_of e) es) (size_is p e) h) q rest
  ]

  value_fine : (p : ℕ) (v : MaybeShapeExpr) → Holds p (lay_value p v) → (q : ℕ) → value_place p v ≡ Some q → IsExprAt whole q
  value_fine p no_expr h q e = absurd (let bad : ⊥ = cc in bad)
  value_fine p (one_expr x) h q e = let same : p ≡ q = cc in subst (λ n. IsExprAt whole n) same (expr_here p x h)

  plain : (p : ℕ) → false ≡ true → IsExprAt whole (p + 1)
  plain p e = absurd (let bad : ⊥ = cc in bad)

  form_fine : (p : ℕ) (b : TripleBody) → Holds (p + 1) (lay_form (p + 1) b) → (q : ℕ) → FormNames (form_at p b) q → IsExprAt whole q
  form_fine p (each ts) h q n = absurd n
  form_fine p (one ts) h q n = absurd n
  form_fine p (arc inverse predicate value) h q n = value_fine (p + 1) value h q n
  form_fine p (include l) h q n = absurd n

  triple_here : (p : ℕ) (t : TripleExpr) → Holds p (lay_triple p t) → IsTripleAt whole p
  triple_here p (triple label min max b) (a, h) = (_, a)

  triples_fine : (p : ℕ) (ts : TripleExprs) → Holds p (lay_triples p ts) → (q : ℕ) → Contains (triple_places p ts) q → IsTripleAt whole q
  triples_fine p no_triples h q c = absurd (not_in_none q c)
  triples_fine p (more_triples t ts) h q c = elim (in_rest p (triple_places (p + size_of_triple t) ts) q c) [
    | inl same ↦ subst (λ n. IsTripleAt whole n) same (triple_here p t (holds_left p (lay_triple p t) (lay_triples (p + size_of_triple t) ts) h))
    | inr rest ↦ triples_fine (p + size_of_triple t) ts (holds_right p (size_of_triple t) (lay_triple p t) (lay_triples (p + size_of_triple t) ts) (triple_size p t) h) q rest
  ]

  body_fine : (p : ℕ) (t : MaybeTripleExpr) → Holds p (lay_body p t) → (q : ℕ) → body_place p t ≡ Some q → IsTripleAt whole q
  body_fine p no_triple h q e = absurd (let bad : ⊥ = cc in bad)
  body_fine p (one_triple t) h q e = let same : p ≡ q = cc in subst (λ n. IsTripleAt whole n) same (triple_here p t h)

  inside_fine : (p : ℕ) (b : TripleBody) → Holds (p + 1) (lay_form (p + 1) b) → (q : ℕ) → FormHolds (form_at p b) q → IsTripleAt whole q
  inside_fine p (each ts) h q c = triples_fine (p + 1) ts h q c
  inside_fine p (one ts) h q c = triples_fine (p + 1) ts h q c
  inside_fine p (arc inverse predicate value) h q c = absurd c
  inside_fine p (include l) h q c = absurd c

  mutual
    good : (p : ℕ) (e : ShapeExpr) → Holds p (lay p e) → AreGood p (lay p e)
    good p (conj es) (a, h) = ((λ q c. places_fine (p + 1) es h q c, λ b. plain p b, λ q c. (let low = places_low (p + 1) es q c in omega arith), λ q n. absurd n), all_good (p + 1) es h)
    good p (disj es) (a, h) = ((λ q c. places_fine (p + 1) es h q c, λ b. plain p b, λ q c. (let low = places_low (p + 1) es q c in omega arith), λ q n. absurd n), all_good (p + 1) es h)
    good p (neg e) (a, h) = ((λ q same. subst (λ n. IsExprAt whole n) same (expr_here (p + 1) e h), λ b. plain p b, λ q same. omega arith, λ q n. absurd n), good (p + 1) e h)
    good p (node c) (a, h) = ((λ q n. absurd n, λ b. plain p b, λ q n. absurd n, λ q n. absurd n), tt)
    good p (shape closed extra t) (a, h) = ((λ q n. absurd n, λ b. plain p b, λ q n. absurd n, λ q e. body_fine (p + 1) t h q e), body_good (p + 1) t h)
    good p (refer l) (a, h) = ((λ q n. absurd n, λ b. plain p b, λ q n. absurd n, λ q n. absurd n), tt)

    all_good : (p : ℕ) (es : ShapeExprs) → Holds p (lay_all p es) → AreGood p (lay_all p es)
    all_good p no_exprs h = tt
    all_good p (more_exprs e es) h =
        good_append p (size_of e) (lay p e) (lay_all (p + size_of e) es) (size_is p e) (good p e (holds_left p (lay p e) (lay_all (p + size_of e) es) h))
        (all_good (p + size_of e) es (holds_right p (size_of e) (lay p e) (lay_all (p + size_of e) es) (size_is p e) h))

    value_good : (p : ℕ) (v : MaybeShapeExpr) → Holds p (lay_value p v) → AreGood p (lay_value p v)
    value_good p no_expr h = tt
    value_good p (one_expr e) h = good p e h

    body_good : (p : ℕ) (t : MaybeTripleExpr) → Holds p (lay_body p t) → AreGood p (lay_body p t)
    body_good p no_triple h = tt
    body_good p (one_triple t) h = triple_good p t h

    triple_good : (p : ℕ) (t : TripleExpr) → Holds p (lay_triple p t) → AreGood p (lay_triple p t)
    triple_good p (triple label min max b) (a, h) = ((λ q n. form_fine p b h q n, λ e. plain p e, λ q n. form_low p b q n, λ q n. inside_fine p b h q n), form_good (p + 1) b h)

    triples_good : (p : ℕ) (ts : TripleExprs) → Holds p (lay_triples p ts) → AreGood p (lay_triples p ts)
    triples_good p no_triples h = tt
    triples_good p (more_triples t ts) h =
        good_append p (size_of_triple t) (lay_triple p t) (lay_triples (p + size_of_triple t) ts) (triple_size p t)
        (triple_good p t (holds_left p (lay_triple p t) (lay_triples (p + size_of_triple t) ts) h))
        (triples_good (p + size_of_triple t) ts (holds_right p (size_of_triple t) (lay_triple p t) (lay_triples (p + size_of_triple t) ts) (triple_size p t) h))

    form_good : (p : ℕ) (b : TripleBody) → Holds p (lay_form p b) → AreGood p (lay_form p b)
    form_good p (each ts) h = triples_good p ts h
    form_good p (one ts) h = triples_good p ts h
    form_good p (arc inverse predicate value) h = value_good p value h
    form_good p (include l) h = tt

  start_good : (v : MaybeShapeExpr) → Holds 0 (lay_start v) → AreGood 0 (lay_start v)
  start_good no_expr h = tt
  start_good (one_expr e) (a, h) = ((λ q n. absurd n, λ b. expr_here 1 e h, λ q n. absurd n, λ q n. absurd n), good 1 e h)

  decls_good : (p : ℕ) (ds : List Declaration) → Holds p (lay_decls p ds) → AreGood p (lay_decls p ds)
  decls_good p [] h = tt
  decls_good p (d ∷ ds) (a, h) =
      let mine : Holds (p + 1) (lay (p + 1) d.expr) = holds_left (p + 1) (lay (p + 1) d.expr) (lay_decls (p + (1 + size_of d.expr)) ds) h in
      let next : p + (1 + size_of d.expr) ≡ (p + 1) + size_of d.expr = omega arith in
      let others : Holds (p + (1 + size_of d.expr)) (lay_decls (p + (1 + size_of d.expr)) ds) =
      subst (λ k. Holds k (lay_decls (p + (1 + size_of d.expr)) ds)) (sym next)
      (holds_right (p + 1) (size_of d.expr) (lay (p + 1) d.expr) (lay_decls (p + (1 + size_of d.expr)) ds) (size_is (p + 1) d.expr) h) in (
        (λ q n. absurd n, λ b. expr_here (p + 1) d.expr mine, λ q n. absurd n, λ q n. absurd n),
        good_append (p + 1) (size_of d.expr) (lay (p + 1) d.expr) (lay_decls (p + (1 + size_of d.expr)) ds) (size_is (p + 1) d.expr) (good (p + 1) d.expr mine)
            (subst (λ k. AreGood k (lay_decls (p + (1 + size_of d.expr)) ds)) next (decls_good (p + (1 + size_of d.expr)) ds others)),
      )

  good_at : (p : ℕ) (us : List Part) → AreGood p us → (i : ℕ) (x : Part) → slice_get us i ≡ Some x → Good (p + i) x
  good_at p [] g i x e = absurd (let bad : ⊥ = cc in bad)
  good_at p (u ∷ us) (a, g) zero x e = let same : u ≡ x = cc in subst (λ v. Good (p + 0) v) same (subst (λ k. Good k u) (let q : p ≡ p + 0 = omega arith in q) a)
  good_at p (u ∷ us) (a, g) (suc i) x e = subst (λ k. Good k x) (let q : (p + 1) + i ≡ p + suc i = omega arith in q) (good_at (p + 1) us g i x e)

-- the part behind others
at_end : (before us : List Part) (u : Part) → slice_get (before ++ u ∷ us) (length before) ≡ Some u
at_end [] us u = refl
at_end (x ∷ xs) us u = at_end xs us u

holds_behind : (before us : List Part) (n : ℕ) → length before ≡ n → Holds (before ++ us) n us
holds_behind before [] n e = tt
holds_behind before (u ∷ us) n e = (
  subst (λ k. IsAt (before ++ u ∷ us) k u) e (at_end before us u),
  subst (λ vs. Holds vs (n + 1) us) (append_assoc before (u ∷ []) us) (holds_behind (before ++ u ∷ []) us (n + 1) (let h = length-append before (u ∷ []) in omega arith)),
)

are_good : (docs : List Document) → AreGood (parts_of docs) 0 (parts_of docs)
are_good docs =
    good_append (first ++ rest) 0 (size_of_start (root_start docs)) first rest (start_size (root_start docs))
    (start_good (first ++ rest) (root_start docs) (holds_left (first ++ rest) 0 first rest held))
    (subst (λ k. AreGood (first ++ rest) k rest) (let q : size_of_start (root_start docs) ≡ 0 + size_of_start (root_start docs) = omega arith in q)
    (decls_good (first ++ rest) (size_of_start (root_start docs)) (flat_map (λ d. d.decls) docs)
    (holds_behind first rest (size_of_start (root_start docs)) (start_size (root_start docs)))))
  where
    first : List Part
    first = lay_start (root_start docs)

    rest : List Part
    rest = lay_decls (size_of_start (root_start docs)) (flat_map (λ d. d.decls) docs)

    held : Holds (first ++ rest) 0 (first ++ rest)
    held = holds_behind [] (first ++ rest) 0 refl

pub are_whole : (docs : List Document) → AreWhole (parts_of docs)
are_whole docs = record {
  members = λ p q x at n. (good_at (parts_of docs) 0 (parts_of docs) (are_good docs) p x at).0 q n;
  behind = λ p x at h. subst (λ k. IsExprAt (parts_of docs) (k + 1)) (let q : 0 + p ≡ p = omega arith in q) ((good_at (parts_of docs) 0 (parts_of docs) (are_good docs) p x at).1 h);
}

-- the body of each Shape and the members of each triple expression are triple expressions
pub hold_triples : (docs : List Document) → HoldTriples (parts_of docs)
hold_triples docs = λ p q x at n. (good_at (parts_of docs) 0 (parts_of docs) (are_good docs) p x at).3 q n

-- a member stands behind the part that has it
pub member_behind : (docs : List Document) (p q : ℕ) (x : Part) → IsAt (parts_of docs) p x → Inside x q → p < q
member_behind docs p q x at inside = let h = (good_at (parts_of docs) 0 (parts_of docs) (are_good docs) p x at).2 q inside in omega arith

-- a part leads to one behind it, or to one that has a label
pub leads_on : (docs : List Document) (p q : ℕ) → Steps (parts_of docs) p q → (p < q) ⊎ IsLabelled (parts_of docs) q
leads_on docs p q (x, at, leads) = go x at leads
  where
    form_goes : (t : TriplePart) (f : TripleForm) → t.form ≡ f → IsAt (parts_of docs) p (Parts.Triple t) → FormLeadsTo (parts_of docs) f q → (p < q) ⊎ IsLabelled (parts_of docs) q
    form_goes t (Each ps) e at c = inl (member_behind docs p q (Parts.Triple t) at (subst (λ z. FormInside z q) (sym e) c))
    form_goes t (One ps) e at c = inl (member_behind docs p q (Parts.Triple t) at (subst (λ z. FormInside z q) (sym e) c))
    form_goes t (Arc a) e at c = absurd c
    form_goes t (Include l) e at c = inr (inr (l, c))

    go : (x : Part) → IsAt (parts_of docs) p x → LeadsTo (parts_of docs) x q → (p < q) ⊎ IsLabelled (parts_of docs) q
    go (Parts.And ps) at c = inl (member_behind docs p q (Parts.And ps) at c)
    go (Parts.Or ps) at c = inl (member_behind docs p q (Parts.Or ps) at c)
    go (Parts.Not m) at c = inl (member_behind docs p q (Parts.Not m) at c)
    go (Parts.Ref l) at c = inr (inl (l, c))
    go (Parts.Triple t) at c = form_goes t t.form refl at c
    go Parts.Start at c = absurd c
    go (Parts.Declares l) at c = absurd c
    go (Parts.Node k) at c = absurd c
    go (Parts.Shape h) at c = absurd c

-- without a circle among labelled expressions no part leads to itself
pub no_cycle : (docs : List Document) → NoneIs (HasOne (IsCircle (parts_of docs))) → NoneIs (HasOne (IsIncludeCircle (parts_of docs))) → (q : ℕ) → ¬ Reaches (parts_of docs) q q
no_cycle docs shapes triples q cycle = go (label_on_cycle (parts_of docs) (leads_on docs) q cycle)
  where
    go : ((m : ℕ) × IsLabelled (parts_of docs) m × Reaches (parts_of docs) m m) → ⊥
    go (m, inl (l, (d, at, e)), round) = shapes d (l, (at, subst (λ z. Reaches (parts_of docs) z z) e round))
    go (m, inr (l, named), round) = triples m (l, (named, round))
