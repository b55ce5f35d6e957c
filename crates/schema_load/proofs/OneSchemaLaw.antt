-- Documents stand for one schema at most: what the numbers and the parts determine.
use Rattle.std.proofs.Common.{◌≡◌, ℕ, zero, suc, ◌+◌, ◌<◌, ◌≤◌, List, [], ◌∷◌, ◌++◌, refl, sym, ap, subst, arith, length, map, ◌∙◌, Option, Some, None, true, get_or}
use Rattle.std.specs.Prelude.{slice_get, nat_eq, Contains}
use Rattle.std.specs.List.{AllZip, flat_map}
use Rattle.schema_load.specs.declared.part.ShapePart.{ShapePart}
use Rattle.std.proofs.Common.{inl, inr}
use Rattle.std.proofs.lemmas.Bool.{cases_eq, cases_lt, eq-eqb}
use Rattle.std.proofs.lemmas.Option.{slice_get-get_or, slice_get_within}
use Rattle.std.proofs.lemmas.List.Elements.{Contains-append_left, Contains-append_right}
use Rattle.rdf_terms.specs.declared.terms.Term.{Term}
use Rattle.rdf_terms.specs.declared.terms.TermId.{TermId}
use Rattle.lists.specs.Distinct.{AreDistinct}
use Rattle.tally.specs.Plan.{Plan, Plans, each, more_plans, one, sym as symbol}
use Rattle.schema_documents.specs.declared.label.Label.{Label}
use Rattle.schema_documents.specs.Tree.{Document, MaybeShapeExpr, no_expr, one_expr}
use Rattle.schema_tree.specs.declared.schema.Expr.{Expr}
use Rattle.schema_tree.specs.declared.schema.Expr.TheVariants as Exprs
use Rattle.schema_tree.specs.declared.schema.ExprId.{ExprId}
use Rattle.schema_tree.specs.declared.schema.Occurrence.{Occurrence}
use Rattle.schema_tree.specs.declared.schema.Schema.{Schema}
use Rattle.schema_tree.specs.declared.schema.Shape.{Shape}
use Rattle.lists.proofs.Filters.{filter_has}
use Rattle.schema_load.specs.declared.part.Part.{Part}
use Rattle.schema_load.specs.declared.part.Part.TheVariants as Parts
use Rattle.schema_load.specs.declared.part.TriplePart.{TriplePart}
use Rattle.schema_load.specs.declared.part.ArcPart.{ArcPart}
use Rattle.schema_load.specs.declared.part.TripleForm.{TripleForm}
use Rattle.schema_load.specs.declared.part.TripleForm.TheVariants.{Arc, Each, Include, One}
use Rattle.schema_load.specs.Parts.{AreWhole, FormNames, IsAt, IsDeclared, IsExprAt, IsNamed, declarations, is_entry, is_expr, places_where, shape_places}
use Rattle.schema_load.specs.Graph.{weight, Resolves, alone, itself, through}
use Rattle.schema_load.specs.Requirements.{HasOne, IsTwice, NoneIs}
use Rattle.schema_load.specs.Stands.{IsBody, IsEntryAt, IsEntryOf, IsOccurrence, IsShapeAt, IsStart, IsTerm, IsValue, Stands, UnfoldAll, Unfolds, arc, each_of, entry_places, included, more, none, of_depth, one_of, times}
use Rattle.schema_load.specs.Reading.{lay_decls, lay_start, parts_of, root_start, size_of_start}
use Rattle.schema_load.proofs.One.{map_alike, one_at, one_depth, place_found, place_within, sift_alike, zip_one}

abbrev pub pair_with : Label → ExprId → Label × ExprId
pair_with l i = (l, i)

abbrev pub pair_of : (ℕ → ExprId) → Label × ℕ → Label × ExprId
pair_of number d = (d.0, number d.1)

-- ---- the order of the entries

module _ (parts : List Part) (d e : List ℕ) (same : (p : ℕ) → p < length parts → get_or d p 0 ≡ get_or e p 0) where
  one_level : (n : ℕ) → of_depth parts d n ≡ of_depth parts e n
  one_level n = sift_alike (λ p. nat_eq (get_or d p 0) n) (λ p. nat_eq (get_or e p 0) n) (places_where is_entry 0 parts)
      (λ p c. ap (λ k. nat_eq k n) (same p (let h = place_within is_entry 0 parts p c in omega arith)))

  pub one_order : (n : ℕ) → entry_places parts d n ≡ entry_places parts e n
  unfolding entry_places
  one_order zero = refl
  one_order (suc n) = ap (λ us. us ++ of_depth parts d (suc n)) (one_order n) ∙ ap (λ us. entry_places parts e n ++ us) (one_level (suc n))

-- an entry of a depth up to n stands among those up to n
pub in_order : (parts : List Part) (d : List ℕ) (n p : ℕ) (x : Part) → IsAt parts p x → is_entry x ≡ true → 1 ≤ get_or d p 0 → get_or d p 0 ≤ n → Contains (entry_places parts d n) p
unfolding entry_places
in_order parts d zero p x at entry low high = absurd (omega arith)
in_order parts d (suc n) p x at entry low high = elim (cases_eq (get_or d p 0) (suc n)) [
  | inl here ↦ Contains-append_right (entry_places parts d n) (of_depth parts d (suc n)) p
      (filter_has (λ q. nat_eq (get_or d q 0) (suc n)) (places_where is_entry 0 parts) p
      (subst (λ q. Contains (places_where is_entry 0 parts) q) (let h : 0 + p ≡ p = omega arith in h) (place_found is_entry 0 parts p x at entry)) (eq-eqb (get_or d p 0) (suc n) here))
  | inr apart ↦ Contains-append_left (entry_places parts d n) (of_depth parts d (suc n)) p (in_order parts d n p x at entry low (omega (arith, apart)))
]

-- ---- numbers

pub heavy : (u : Part) → is_entry u ≡ true → weight u ≡ 1
heavy Parts.Start e = absurd (let bad : ⊥ = cc in bad)
heavy (Parts.Declares l) e = absurd (let bad : ⊥ = cc in bad)
heavy (Parts.And ps) e = refl
heavy (Parts.Or ps) e = refl
heavy (Parts.Not q) e = refl
heavy (Parts.Node c) e = refl
heavy (Parts.Shape s) e = refl
heavy (Parts.Ref l) e = absurd (let bad : ⊥ = cc in bad)
heavy (Parts.Triple t) e = absurd (let bad : ⊥ = cc in bad)

-- no label is given twice
module _ (parts : List Part) (once : NoneIs (HasOne (IsTwice parts))) where
  pub one_target : (l : Label) (p q : ℕ) → IsDeclared parts l p → IsDeclared parts l q → p ≡ q
  one_target l p q (i, a, e) (j, b, f) = elim (cases_eq i j) [
    | inl same ↦ omega arith
    | inr apart ↦ absurd (once i (l, inl (record { here = a; other = j; there = b; apart = apart })))
  ]

  pub one_named : (l : Label) (p q : ℕ) → IsNamed parts l p → IsNamed parts l q → p ≡ q
  one_named l p q a b = elim (cases_eq p q) [
    | inl same ↦ same
    | inr apart ↦ absurd (once p (l, inr (record { here = a; other = q; there = b; apart = apart })))
  ]

  -- a reference leads to one expression
  pub one_end : (p q r : ℕ) → Resolves parts p q → Resolves parts p r → q ≡ r
  one_end p _ _ (itself {x = u} at e) (itself at2 e2) = refl
  one_end p _ r (itself {x = u} at e) (through {l = l} at2 d rest) = let same : u ≡ Parts.Ref l = one_at parts p u (Parts.Ref l) at at2 in absurd (let bad : ⊥ = cc in bad)
  one_end p q _ (through {l = l} at d rest) (itself {x = u} at2 e2) = let same : u ≡ Parts.Ref l = one_at parts p u (Parts.Ref l) at2 at in absurd (let bad : ⊥ = cc in bad)
  one_end p q r (through {q = m} {l = l} at d rest) (through {q = n} {l = k} at2 d2 rest2) =
      let same : Parts.Ref l ≡ Parts.Ref k = one_at parts p (Parts.Ref l) (Parts.Ref k) at at2 in
      let label : k ≡ l = cc in
      let target : n ≡ m = one_target l n m (subst (λ z. IsDeclared parts z n) label d2) d in
      one_end m q r rest (subst (λ z. Resolves parts z r) target rest2)

pub ends_at_entry : (parts : List Part) (p q : ℕ) → Resolves parts p q → (u : Part) × IsAt parts q u × (is_entry u ≡ true)
ends_at_entry parts p _ (itself {x = u} at e) = (u, at, e)
ends_at_entry parts p q (through at d rest) = ends_at_entry parts _ q rest

same_number : (i j : ExprId) → i.0 ≡ j.0 → i ≡ j
same_number i j e = ap (λ k. let z : ExprId = record { 0 = k } in z) e

module _ (docs : List Document) (terms : List Term) (a b : Schema) (distinct : AreDistinct terms) (whole : AreWhole (parts_of docs)) (x : Stands docs terms a) (y : Stands docs terms b) where
  abbrev parts : List Part
  parts = parts_of docs

  depths : (p : ℕ) → p < length parts → get_or x.depths p 0 ≡ get_or y.depths p 0
  depths p lt = one_depth parts p (get_or x.depths p 0) (get_or y.depths p 0) (x.deep p lt) (y.deep p lt)

  order : entry_places parts x.depths 256 ≡ entry_places parts y.depths 256
  order = one_order parts x.depths y.depths depths 256

  pub entry_number : (p : ℕ) (u : Part) → IsAt parts p u → is_entry u ≡ true → x.number p ≡ y.number p
  entry_number p u at entry =
      let lt : p < length parts = slice_get_within parts p u at in
      let deep = x.deep p lt in
      let low : 1 ≤ get_or x.depths p 0 = (let h = deep.no_deeper (weight u) (alone at) in let k = heavy u entry in omega arith) in
      let high : get_or x.depths p 0 ≤ 256 = elim (cases_lt 256 (get_or x.depths p 0)) [
        | inl above ↦ absurd (x.meets.not_deep p (get_or x.depths p 0, deep.so_deep, above))
        | inr le ↦ omega arith
      ] in
      let (i, inside, is) = in_order parts x.depths 256 p u at entry low high in
      let found : slice_get (entry_places parts x.depths 256) i ≡ Some p = slice_get-get_or (entry_places parts x.depths 256) i p inside ∙ ap Some is in
      same_number (x.number p) (y.number p) (x.numbered i p found ∙ sym (y.numbered i p (subst (λ us. slice_get us i ≡ Some p) order found)))

  ref_number : (p : ℕ) (l : Label) → IsAt parts p (Parts.Ref l) → x.number p ≡ y.number p
  ref_number p l at =
      let (q, leads, e) = x.referred p l at in
      let (r, leads2, f) = y.referred p l at in
      let same : q ≡ r = one_end parts x.meets.labels_once p q r leads leads2 in
      let (u, here, entry) = ends_at_entry parts p q leads in
      e ∙ (entry_number q u here entry ∙ (ap y.number same ∙ sym f))

  pub number : (p : ℕ) → IsExprAt parts p → x.number p ≡ y.number p
  number p (u, at, expr) = go u at expr
    where
      go : (u : Part) → IsAt parts p u → is_expr u ≡ true → x.number p ≡ y.number p
      go (Parts.Ref l) at e = ref_number p l at
      go Parts.Start at e = absurd (let bad : ⊥ = cc in bad)
      go (Parts.Declares l) at e = absurd (let bad : ⊥ = cc in bad)
      go (Parts.And ps) at e = entry_number p _ at e
      go (Parts.Or ps) at e = entry_number p _ at e
      go (Parts.Not q) at e = entry_number p _ at e
      go (Parts.Node c) at e = entry_number p _ at e
      go (Parts.Shape s) at e = entry_number p _ at e
      go (Parts.Triple t) at e = absurd (let bad : ⊥ = cc in bad)

  -- ---- entries

  one_entry : (p : ℕ) (u : Part) (v w : Expr) → IsAt parts p u → IsEntryOf terms parts x.number p u v → IsEntryOf terms parts y.number p u w → v ≡ w
  one_entry p (Parts.And ps) v w at e f = e ∙ (ap Exprs.And (map_alike x.number y.number ps (λ q c. number q (whole.members p q (Parts.And ps) at c))) ∙ sym f)
  one_entry p (Parts.Or ps) v w at e f = e ∙ (ap Exprs.Or (map_alike x.number y.number ps (λ q c. number q (whole.members p q (Parts.Or ps) at c))) ∙ sym f)
  one_entry p (Parts.Not q) v w at e f = e ∙ (ap Exprs.Not (number q (whole.members p q (Parts.Not q) at refl)) ∙ sym f)
  one_entry p (Parts.Node c) v w at e f = e ∙ sym f
  one_entry p (Parts.Shape s) v w at e f = e ∙ sym f
  one_entry p Parts.Start v w at e f = absurd e
  one_entry p (Parts.Declares l) v w at e f = absurd e
  one_entry p (Parts.Ref l) v w at e f = absurd e
  one_entry p (Parts.Triple t) v w at e f = absurd e

  pub exprs : a.exprs ≡ b.exprs
  exprs = zip_one (IsEntryAt terms parts x.number) (IsEntryAt terms parts y.number) (entry_places parts x.depths 256) a.exprs b.exprs
      (λ p v w c (u, at, e) (t, at2, f). one_entry p u v w at e (subst (λ z. IsEntryOf terms parts y.number p z w) (one_at parts p t u at2 at) f))
      x.exprs (subst (λ us. AllZip (IsEntryAt terms parts y.number) us b.exprs) (sym order) y.exprs)

  -- ---- occurrences

  one_term : (iri : List ℕ) (i j : TermId) → IsTerm terms iri i → IsTerm terms iri j → i ≡ j
  one_term iri i j e f = let n = distinct i.0 j.0 _ e f in ap (λ k. let z : TermId = record { 0 = k } in z) n

  one_value : (v : Option ℕ) (i j : Option ExprId) → ((q : ℕ) → v ≡ Some q → IsExprAt parts q) → IsValue terms parts x.number v i → IsValue terms parts y.number v j → i ≡ j
  one_value None i j there e f = e ∙ sym f
  one_value (Some q) i j there e f = e ∙ (ap Some (number q (there q refl)) ∙ sym f)

  one_occurrence : (p : ℕ) (t : TriplePart) (c : ArcPart) (i j : Occurrence) → IsAt parts p (Parts.Triple t) → t.form ≡ Arc c →
      IsOccurrence terms parts x.number c i → IsOccurrence terms parts y.number c j → i ≡ j
  one_occurrence p t c i j at form e f = λ k. record {
    inverse = (e.inverse ∙ sym f.inverse) k;
    predicate = one_term c.predicate i.predicate j.predicate e.predicate f.predicate k;
    value = one_value c.value i.value j.value (λ q h. whole.members p q (Parts.Triple t) at (subst (λ z. FormNames z q) (sym form) h)) e.value f.value k;
  }

  -- ---- triple expressions

  -- the form of the one part at a place
  one_form : (p : ℕ) (t u : TriplePart) (f g : TripleForm) → IsAt parts p (Parts.Triple t) → IsAt parts p (Parts.Triple u) → t.form ≡ f → u.form ≡ g → (t ≡ u) × (f ≡ g)
  one_form p t u f g at here e h =
      let whole_one : Parts.Triple t ≡ Parts.Triple u = one_at parts p (Parts.Triple t) (Parts.Triple u) at here in
      let same : t ≡ u = cc in
      (same, sym e ∙ (ap (λ (z : TriplePart). z.form) same ∙ h))

  mutual
    one_unfolding : (p k : ℕ) (m n : Plan) (i j : List Occurrence) → Unfolds terms parts x.number p k m i → Unfolds terms parts y.number p k n j → (m ≡ n) × (i ≡ j)
    one_unfolding p k _ _ _ _ (arc {t = t} {a = c} {o = o} at e oc) (arc {t = u} {a = d} {o = q} here h od) =
        let (same, form) = one_form p t u (Arc c) (Arc d) at here e h in
        let arcs : d ≡ c = cc in
        (ap (λ z. times z.min z.max (symbol k)) same, ap (λ z. z ∷ []) (one_occurrence p t c o q at e oc (subst (λ z. IsOccurrence terms parts y.number z q) arcs od)))
    one_unfolding p k _ _ _ _ (arc {t = t} {a = c} at e oc) (each_of {t = u} {ps = ps} here h all) = let (same, form) = one_form p t u (Arc c) (Each ps) at here e h in absurd (let bad : ⊥ = cc in bad)
    one_unfolding p k _ _ _ _ (arc {t = t} {a = c} at e oc) (one_of {t = u} {ps = ps} here h all) = let (same, form) = one_form p t u (Arc c) (One ps) at here e h in absurd (let bad : ⊥ = cc in bad)
    one_unfolding p k _ _ _ _ (arc {t = t} {a = c} at e oc) (included {t = u} {l = l} here h d rest) = let (same, form) = one_form p t u (Arc c)
        (Include l) at here e h in absurd (let bad : ⊥ = cc in bad)
    one_unfolding p k _ _ i j (each_of {t = t} {ps = ps} {plans = us} at e all) (each_of {t = u} {ps = qs} {plans = ws} here h rest) =
        let (same, form) = one_form p t u (Each ps) (Each qs) at here e h in
        let members : qs ≡ ps = cc in
        let (plans, occs) = one_unfold_all ps k us ws i j all (subst (λ z. UnfoldAll terms parts y.number z k ws j) members rest) in
        (ap (λ z. times z.min z.max (each us)) same ∙ ap (λ z. times u.min u.max (each z)) plans, occs)
    one_unfolding p k _ _ _ _ (each_of {t = t} {ps = ps} at e all) (arc {t = u} {a = c} here h oc) = let (same, form) = one_form p t u (Each ps) (Arc c) at here e h in absurd (let bad : ⊥ = cc in bad)
    one_unfolding p k _ _ _ _ (each_of {t = t} {ps = ps} at e all) (one_of {t = u} {ps = qs} here h rest) = let (same, form) = one_form p t u (Each ps)
        (One qs) at here e h in absurd (let bad : ⊥ = cc in bad)
    one_unfolding p k _ _ _ _ (each_of {t = t} {ps = ps} at e all) (included {t = u} {l = l} here h d rest) = let (same, form) = one_form p t u (Each ps)
        (Include l) at here e h in absurd (let bad : ⊥ = cc in bad)
    one_unfolding p k _ _ i j (one_of {t = t} {ps = ps} {plans = us} at e all) (one_of {t = u} {ps = qs} {plans = ws} here h rest) =
        let (same, form) = one_form p t u (One ps) (One qs) at here e h in
        let members : qs ≡ ps = cc in
        let (plans, occs) = one_unfold_all ps k us ws i j all (subst (λ z. UnfoldAll terms parts y.number z k ws j) members rest) in
        (ap (λ z. times z.min z.max (one us)) same ∙ ap (λ z. times u.min u.max (one z)) plans, occs)
    one_unfolding p k _ _ _ _ (one_of {t = t} {ps = ps} at e all) (arc {t = u} {a = c} here h oc) = let (same, form) = one_form p t u (One ps) (Arc c) at here e h in absurd (let bad : ⊥ = cc in bad)
    one_unfolding p k _ _ _ _ (one_of {t = t} {ps = ps} at e all) (each_of {t = u} {ps = qs} here h rest) = let (same, form) = one_form p t u (One ps)
        (Each qs) at here e h in absurd (let bad : ⊥ = cc in bad)
    one_unfolding p k _ _ _ _ (one_of {t = t} {ps = ps} at e all) (included {t = u} {l = l} here h d rest) = let (same, form) = one_form p t u (One ps)
        (Include l) at here e h in absurd (let bad : ⊥ = cc in bad)
    one_unfolding p k _ _ i j (included {q = q} {t = t} {l = l} {plan = us} at e d rest) (included {q = r} {t = u} {l = m} {plan = ws} here h f others) =
        let (same, form) = one_form p t u (Include l) (Include m) at here e h in
        let label : m ≡ l = cc in
        let target : r ≡ q = one_named parts x.meets.labels_once l r q (subst (λ z. IsNamed parts z r) label f) d in
        let (plans, occs) = one_unfolding q k us ws i j rest (subst (λ z. Unfolds terms parts y.number z k ws j) target others) in
        (ap (λ z. times z.min z.max us) same ∙ ap (λ z. times u.min u.max z) plans, occs)
    one_unfolding p k _ _ _ _ (included {t = t} {l = l} at e d rest) (arc {t = u} {a = c} here h oc) = let (same, form) = one_form p t u (Include l)
        (Arc c) at here e h in absurd (let bad : ⊥ = cc in bad)
    one_unfolding p k _ _ _ _ (included {t = t} {l = l} at e d rest) (each_of {t = u} {ps = qs} here h all) = let (same, form) = one_form p t u (Include l)
        (Each qs) at here e h in absurd (let bad : ⊥ = cc in bad)
    one_unfolding p k _ _ _ _ (included {t = t} {l = l} at e d rest) (one_of {t = u} {ps = qs} here h all) = let (same, form) = one_form p t u (Include l)
        (One qs) at here e h in absurd (let bad : ⊥ = cc in bad)

    one_unfold_all : (ps : List ℕ) (k : ℕ) (m n : Plans) (i j : List Occurrence) → UnfoldAll terms parts x.number ps k m i → UnfoldAll terms parts y.number ps k n j → (m ≡ n) × (i ≡ j)
    one_unfold_all [] k _ _ _ _ none none = (refl, refl)
    one_unfold_all (p ∷ ps) k _ _ _ _ (more {plan = m} {plans = ms} {occs = i} {rest = is} first rest) (more {plan = n} {plans = ns} {occs = j} {rest = js} here others) =
        let (plan, occs) = one_unfolding p k m n i j first here in
        let (plans, all) = one_unfold_all ps (k + length i) ms ns is js rest (subst (λ z. UnfoldAll terms parts y.number ps (k + length z) ns js) (sym occs) others) in
        (ap (λ z. more_plans z ms) plan ∙ ap (λ z. more_plans n z) plans, ap (λ z. z ++ is) occs ∙ ap (λ z. j ++ z) all)

  one_body : (q : Option ℕ) (c d : Option Plan) (i j : List Occurrence) → IsBody terms parts x.number q c i → IsBody terms parts y.number q d j → (c ≡ d) × (i ≡ j)
  one_body None None None i j e f = (refl, e ∙ sym f)
  one_body None None (Some d) i j e f = absurd f
  one_body None (Some c) d i j e f = absurd e
  one_body (Some q) None d i j e f = absurd e
  one_body (Some q) (Some c) None i j e f = absurd f
  one_body (Some q) (Some c) (Some d) i j e f = let (plans, occs) = one_unfolding q 0 c d i j e f in (ap Some plans, occs)

  one_shape : (p : ℕ) (v w : Shape) → IsShapeAt terms parts x.number p v → IsShapeAt terms parts y.number p w → v ≡ w
  one_shape p v w e f = λ i. record { closed = closed i; extra = extra i; body = bodies.0 i; occs = bodies.1 i }
    where
      same : e.head ≡ f.head
      same = let h : Parts.Shape e.head ≡ Parts.Shape f.head = one_at parts p (Parts.Shape e.head) (Parts.Shape f.head) e.here f.here in cc

      closed : v.closed ≡ w.closed
      closed = e.closed ∙ (ap (λ (z : ShapePart). z.closed) same ∙ sym f.closed)

      extra : v.extra ≡ w.extra
      extra = zip_one (IsTerm terms)
          (IsTerm terms) e.head.extra v.extra w.extra (λ iri i j c g h. one_term iri i j g h) e.extra (subst (λ (z : ShapePart). AllZip (IsTerm terms) z.extra w.extra) (sym same) f.extra)

      bodies : (v.body ≡ w.body) × (v.occs ≡ w.occs)
      bodies = one_body e.head.body v.body w.body v.occs w.occs e.body (subst (λ (z : ShapePart). IsBody terms parts y.number z.body w.body w.occs) (sym same) f.body)

  pub shapes : a.shapes ≡ b.shapes
  shapes = zip_one (IsShapeAt terms parts x.number) (IsShapeAt terms parts y.number) (shape_places parts) a.shapes b.shapes (λ p v w c e f. one_shape p v w e f) x.shapes y.shapes

  -- ---- labels and start

  deeper : (k : ℕ) (u : Part) (us : List Part) → ((i : ℕ) (l : Label) → slice_get (u ∷ us) i ≡ Some (Parts.Declares l) → x.number ((k + i) + 1) ≡ y.number ((k + i) + 1)) →
      (i : ℕ) (l : Label) → slice_get us i ≡ Some (Parts.Declares l) → x.number (((k + 1) + i) + 1) ≡ y.number (((k + 1) + i) + 1)
  deeper k u us same i l at = subst (λ n. x.number (n + 1) ≡ y.number (n + 1)) (let h : k + suc i ≡ (k + 1) + i = omega arith in h) (same (suc i) l at)

  one_labels : (k : ℕ) (us : List Part) → ((i : ℕ) (l : Label) → slice_get us i ≡ Some (Parts.Declares l) → x.number ((k + i) + 1) ≡ y.number ((k + i) + 1)) →
      map (pair_of x.number) (declarations k us) ≡ map (pair_of y.number) (declarations k us)
  one_labels k [] same = refl
  one_labels k (Parts.Declares l ∷ us) same =
      ap (λ n. pair_with l n ∷ map (pair_of x.number) (declarations (k + 1) us)) (subst (λ n. x.number (n + 1) ≡ y.number (n + 1)) (let h : k + 0 ≡ k = omega arith in h) (same 0 l refl))
      ∙ ap (λ zs. pair_with l (y.number (k + 1)) ∷ zs) (one_labels (k + 1) us (deeper k (Parts.Declares l) us same))
  one_labels k (Parts.Start ∷ us) same = one_labels (k + 1) us (deeper k _ us same)
  one_labels k (Parts.And ps ∷ us) same = one_labels (k + 1) us (deeper k _ us same)
  one_labels k (Parts.Or ps ∷ us) same = one_labels (k + 1) us (deeper k _ us same)
  one_labels k (Parts.Not q ∷ us) same = one_labels (k + 1) us (deeper k _ us same)
  one_labels k (Parts.Node c ∷ us) same = one_labels (k + 1) us (deeper k _ us same)
  one_labels k (Parts.Shape s ∷ us) same = one_labels (k + 1) us (deeper k _ us same)
  one_labels k (Parts.Ref l ∷ us) same = one_labels (k + 1) us (deeper k _ us same)
  one_labels k (Parts.Triple t ∷ us) same = one_labels (k + 1) us (deeper k _ us same)

  pub labels : a.labels ≡ b.labels
  labels = x.labels ∙ (one_labels 0 parts (λ i l at. subst (λ n. x.number (n + 1) ≡ y.number (n + 1)) (let h : i ≡
      0 + i = omega arith in h) (number (i + 1) (whole.behind i (Parts.Declares l) at refl))) ∙ sym y.labels)

  pub start : a.start ≡ b.start
  start = go (root_start docs) refl x.start y.start
    where
      go : (v : MaybeShapeExpr) → root_start docs ≡ v → IsStart x.number v a.start → IsStart y.number v b.start → a.start ≡ b.start
      go no_expr is e f = e ∙ sym f
      go (one_expr z) is e f =
          let at : IsAt parts 0 Parts.Start = subst (λ v. slice_get (lay_start v ++ lay_decls (size_of_start v) (flat_map (λ d. d.decls) docs)) 0 ≡ Some Parts.Start) (sym is) refl in
          e ∙ (ap Some (number 1 (whole.behind 0 Parts.Start at refl)) ∙ sym f)

  -- two schemas are equal
  pub one_schema : a ≡ b
  one_schema = λ i. record { exprs = exprs i; shapes = shapes i; labels = labels i; start = start i }
