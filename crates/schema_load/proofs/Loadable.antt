-- The schema that documents stand for keeps the rules of loaded schemas.
use Rattle.std.proofs.Common.{◌≡◌, ℕ, zero, suc, ◌+◌, ◌<◌, ◌≤◌, List, [], ◌∷◌, ◌++◌, refl, sym, ap, subst, arith, length, map, ◌∙◌, Option, Some, None, Bool, true, false, get_or, inl, inr, ◌⊎◌, take, cond}
use Rattle.std.specs.Prelude.{slice_get, filter, nat_eq, Contains}
use Rattle.std.specs.List.{AllZip, flat_map}
use Rattle.std.proofs.lemmas.Bool.{cases_eq, cases_lt, eqb-true}
use Rattle.std.proofs.lemmas.List.{length-append}
use Rattle.std.proofs.lemmas.Option.{slice_get-get_or, slice_get_within, get_or_from_slice_get}
use Rattle.rdf_terms.specs.declared.terms.Term.{Term}
use Rattle.lists.specs.Distinct.{AreDistinct}
use Rattle.tally.specs.Plan.{Plan, Plans}
use Rattle.schema_load.specs.declared.part.ShapePart.{ShapePart}
use Rattle.schema_load.specs.declared.part.TripleForm.TheVariants.{Arc}
use Rattle.std.proofs.lemmas.List.Elements.{Contains-append_cases}
use Rattle.schema_documents.specs.declared.label.Label.{Label}
use Rattle.schema_documents.specs.Tree.{Document, MaybeShapeExpr, no_expr, one_expr}
use Rattle.schema_tree.specs.declared.schema.Expr.{Expr}
use Rattle.schema_tree.specs.declared.schema.ExprId.{ExprId}
use Rattle.schema_tree.specs.declared.schema.Occurrence.{Occurrence}
use Rattle.schema_tree.specs.declared.schema.Schema.{Schema}
use Rattle.schema_tree.specs.declared.schema.Shape.{Shape}
use Rattle.schema_tree.specs.declared.schema.ShapeId.{ShapeId}
use Rattle.schema_tree.specs.Labels.{labels_of}
use Rattle.schema_tree.specs.Loaded.{BodyOk, IsEntry, IsEntryIfAny, IsLoaded, IsShapeLoaded, RefersBelow}
use Rattle.lists.proofs.Filters.{in_filter}
use Rattle.lists.proofs.Members.{from_map, in_one, in_rest, not_in_none}
use Rattle.schema_load.specs.declared.part.Part.{Part}
use Rattle.schema_load.specs.declared.part.Part.TheVariants as Parts
use Rattle.schema_load.specs.declared.part.TriplePart.{TriplePart}
use Rattle.schema_load.specs.declared.part.ArcPart.{ArcPart}
use Rattle.schema_load.specs.Parts.{AreOrdered, AreWhole, IsAt, IsExprAt, declarations, is_entry, is_expr, is_shape, places_where, shape_places, FormNames, with_place}
use Rattle.schema_load.specs.Graph.{IsAsDeepAs, LeadsTo, Resolves, alone, below, itself, through, weight}
use Rattle.schema_load.specs.Reading.{lay_decls, lay_start, parts_of, root_start, size_of_start}
use Rattle.schema_load.specs.Stands.{IsBody, IsEntryAt, IsEntryOf, IsOccurrence, IsShapeAt, IsStart, IsValue, Stands, UnfoldAll, Unfolds, arc, each_of, entry_places, included, more, none, one_of, of_depth, shape_number}
use Rattle.schema_load.proofs.OneSchemaLaw.{ends_at_entry, heavy, in_order, pair_of}
use Rattle.schema_load.proofs.Fit.{counted, unfolding_fits}
use Rattle.schema_load.proofs.Whole.{are_whole}

abbrev pair_at : Label → ℕ → Label × ℕ
pair_at l p = (l, p)

abbrev first_of : Label × ℕ → Label
first_of d = d.0

-- ---- lists by index

pub append_cases : {X : Type 0} (xs ys : List X) (i : ℕ) (x : X) → slice_get (xs ++ ys) i ≡ Some x → ((i < length xs) × (slice_get xs i ≡ Some x)) ⊎
    ((j : ℕ) × (i ≡ length xs + j) × (slice_get ys j ≡ Some x))
append_cases [] ys i x e = inr (i, omega arith, e)
append_cases (y ∷ xs) ys zero x e = inl (omega arith, e)
append_cases (y ∷ xs) ys (suc i) x e = elim (append_cases xs ys i x e) [
  | inl (lt, at) ↦ inl (omega arith, at)
  | inr (j, is, at) ↦ inr (j, omega arith, at)
]

pub held_at : {X : Type 0} (xs : List X) (i : ℕ) (x : X) → slice_get xs i ≡ Some x → Contains xs x
held_at xs i x e = (i, slice_get_within xs i x e, get_or_from_slice_get xs i x x e)

pub index_of : {X : Type 0} (xs : List X) (x : X) → Contains xs x → (i : ℕ) × (slice_get xs i ≡ Some x)
index_of xs x (i, lt, is) = (i, slice_get-get_or xs i x lt ∙ ap Some is)

pub zip_at : {X Y : Type 0} (R : X → Y → Type 0) (xs : List X) (ys : List Y) → AllZip R xs ys → (i : ℕ) (y : Y) → slice_get ys i ≡ Some y → (x : X) × (slice_get xs i ≡ Some x) × R x y
zip_at R [] [] all i y e = absurd (let bad : ⊥ = cc in bad)
zip_at R [] (b ∷ ys) all i y e = absurd all
zip_at R (a ∷ xs) [] all i y e = absurd all
zip_at R (a ∷ xs) (b ∷ ys) (r, all) zero y e = let same : b ≡ y = cc in (a, refl, subst (λ z. R a z) same r)
zip_at R (a ∷ xs) (b ∷ ys) (r, all) (suc i) y e = zip_at R xs ys all i y e

pub zip_long : {X Y : Type 0} (R : X → Y → Type 0) (xs : List X) (ys : List Y) → AllZip R xs ys → length xs ≡ length ys
zip_long R [] [] all = refl
zip_long R [] (b ∷ ys) all = absurd all
zip_long R (a ∷ xs) [] all = absurd all
zip_long R (a ∷ xs) (b ∷ ys) (r, all) = let h = zip_long R xs ys all in omega arith

-- ---- counts and declarations

pub places_long : (test : Part → Bool) (k : ℕ) (us : List Part) → length (places_where test k us) ≡ length (filter test us)
places_long test k [] = refl
places_long test k (u ∷ us) = go (test u) (places_long test (k + 1) us)
  where
    go : (b : Bool) → length (places_where test (k + 1) us) ≡ length (filter test us) → length (with_place b k (places_where test (k + 1) us)) ≡ length (cond b (u ∷ filter test us) (filter test us))
    go true e = omega arith
    go false e = e

pub count_before : (test : Part → Bool) (us : List Part) (p : ℕ) (u : Part) → slice_get us p ≡ Some u → test u ≡ true → length (filter test (take p us)) < length (filter test us)
count_before test [] p u e passed = absurd (let bad : ⊥ = cc in bad)
count_before test (v ∷ us) zero u e passed = let same : v ≡ u = cc in go (test v) (ap test same ∙ passed)
  where
    go : (b : Bool) → b ≡ true → 0 < length (cond b (v ∷ filter test us) (filter test us))
    go true h = omega arith
    go false h = absurd (let bad : ⊥ = cc in bad)
count_before test (v ∷ us) (suc p) u e passed = go (test v) (count_before test us p u e passed)
  where
    go : (b : Bool) → length (filter test (take p us)) < length (filter test us) →
        length (cond b (v ∷ filter test (take p us)) (filter test (take p us))) < length (cond b (v ∷ filter test us) (filter test us))
    go true h = omega arith
    go false h = h

-- a declaration is the head at its place
pub record IsHead (k : ℕ) (us : List Part) (d : Label × ℕ) : Type 0 where
  pub index : ℕ
  pub at : slice_get us index ≡ Some (Parts.Declares d.0)
  pub place : d.1 ≡ (k + index) + 1

head_later : (k : ℕ) (u : Part) (us : List Part) (d : Label × ℕ) → IsHead (k + 1) us d → IsHead k (u ∷ us) d
head_later k u us d h = let e = h.place in record { index = suc h.index; at = h.at; place = omega arith }

pub head_of : (k : ℕ) (us : List Part) (d : Label × ℕ) → Contains (declarations k us) d → IsHead k us d
head_of k [] d c = absurd (not_in_none d c)
head_of k (Parts.Declares l ∷ us) d c = elim (in_rest (pair_at l (k + 1)) (declarations (k + 1) us) d c) [
  | inl same ↦ (let first : l ≡ d.0 = ap (λ z. z.0) same in let second : k + 1 ≡ d.1 = ap (λ z. z.1) same in record { index = 0; at = ap (λ z. Some (Parts.Declares z)) first; place = omega arith })
  | inr rest ↦ head_later k (Parts.Declares l) us d (head_of (k + 1) us d rest)
]
head_of k (Parts.Start ∷ us) d c = head_later k _ us d (head_of (k + 1) us d c)
head_of k ((Parts.And ps) ∷ us) d c = head_later k _ us d (head_of (k + 1) us d c)
head_of k ((Parts.Or ps) ∷ us) d c = head_later k _ us d (head_of (k + 1) us d c)
head_of k ((Parts.Not q) ∷ us) d c = head_later k _ us d (head_of (k + 1) us d c)
head_of k ((Parts.Node b) ∷ us) d c = head_later k _ us d (head_of (k + 1) us d c)
head_of k ((Parts.Shape h) ∷ us) d c = head_later k _ us d (head_of (k + 1) us d c)
head_of k ((Parts.Ref l) ∷ us) d c = head_later k _ us d (head_of (k + 1) us d c)
head_of k ((Parts.Triple t) ∷ us) d c = head_later k _ us d (head_of (k + 1) us d c)

-- the label of number i is that of the head before which i others stand
pub record IsNumbered (k : ℕ) (us : List Part) (i : ℕ) (l : Label) : Type 0 where
  pub index : ℕ
  pub at : slice_get us index ≡ Some (Parts.Declares l)
  pub others : i ≡ length (declarations k (take index us))

pub label_at : (k : ℕ) (us : List Part) (i : ℕ) (l : Label) → slice_get (map first_of (declarations k us)) i ≡ Some l → IsNumbered k us i l
label_at k [] i l e = absurd (let bad : ⊥ = cc in bad)
label_at k (Parts.Declares m ∷ us) zero l e = let same : m ≡ l = cc in record { index = 0; at = ap (λ z. Some (Parts.Declares z)) same; others = refl }
label_at k (Parts.Declares m ∷ us) (suc i) l e = let h = label_at (k + 1) us i l e in record { index = suc h.index; at = h.at; others = ap suc h.others }
label_at k (Parts.Start ∷ us) i l e = let h = label_at (k + 1) us i l e in record { index = suc h.index; at = h.at; others = h.others }
label_at k ((Parts.And ps) ∷ us) i l e = let h = label_at (k + 1) us i l e in record { index = suc h.index; at = h.at; others = h.others }
label_at k ((Parts.Or ps) ∷ us) i l e = let h = label_at (k + 1) us i l e in record { index = suc h.index; at = h.at; others = h.others }
label_at k ((Parts.Not q) ∷ us) i l e = let h = label_at (k + 1) us i l e in record { index = suc h.index; at = h.at; others = h.others }
label_at k ((Parts.Node c) ∷ us) i l e = let h = label_at (k + 1) us i l e in record { index = suc h.index; at = h.at; others = h.others }
label_at k ((Parts.Shape h) ∷ us) i l e = let h = label_at (k + 1) us i l e in record { index = suc h.index; at = h.at; others = h.others }
label_at k ((Parts.Ref m) ∷ us) i l e = let h = label_at (k + 1) us i l e in record { index = suc h.index; at = h.at; others = h.others }
label_at k ((Parts.Triple t) ∷ us) i l e = let h = label_at (k + 1) us i l e in record { index = suc h.index; at = h.at; others = h.others }

labels_alone : (number : ℕ → ExprId) (ds : List (Label × ℕ)) → labels_of (map (pair_of number) ds) ≡ map first_of ds
labels_alone number [] = refl
labels_alone number (d ∷ ds) = ap (λ us. d.0 ∷ us) (labels_alone number ds)

-- ---- the order of entries

module _ (parts : List Part) (d : List ℕ) where
  level_deep : (n j p : ℕ) → slice_get (of_depth parts d n) j ≡ Some p → get_or d p 0 ≡ n
  level_deep n j p e = eqb-true (get_or d p 0) n (in_filter (λ q. nat_eq (get_or d q 0) n) (places_where is_entry 0 parts) p (held_at _ j p e)).1

  grows : (k n : ℕ) → k ≤ n → length (entry_places parts d k) ≤ length (entry_places parts d n)
  unfolding entry_places
  grows k zero le = let same : k ≡ 0 = omega arith in subst (λ z. length (entry_places parts d z) ≤ 0) (sym same) (omega arith)
  grows k (suc n) le = elim (cases_eq k (suc n)) [
    | inl same ↦ subst (λ z. length (entry_places parts d z) ≤ length (entry_places parts d (suc n))) (sym same) (omega arith)
    | inr apart ↦ (let h = grows k n (omega (arith, apart)) in let l = length-append (entry_places parts d n) (of_depth parts d (suc n)) in omega arith)
  ]

  -- where an entry stands in the order
  record IsPlaced (n i p : ℕ) : Type 0 where
    low : get_or d p 0 ≤ n
    before : i < length (entry_places parts d (get_or d p 0))
    behind : (k : ℕ) → k < get_or d p 0 → length (entry_places parts d k) ≤ i

  placed : (n i p : ℕ) → slice_get (entry_places parts d n) i ≡ Some p → IsPlaced n i p
  unfolding entry_places
  placed zero i p e = absurd (let bad : ⊥ = cc in bad)
  placed (suc n) i p e = elim (append_cases (entry_places parts d n) (of_depth parts d (suc n)) i p e) [
    | inl (lt, at) ↦ (let h = placed n i p at in let l = h.low in record { low = omega arith; before = h.before; behind = h.behind })
    | inr (j, is, at) ↦ (let m = level_deep (suc n) j p at in
        let l = length-append (entry_places parts d n) (of_depth parts d (suc n)) in
        let w = slice_get_within (of_depth parts d (suc n)) j p at in
        record {
          low = omega arith;
          before = subst (λ z. i < length (entry_places parts d z)) (sym m) (omega arith);
          behind = λ k lt. (let h = grows k n (omega arith) in omega arith);
        })
  ]

  pub lower_before : (n i j p r : ℕ) → slice_get (entry_places parts d n) i ≡ Some p → slice_get (entry_places parts d n) j ≡ Some r → get_or d r 0 < get_or d p 0 → j < i
  lower_before n i j p r a b lt = let h = (placed n j r b).before in let k = (placed n i p a).behind (get_or d r 0) lt in omega arith

-- a reference is as deep as what it leads to
deep_through : (parts : List Part) (q r n : ℕ) → Resolves parts q r → IsAsDeepAs parts r n → IsAsDeepAs parts q n
deep_through parts q _ n (itself at e) deep = deep
deep_through parts q r n (through {q = m} at d rest) deep = subst (λ z. IsAsDeepAs parts q z) (let h : 0 + n ≡ n = omega arith in h) (below at d (deep_through parts m r n rest deep))

module _ (docs : List Document) (terms : List Term) (s : Schema) (ordered : AreOrdered (parts_of docs)) (x : Stands docs terms s) where
  abbrev parts : List Part
  parts = parts_of docs

  abbrev order : List ℕ
  order = entry_places parts x.depths 256

  -- the place of an entry in the order
  found_at : (p : ℕ) (u : Part) → IsAt parts p u → is_entry u ≡ true → (i : ℕ) × (slice_get order i ≡ Some p)
  found_at p u at entry =
      let lt : p < length parts = slice_get_within parts p u at in
      let deep = x.deep p lt in
      let low : 1 ≤ get_or x.depths p 0 = (let h = deep.no_deeper (weight u) (alone at) in let k = heavy u entry in omega arith) in
      let high : get_or x.depths p 0 ≤ 256 = elim (cases_lt 256 (get_or x.depths p 0)) [
        | inl above ↦ absurd (x.meets.not_deep p (get_or x.depths p 0, deep.so_deep, above))
        | inr le ↦ omega arith
      ] in
      index_of order p (in_order parts x.depths 256 p u at entry low high)

  -- the entry that an expression stands for
  record HasEntry (q : ℕ) : Type 0 where
    end : ℕ
    leads : Resolves parts q end
    same : x.number q ≡ x.number end
    place : ℕ
    at : slice_get order place ≡ Some end

  with_entry : (q r : ℕ) → Resolves parts q r → x.number q ≡ x.number r → HasEntry q
  with_entry q r leads same = let (u, here, entry) = ends_at_entry parts q r leads in let (i, at) = found_at r u here entry in record { end = r; leads = leads; same = same; place = i; at = at }

  has_entry : (q : ℕ) → IsExprAt parts q → HasEntry q
  has_entry q (u, at, expr) = go u at expr
    where
      go : (u : Part) → IsAt parts q u → is_expr u ≡ true → HasEntry q
      go (Parts.Ref l) here e = let (r, leads, same) = x.referred q l here in with_entry q r leads same
      go Parts.Start here e = absurd (let bad : ⊥ = cc in bad)
      go (Parts.Declares l) here e = absurd (let bad : ⊥ = cc in bad)
      go (Parts.And ps) here e = with_entry q q (itself here e) refl
      go (Parts.Or ps) here e = with_entry q q (itself here e) refl
      go (Parts.Not m) here e = with_entry q q (itself here e) refl
      go (Parts.Node c) here e = with_entry q q (itself here e) refl
      go (Parts.Shape h) here e = with_entry q q (itself here e) refl
      go (Parts.Triple t) here e = absurd (let bad : ⊥ = cc in bad)

  entry_number : (q : ℕ) (h : HasEntry q) → (x.number q).0 ≡ h.place
  entry_number q h = ap (λ (i : ExprId). i.0) h.same ∙ x.numbered h.place h.end h.at

  long : length order ≡ length s.exprs
  long = zip_long (IsEntryAt terms parts x.number) order s.exprs x.exprs

  in_range : (q : ℕ) → IsExprAt parts q → IsEntry s (x.number q)
  in_range q expr = let h = has_entry q expr in let n = entry_number q h in let w = slice_get_within order h.place h.end h.at in let l = long in omega arith

  -- a member has a smaller number
  member_below : (i p q : ℕ) (u : Part) → slice_get order i ≡ Some p → IsAt parts p u → weight u ≡ 1 → LeadsTo parts u q → IsExprAt parts q → (x.number q).0 < i
  member_below i p q u at here w leads expr =
      let h = has_entry q expr in
      let n = entry_number q h in
      let (v, there, e) = ends_at_entry parts q h.end h.leads in
      let deep_end = x.deep h.end (slice_get_within parts h.end v there) in
      let deep_here = x.deep p (slice_get_within parts p u here) in
      let deeper : weight u + get_or x.depths h.end 0 ≤ get_or x.depths p 0 = deep_here.no_deeper _ (below here leads (deep_through parts q h.end _ h.leads deep_end.so_deep)) in
      let earlier : h.place < i = lower_before parts x.depths 256 i h.place p h.end at h.at (omega arith) in
      omega arith

  whole : AreWhole parts
  whole = are_whole docs

  shape_below : (p : ℕ) (head : _) → IsAt parts p (Parts.Shape head) → shape_number parts p < length s.shapes
  shape_below p head at = let h = count_before is_shape parts p (Parts.Shape head) at refl in let l = zip_long (IsShapeAt terms parts x.number)
      (shape_places parts) s.shapes x.shapes in let n = places_long is_shape 0 parts in omega arith

  refers_of : (i p : ℕ) (u : Part) (v : Expr) → slice_get order i ≡ Some p → IsAt parts p u → IsEntryOf terms parts x.number p u v → RefersBelow s i v
  refers_of i p (Parts.And ps) v at here e =
      subst (λ z. RefersBelow s i z) (sym e)
      (λ n c. (let (q, held, same) = from_map x.number ps n c in subst (λ (z : ExprId). z.0 < i) same (member_below i p q (Parts.And ps) at here refl held (whole.members p q (Parts.And ps) here held))))
  refers_of i p (Parts.Or ps) v at here e =
      subst (λ z. RefersBelow s i z) (sym e)
      (λ n c. (let (q, held, same) = from_map x.number ps n c in subst (λ (z : ExprId). z.0 < i) same (member_below i p q (Parts.Or ps) at here refl held (whole.members p q (Parts.Or ps) here held))))
  refers_of i p (Parts.Not q) v at here e = subst (λ z. RefersBelow s i z) (sym e) (member_below i p q (Parts.Not q) at here refl refl (whole.members p q (Parts.Not q) here refl))
  refers_of i p (Parts.Node c) v at here e = subst (λ z. RefersBelow s i z) (sym e) tt
  refers_of i p (Parts.Shape h) v at here e = subst (λ z. RefersBelow s i z) (sym e) (shape_below p h here)
  refers_of i p Parts.Start v at here e = absurd e
  refers_of i p (Parts.Declares l) v at here e = absurd e
  refers_of i p (Parts.Ref l) v at here e = absurd e
  refers_of i p (Parts.Triple t) v at here e = absurd e

  pub refers : (e : ExprId) (v : Expr) → slice_get s.exprs e.0 ≡ Some v → RefersBelow s e.0 v
  refers e v at = let (p, placed_at, (u, here, is)) = zip_at (IsEntryAt terms parts x.number) order s.exprs x.exprs e.0 v at in refers_of e.0 p u v placed_at here is

  pub few : length s.shapes ≤ 4096
  few = let l = zip_long (IsShapeAt terms parts x.number) (shape_places parts) s.shapes x.shapes in let n = places_long is_shape 0 parts in let m = x.meets.few_shapes in omega arith

  pub start : IsEntryIfAny s s.start
  start = go (root_start docs) refl x.start
    where
      go : (v : MaybeShapeExpr) → root_start docs ≡ v → IsStart x.number v s.start → IsEntryIfAny s s.start
      go no_expr is e = subst (λ z. IsEntryIfAny s z) (sym e) tt
      go (one_expr z) is e =
          let at : IsAt parts 0 Parts.Start = subst (λ v. slice_get (lay_start v ++ lay_decls (size_of_start v) (flat_map (λ d. d.decls) docs)) 0 ≡ Some Parts.Start) (sym is) refl in
          subst (λ w. IsEntryIfAny s w) (sym e) (in_range 1 (whole.behind 0 Parts.Start at refl))

  pub labels : (l : Label) (e : ExprId) → Contains s.labels (l, e) → IsEntry s e
  labels l e c =
      let (d, held, same) = from_map (pair_of x.number) (declarations 0 parts) (l, e) (subst (λ us. Contains us (l, e)) x.labels c) in
      let h = head_of 0 parts d held in
      let p = h.place in
      let expr : IsExprAt parts d.1 = subst (λ n. IsExprAt parts n) (let q : h.index + 1 ≡ d.1 = omega arith in q) (whole.behind h.index (Parts.Declares d.0) h.at refl) in
      subst (λ z. IsEntry s z) (ap (λ z. z.1) same) (in_range d.1 expr)

  pub once : AreDistinct (labels_of s.labels)
  once = subst (λ us. AreDistinct us) (sym (ap labels_of x.labels ∙ labels_alone x.number (declarations 0 parts))) (λ i j l a b.
      (let h = label_at 0 parts i l a in
      let g = label_at 0 parts j l b in
      elim (cases_eq h.index g.index) [
        | inl same ↦ h.others ∙ (ap (λ n. length (declarations 0 (take n parts))) same ∙ sym g.others)
        | inr apart ↦ absurd (x.meets.labels_once h.index (l, inl (record { here = h.at; other = g.index; there = g.at; apart = apart })))
      ]))

  -- ---- Shapes

  value_there : (p : ℕ) (t : TriplePart) (a : ArcPart) (o : Occurrence) → IsAt parts p (Parts.Triple t) → t.form ≡ Arc a → IsOccurrence terms parts x.number a o → IsEntryIfAny s o.value
  value_there p t a o at form is = go a.value refl is.value
    where
      go : (v : Option ℕ) → a.value ≡ v → IsValue terms parts x.number v o.value → IsEntryIfAny s o.value
      go None same e = subst (λ z. IsEntryIfAny s z) (sym e) tt
      go (Some q) same e = subst (λ z. IsEntryIfAny s z) (sym e) (in_range q (whole.members p q (Parts.Triple t) at (subst (λ z. FormNames z q) (sym form) same)))

  mutual
    values_there : (p k : ℕ) (plan : Plan) (occs : List Occurrence) → Unfolds terms parts x.number p k plan occs → (o : Occurrence) → Contains occs o → IsEntryIfAny s o.value
    values_there p k _ _ (arc {t = t} {a = a} {o = v} at form oc) o c = subst (λ z. IsEntryIfAny s z.value) (in_one v o c) (value_there p t a v at form oc)
    values_there p k _ occs (each_of {ps = ps} {plans = us} at form all) o c = all_there ps k us occs all o c
    values_there p k _ occs (one_of {ps = ps} {plans = us} at form all) o c = all_there ps k us occs all o c
    values_there p k _ occs (included {q = q} {plan = u} at form named rest) o c = values_there q k u occs rest o c

    all_there : (ps : List ℕ) (k : ℕ) (plans : Plans) (occs : List Occurrence) → UnfoldAll terms parts x.number ps k plans occs → (o : Occurrence) → Contains occs o → IsEntryIfAny s o.value
    all_there _ k _ _ none o c = absurd (not_in_none o c)
    all_there _ k _ _ (more {p = p} {ps = ps} {plan = u} {plans = us} {occs = i} {rest = j} first rest) o c = elim (Contains-append_cases i j o c) [
      | inl here ↦ values_there p k u i first o here
      | inr later ↦ all_there ps (k + length i) us j rest o later
    ]

  body_ok : (q : Option ℕ) (c : Option Plan) (occs : List Occurrence) → IsBody terms parts x.number q c occs → BodyOk occs c
  body_ok None None occs e = ap length e
  body_ok None (Some c) occs e = absurd e
  body_ok (Some q) None occs e = absurd e
  body_ok (Some q) (Some c) occs e =
      let fit = unfolding_fits terms parts x.number ordered q 0 c occs e in
      (fit.distinct, fit.sound, λ i lt. fit.has i (omega arith) (omega arith), λ i h. (let r = (fit.range i h).1 in omega arith))

  body_there : (q : Option ℕ) (c : Option Plan) (occs : List Occurrence) → IsBody terms parts x.number q c occs → (o : Occurrence) → Contains occs o → IsEntryIfAny s o.value
  body_there None None occs e o c = absurd (not_in_none o (subst (λ us. Contains us o) e c))
  body_there None (Some b) occs e o c = absurd e
  body_there (Some q) None occs e o c = absurd e
  body_there (Some q) (Some b) occs e o c = values_there q 0 b occs e o c

  body_few : (p : ℕ) (head : ShapePart) (q : Option ℕ) (c : Option Plan) (occs : List Occurrence) → IsAt parts p (Parts.Shape head) → head.body ≡ q →
      IsBody terms parts x.number q c occs → length occs ≤ 256
  body_few p head None None occs at is e = let h = ap length e in omega arith
  body_few p head None (Some b) occs at is e = absurd e
  body_few p head (Some q) None occs at is e = absurd e
  body_few p head (Some q) (Some b) occs at is e = elim (cases_lt 256 (length occs)) [
    | inl many ↦ absurd (x.meets.not_crowded p (record { head = head; here = at; body = q; has_body = is; number = length occs; occurrences = counted terms parts x.number q 0 b occs e; many = many }))
    | inr le ↦ le
  ]

  pub shapes : (i : ShapeId) (sh : Shape) → slice_get s.shapes i.0 ≡ Some sh → IsShapeLoaded s sh
  shapes i sh at =
      let (p, placed_at, h) = zip_at (IsShapeAt terms parts x.number) (shape_places parts) s.shapes x.shapes i.0 sh at in
      record {
        body = body_ok h.head.body sh.body sh.occs h.body;
        values = body_there h.head.body sh.body sh.occs h.body;
        few = body_few p h.head h.head.body sh.body sh.occs h.here refl h.body;
      }

  pub is_loaded : IsLoaded s
  is_loaded = record { refers = refers; labels = labels; once = once; start = start; shapes = shapes; few = few }
