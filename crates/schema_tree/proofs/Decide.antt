-- Whether a node has a Shape is decided, where each node constraint is.
use Rattle.std.proofs.Common.{◌≡◌, ℕ, zero, suc, ◌<◌, inl, inr, List, [], ◌∷◌, refl, arith, subst, ap, Bool, true, false, cond, not, length, filter, true≢false}
use Rattle.std.proofs.lemmas.Bool.{cases_eq, eq-eqb}
use Rattle.std.proofs.lemmas.Option.{slice_get_within}
use Rattle.std.specs.Prelude.{Option, Some, None, slice_get}
use Rattle.std.specs.List.{list_any}
use Rattle.rdf_terms.specs.declared.terms.TermId.{TermId}
use Rattle.rdf_terms.specs.declared.terms.Term.{Term}
use Rattle.rdf_terms.specs.declared.terms.Triple.{Triple}
use Rattle.rdf_terms.specs.Graphs.{neigh, outs, same_id}
use Rattle.tally.specs.Plan.{Plan}
use Rattle.tally.specs.Copies.{Copies}
use Rattle.tally.specs.declared.Interval.{Interval}
use Rattle.tally.specs.Span.{HasSpan, IsBelow, IsSound, span}
use Rattle.tally.proofs.Exact.{copies_span, span_copies}
use Rattle.schema_tree.specs.declared.schema.Schema.{Schema}
use Rattle.node_constraint.specs.Constraint.{Constraint}
use Rattle.schema_tree.specs.declared.schema.Occurrence.{Occurrence}
use Rattle.schema_tree.specs.declared.schema.Shape.{Shape}
use Rattle.schema_tree.specs.declared.schema.ShapeId.{ShapeId}
use Rattle.schema_tree.specs.declared.schema.ExprId.{ExprId}
use Rattle.schema_tree.specs.declared.schema.Expr.{Expr}
use Rattle.schema_tree.specs.declared.schema.Expr.TheVariants as Exprs
use Rattle.schema_tree.specs.declared.schema.Pair.{Pair}
use Rattle.schema_tree.specs.declared.verdicts.Place.{Place}
use Rattle.schema_tree.specs.declared.verdicts.Place.TheVariants.{At, Rest}
use Rattle.schema_tree.specs.Entries.{entry, shape_at, SatNodeAt}
use Rattle.schema_tree.specs.Shapes.{ShapeOk, ShapeHolds}
use Rattle.schema_tree.proofs.ToPlaces.{to_places}
use Rattle.schema_tree.proofs.FromPlaces.{from_places}
use Rattle.std.proofs.lemmas.List.Sorted.{IsPermutation-refl}
use Rattle.schema_tree.specs.Satisfies.{Sat, SatWithin, SatEntry}
use Rattle.schema_tree.specs.Matches.{SatValue, fits, other_end}
use Rattle.schema_tree.specs.Places.{HasPlaces, MayTake, MayStay, MayStayOut, AreAllowed, times, HaveCounts, IsShut}
use Rattle.schema_tree.specs.Relevant.{is_relevant, is_forward}
use Rattle.schema_tree.proofs.Made.{IsWellMade}
use Rattle.node_constraint.specs.Laws.{NodesAreDecided}
use Rattle.lists.proofs.Decided.{Decided, decide_not, decide_both, decide_all, decide_some, decide_member, decide_le, decide_true, decide_below}

pub same_terms : (a b : TermId) → Decided (a ≡ b)
same_terms a b = elim (cases_eq a.0 b.0) [
  | inl e ↦ inl (ap (λ k. record { 0 = k }) e)
  | inr ne ↦ inr (λ e. ne (ap (λ x. x.0) e))
]

pub same_shapes : (a b : ShapeId) → Decided (a ≡ b)
same_shapes a b = elim (cases_eq a.0 b.0) [
  | inl e ↦ inl (ap (λ k. record { 0 = k }) e)
  | inr ne ↦ inr (λ e. ne (ap (λ x. x.0) e))
]

pub same_pairs : (p q : Pair) → Decided (p ≡ q)
same_pairs p q = go (same_terms p.node q.node) (same_shapes p.shape q.shape)
  where
    go : Decided (p.node ≡ q.node) → Decided (p.shape ≡ q.shape) → Decided (p ≡ q)
    go (inl a) (inl b) =
        let F : ShapeId → Type 0 = λ i. p ≡ record { node = q.node; shape = i } in
        inl (subst F b (ap (λ m. record { node = m; shape = p.shape }) a))
    go (inl a) (inr h) = inr (λ e. h (ap (λ x. x.shape) e))
    go (inr h) b = inr (λ e. h (ap (λ x. x.node) e))

-- a node constraint holds at a place of the table, or it does not
pub decide_node : NodesAreDecided → (c : Constraint) (t : Option Term) → Decided (SatNodeAt c t)
decide_node nodes c None = inr (λ h. h)
decide_node nodes c (Some term) = nodes c term

module _ (s : Schema) (terms : List Term) (node : (c : Constraint) (t : Option Term) → Decided (SatNodeAt c t)) where
  decide_entry :
      (T : List Pair) (n : TermId) (member : ExprId → Type 0) → ((e : ExprId) → Decided (member e)) → (x : Option Expr) →
      Decided (SatEntry T terms n member x)
  decide_entry T n member d None = inr (λ h. h)
  decide_entry T n member d (Some (Exprs.And es)) = decide_all member d es
  decide_entry T n member d (Some (Exprs.Or es)) = decide_some member d es
  decide_entry T n member d (Some (Exprs.Not e)) = decide_not (d e)
  decide_entry T n member d (Some (Exprs.Node c)) = node c (slice_get terms n.0)
  decide_entry T n member d (Some (Exprs.Shape i)) = decide_member same_pairs T (record { node = n; shape = i })

  pub decide_sat : (k : ℕ) (T : List Pair) (n : TermId) (e : ExprId) → Decided (SatWithin k s terms T n e)
  unfolding SatWithin
  decide_sat zero T n e = inr (λ h. h)
  decide_sat (suc k) T n e = decide_entry T n (SatWithin k s terms T n) (λ d. decide_sat k T n d) (entry s e)

pub decide_span : (a : Option Interval) (k : ℕ) → Decided (HasSpan a k)
decide_span None k = inr (λ h. h)
decide_span (Some a) k = decide_both (decide_le a.lo k) (ends a.hi)
  where
    ends : (e : Option ℕ) → Decided (IsBelow k e)
    ends None = inl tt
    ends (Some h) = decide_le k h

pub decide_copies : (p : Plan) → IsSound p → (c : ℕ → ℕ) (k : ℕ) → Decided (Copies p c k)
decide_copies p sound c k = elim (decide_span (span p c c) k) [
  | inl h ↦ inl (span_copies p c k sound h)
  | inr h ↦ inr (λ t. h (copies_span p c k t))
]

module _ (hold fail : TermId → Option ExprId → Type 0) (sh : Shape) (n : TermId)
    (dh : (m : TermId) (v : Option ExprId) → Decided (hold m v)) (df : (m : TermId) (v : Option ExprId) → Decided (fail m v)) where
  decide_take : (t : Triple) (x : Option Occurrence) → Decided (MayTake hold fail sh n t x)
  decide_take t None = inr (λ h. h)
  decide_take t (Some o) = decide_both (decide_true (fits o n t)) (dh (other_end o.inverse t) o.value)

  decide_stay : (t : Triple) (b : Bool) → Decided (MayStay hold fail sh n t b)
  decide_stay t true = out (list_any (is_forward n t) sh.occs)
    where
      out : (b : Bool) → Decided (MayStayOut hold fail sh n t b)
      out true = decide_both (decide_member same_terms sh.extra t.p) (decide_all (λ o. fail t.o o.value) (λ o. df t.o o.value) (filter (is_forward n t) sh.occs))
      out false = is_false sh.closed
        where
          is_false : (b : Bool) → Decided (b ≡ false)
          is_false true = inr (λ e. true≢false e)
          is_false false = inl refl
  decide_stay t false = inl tt

  abbrev pub Found : (List Place → Type 0) → List Triple → Type 0
  Found Q ts = (ps : List Place) × AreAllowed hold fail sh n ts ps × Q ps

  place_in : (i : ℕ) (t : Triple) (x : Option Occurrence) → slice_get sh.occs i ≡ x → MayTake hold fail sh n t x → i < length sh.occs
  place_in i t None e h = absurd h
  place_in i t (Some o) e h = slice_get_within sh.occs i o e

  -- one of the finitely many lists of places
  pub decide_found : (ts : List Triple) (Q : List Place → Type 0) → ((ps : List Place) → Decided (Q ps)) → Decided (Found Q ts)
  decide_found [] Q d = elim (d []) [ inl q ↦ inl ([], tt, q) | inr h ↦ inr (λ f. h (only f.0 f.1 f.2)) ]
    where
      only : (ps : List Place) → AreAllowed hold fail sh n [] ps → Q ps → Q []
      only [] a q = q
      only (p ∷ ps) a q = absurd a
  decide_found (t ∷ ts) Q d =
      go (decide_both (decide_stay t (same_id t.s n)) (decide_found ts (λ ps. Q (Rest ∷ ps)) (λ ps. d (Rest ∷ ps))))
      (decide_below (λ i. MayTake hold fail sh n t (slice_get sh.occs i) × Found (λ ps. Q (At i ∷ ps)) ts)
      (λ i. decide_both (decide_take t (slice_get sh.occs i)) (decide_found ts (λ ps. Q (At i ∷ ps)) (λ ps. d (At i ∷ ps)))) (length sh.occs))
    where
      go :
          Decided (MayStay hold fail sh n t (same_id t.s n) × Found (λ ps. Q (Rest ∷ ps)) ts) →
          Decided ((i : ℕ) × (i < length sh.occs) × (MayTake hold fail sh n t (slice_get sh.occs i) × Found (λ ps. Q (At i ∷ ps)) ts)) →
          Decided (Found Q (t ∷ ts))
      go (inl (stay, (ps, all, q))) rest = inl (Rest ∷ ps, (stay, all), q)
      go (inr h) (inl (i, lt, (take, (ps, all, q)))) = inl (At i ∷ ps, (take, all), q)
      go (inr h) (inr k) = inr (λ f. none f.0 f.1 f.2)
        where
          none : (ps : List Place) → AreAllowed hold fail sh n (t ∷ ts) ps → Q ps → ⊥
          none [] a q = a
          none (Rest ∷ ps) a q = h (a.0, (ps, a.1, q))
          none (At i ∷ ps) a q = k (i, place_in i t (slice_get sh.occs i) refl a.0, (a.0, (ps, a.1, q)))

-- no place is an occurrence
pub decide_idle : (ps : List Place) → Decided ((i : ℕ) → times ps i ≡ 0)
decide_idle [] = inl (λ i. refl)
decide_idle (Rest ∷ ps) = decide_idle ps
decide_idle (At j ∷ ps) = inr (λ h.
    let e : cond true (suc (times ps j)) (times ps j) ≡ 0 = subst (λ b. cond b (suc (times ps j)) (times ps j) ≡ 0) (eq-eqb j j refl) (h j) in
    absurd (omega arith))

pub decide_counts :
    (body : Option Plan) → ((c : Plan) → body ≡ Some c → IsSound c) → (ps : List Place) → Decided (HaveCounts body (times ps))
decide_counts None sound ps = decide_idle ps
decide_counts (Some c) sound ps = decide_copies c (sound c refl) (times ps) 1

-- there are allowed places with matching counts, or there are not
pub decide_places :
    (hold fail : TermId → Option ExprId → Type 0) → ((m : TermId) (v : Option ExprId) → Decided (hold m v)) →
    ((m : TermId) (v : Option ExprId) → Decided (fail m v)) →
    (g : List Triple) (sh : Shape) → IsWellMade sh → (n : TermId) (ts : List Triple) → Decided (HasPlaces hold fail g sh n ts)
decide_places hold fail dh df g sh made n ts =
    join (decide_both (decide_true sh.closed) (decide_true (list_any (λ t. not (is_relevant sh.occs n t)) (outs g n))))
    (decide_found hold fail sh n dh df ts (λ ps. HaveCounts sh.body (times ps)) (decide_counts sh.body (λ c e. (made c e).1)))
  where
    join :
        Decided (IsShut g sh n) → Decided (Found hold fail sh n dh df (λ ps. HaveCounts sh.body (times ps)) ts) →
        Decided (HasPlaces hold fail g sh n ts)
    join (inl shut) f = inr (λ h. h.open_to shut)
    join (inr opened) (inl (ps, all, counts)) = inl (record { open_to = opened; places = ps; allowed = all; spelled = counts })
    join (inr opened) (inr none) = inr (λ h. none (h.places, h.allowed, h.spelled))

module _ (s : Schema) (terms : List Term) (node : (c : Constraint) (t : Option Term) → Decided (SatNodeAt c t)) (g : List Triple)
    (loaded : (i : ShapeId) (sh : Shape) → shape_at s i ≡ Some sh → IsWellMade sh) where
  decide_value : (T : List Pair) (m : TermId) (v : Option ExprId) → Decided (SatValue (Sat s terms T m) v)
  decide_value T m None = inl tt
  decide_value T m (Some e) = decide_sat s terms node (suc e.0) T m e

  -- a node has a Shape under a typing, or it has not
  pub decide_shape : (T : List Pair) (n : TermId) (i : ShapeId) → Decided (ShapeOk s terms g T n i)
  decide_shape T n i = go (shape_at s i) refl
    where
      known : (sh : Shape) → IsWellMade sh → Decided (ShapeHolds (Sat s terms T) g n (Some sh))
      known sh made = through (decide_places (λ m v. SatValue (Sat s terms T m) v) (λ m v. ¬ SatValue (Sat s terms T m) v)
          (decide_value T) (λ m v. decide_not (decide_value T m v)) g sh made n (filter (is_relevant sh.occs n) (neigh g n)))
        where
          through :
              Decided (HasPlaces (λ m v. SatValue (Sat s terms T m) v) (λ m v. ¬ SatValue (Sat s terms T m) v) g sh n (filter (is_relevant sh.occs n) (neigh g n))) →
              Decided (ShapeHolds (Sat s terms T) g n (Some sh))
          through (inl h) = inl (from_places (Sat s terms T) g sh n made (neigh g n) (IsPermutation-refl (neigh g n)) h)
          through (inr none) = inr (λ h. none (to_places (Sat s terms T) g sh n (λ c e. (made c e).0) (neigh g n) (IsPermutation-refl (neigh g n)) h))

      go : (x : Option Shape) → shape_at s i ≡ x → Decided (ShapeHolds (Sat s terms T) g n x)
      go None e = inr (λ h. h)
      go (Some sh) e = known sh (loaded i sh e)
