-- Under a view that answers for each pair that is needed as a typing does, a pair can match exactly where the typing gives
-- it its Shape.
use Rattle.std.proofs.Common.{◌≡◌, ℕ, zero, suc, inl, inr, List, [], ◌∷◌, refl, subst, Bool, true, false}
use Rattle.std.specs.Prelude.{◌↔◌, Contains, Option, Some, None}
use Rattle.std.specs.List.{AllByRecursion}
use Rattle.node_constraint.specs.Laws.{NodesAreDecided}
use Rattle.rdf_terms.specs.declared.terms.Term.{Term}
use Rattle.rdf_terms.specs.declared.terms.TermId.{TermId}
use Rattle.rdf_terms.specs.declared.terms.Triple.{Triple}
use Rattle.schema_tree.specs.declared.schema.Expr.{Expr}
use Rattle.schema_tree.specs.declared.schema.Expr.TheVariants as Exprs
use Rattle.schema_tree.specs.declared.schema.ExprId.{ExprId}
use Rattle.schema_tree.specs.declared.schema.Occurrence.{Occurrence}
use Rattle.schema_tree.specs.declared.schema.Pair.{Pair}
use Rattle.schema_tree.specs.declared.schema.Schema.{Schema}
use Rattle.schema_tree.specs.declared.schema.Shape.{Shape}
use Rattle.schema_tree.specs.declared.schema.ShapeId.{ShapeId}
use Rattle.schema_tree.specs.declared.verdicts.Lean.{Lean}
use Rattle.schema_tree.specs.declared.verdicts.Lean.TheVariants.{Possible, Impossible}
use Rattle.schema_tree.specs.declared.verdicts.Verdict.{Verdict}
use Rattle.schema_tree.specs.declared.verdicts.Verdict.TheVariants.{Yes, No}
use Rattle.schema_tree.specs.Edges.{StandsIn, in_and, in_not, in_or, itself}
use Rattle.schema_tree.specs.Entries.{entry, pair_of, shape_at}
use Rattle.schema_tree.specs.Loaded.{IsLoaded}
use Rattle.schema_tree.specs.Matches.{SatValue, fits, other_end}
use Rattle.schema_tree.specs.Needs.{Needs}
use Rattle.rdf_terms.specs.Order.{neighbourhood}
use Rattle.schema_tree.specs.Places.{CanMatch, HasPlaces, MayFail, MayHold, PairCanMatch}
use Rattle.schema_tree.proofs.Needed.{in_graph, need_of}
use Rattle.schema_tree.specs.Relevant.{is_forward, relevant_in_order}
use Rattle.schema_tree.specs.Satisfies.{Sat, SatEntry, SatWithin}
use Rattle.lists.specs.Quantifiers.{SomeByRecursion}
use Rattle.schema_tree.specs.Shapes.{ShapeHolds, ShapeOk}
use Rattle.schema_tree.specs.Sure.{IsSure, Known, PairIs, SureEntry, SureWithin}
use Rattle.schema_tree.proofs.Decide.{decide_node, decide_sat}
use Rattle.lists.proofs.Decided.{Decided}
use Rattle.schema_tree.proofs.FromPlaces.{from_places}
use Rattle.schema_tree.proofs.Leans.{places_weaker}
use Rattle.lists.proofs.Quantifiers.{all_weaker, some_weaker}
use Rattle.schema_tree.proofs.Made.{well_made}
use Rattle.schema_tree.proofs.Ordered.{ordered_same}
use Rattle.schema_tree.proofs.SureOnce.{within_apart}
use Rattle.schema_tree.proofs.ToPlaces.{forward_parts, to_places}

-- where not all have P, some has not
some_fails :
    {X : Type 0} (P : X → Type 0) → ((x : X) → Decided (P x)) → (xs : List X) → ¬ AllByRecursion P xs → SomeByRecursion (λ x. ¬ P x) xs
some_fails P d [] none = absurd (none tt)
some_fails P d (x ∷ xs) none = go (d x) (λ later. some_fails P d xs later)
  where
    go : Decided (P x) → (¬ AllByRecursion P xs → SomeByRecursion (λ y. ¬ P y) xs) → SomeByRecursion (λ y. ¬ P y) (x ∷ xs)
    go (inl holds) deeper = inr (deeper (λ all. none (holds, all)))
    go (inr fails) deeper = inl fails

-- where none has P, all have not
all_fail : {X : Type 0} (P : X → Type 0) (xs : List X) → ¬ SomeByRecursion P xs → AllByRecursion (λ x. ¬ P x) xs
all_fail P [] none = tt
all_fail P (x ∷ xs) none = ((λ h. none (inl h)), all_fail P xs (λ h. none (inr h)))

module _ (s : Schema) (terms : List Term) (nodes : NodesAreDecided) (view : Known) (T : List Pair) (n : TermId) where
  -- the view answers as T does for the pair of n and the Shape
  abbrev pub IsKnown : ShapeId → Type 0
  IsKnown i = (Contains T (pair_of n i) → PairIs view (pair_of n i) Yes) × (¬ Contains T (pair_of n i) → PairIs view (pair_of n i) No)

  -- the view answers as T does for each Shape that stands in e
  abbrev pub AreKnown : ExprId → Type 0
  AreKnown e = (i : ShapeId) (sign : Bool) → StandsIn s i e sign → IsKnown i

  -- what is satisfied is Yes, and what is not is No
  abbrev pub IsExact : (ExprId → Type 0) → (ExprId → Verdict → Type 0) → ExprId → Type 0
  IsExact sat sure d = (sat d → sure d Yes) × (¬ sat d → sure d No)

  exact_entry :
      (sat : ExprId → Type 0) (sure : ExprId → Verdict → Type 0) → ((d : ExprId) → Decided (sat d)) → (e : ExprId) →
      ((d : ExprId) → AreKnown d → IsExact sat sure d) → AreKnown e → (x : Option Expr) → entry s e ≡ x →
      (SatEntry T terms n sat x → SureEntry view terms n sure x Yes) × (¬ SatEntry T terms n sat x → SureEntry view terms n sure x No)
  exact_entry sat sure decided e exact known None is = ((λ h. h), λ h. tt)
  exact_entry sat sure decided e exact known (Some (Exprs.And es)) is = (
    all_weaker sat (λ d. sure d Yes) es (λ d c. (exact d (λ i sign st. known i sign (in_and es d is c st))).0),
    (λ h. some_weaker (λ d. ¬ sat d) (λ d. sure d No) es (λ d c. (exact d (λ i sign st. known i sign (in_and es d is c st))).1) (some_fails sat decided es h)),
  )
  exact_entry sat sure decided e exact known (Some (Exprs.Or es)) is = (
    some_weaker sat (λ d. sure d Yes) es (λ d c. (exact d (λ i sign st. known i sign (in_or es d is c st))).0),
    (λ h. all_weaker (λ d. ¬ sat d) (λ d. sure d No) es (λ d c. (exact d (λ i sign st. known i sign (in_or es d is c st))).1) (all_fail sat es h)),
  )
  exact_entry sat sure decided e exact known (Some (Exprs.Not d)) is = (m.1, (λ h. m.0 (twice (decided d) h)))
    where
      m : IsExact sat sure d
      m = exact d (λ i sign st. known i true (in_not d is st))

      twice : Decided (sat d) → ¬ (¬ sat d) → sat d
      twice (inl holds) h = holds
      twice (inr fails) h = absurd (h fails)
  exact_entry sat sure decided e exact known (Some (Exprs.Node c)) is = ((λ h. h), λ h. h)
  exact_entry sat sure decided e exact known (Some (Exprs.Shape i)) is = known i false (itself is)

  pub exact_within : (k : ℕ) (e : ExprId) → AreKnown e → IsExact (SatWithin k s terms T n) (SureWithin k s terms view n) e
  unfolding SatWithin SureWithin
  exact_within zero e known = ((λ h. absurd h), λ h. tt)
  exact_within (suc k) e known =
      exact_entry (SatWithin k s terms T n) (SureWithin k s terms view n) (λ d. decide_sat s terms (decide_node nodes) k T n d) e
      (λ d. exact_within k d) known (entry s e) refl

  -- what is Yes is satisfied, and what is No is not
  pub exact_back :
      (e : ExprId) → AreKnown e → (IsSure s terms view n e Yes → Sat s terms T n e) × (IsSure s terms view n e No → ¬ Sat s terms T n e)
  exact_back e known = (back (decide_sat s terms (decide_node nodes) (suc e.0) T n e), (λ sure h. apart (m.0 h) sure))
    where
      m : IsExact (Sat s terms T n) (IsSure s terms view n) e
      m = exact_within (suc e.0) e known

      apart : IsSure s terms view n e Yes → ¬ IsSure s terms view n e No
      apart = (within_apart view terms n s (suc e.0) e).yes_no

      back : Decided (Sat s terms T n e) → IsSure s terms view n e Yes → Sat s terms T n e
      back (inl h) sure = h
      back (inr h) sure = absurd (apart sure (m.1 h))

  -- a value holds or fails as it is satisfied or not, however Unknown counts
  pub value_exact :
      (lean : Lean) (v : Option ExprId) → ((e : ExprId) → v ≡ Some e → AreKnown e) →
      (SatValue (Sat s terms T n) v ↔ MayHold s terms view lean n v) × ((¬ SatValue (Sat s terms T n) v) ↔ MayFail s terms view lean n v)
  value_exact Possible None known = (((λ h. h), λ h. h), ((λ h. h tt), λ h. absurd h))
  value_exact Impossible None known = (((λ h. h), λ h. h), ((λ h. h tt), λ h. absurd h))
  value_exact Possible (Some e) known =
      let m = exact_within (suc e.0) e (known e refl) in
      let b = exact_back e (known e refl) in (
        ((λ h no. b.1 no h), holds (decide_sat s terms (decide_node nodes) (suc e.0) T n e) m.1),
        ((λ h yes_. h (b.0 yes_)), (λ not_yes h. not_yes (m.0 h))),
      )
    where
      holds :
          Decided (Sat s terms T n e) → (¬ Sat s terms T n e → IsSure s terms view n e No) → ¬ IsSure s terms view n e No →
          Sat s terms T n e
      holds (inl h) out not_no = h
      holds (inr h) out not_no = absurd (not_no (out h))
  value_exact Impossible (Some e) known =
      let m = exact_within (suc e.0) e (known e refl) in
      let b = exact_back e (known e refl) in ((m.0, b.0), (m.1, b.1))

module _ (s : Schema) (terms : List Term) (nodes : NodesAreDecided) (g : List Triple) (view : Known) (T : List Pair) (p : Pair) (lean : Lean) (loaded : IsLoaded s)
    (needed : (q : Pair) → Needs s g p q → (Contains T q → PairIs view q Yes) × (¬ Contains T q → PairIs view q No)) where
  module _ (sh : Shape) (is : shape_at s p.shape ≡ Some sh) where
    abbrev Exact : TermId → Option ExprId → Type 0
    Exact m v =
        (SatValue (Sat s terms T m) v ↔ MayHold s terms view lean m v) × ((¬ SatValue (Sat s terms T m) v) ↔ MayFail s terms view lean m v)

    -- the view answers for all that the value of an occurrence asks of the other end of a triple that it fits
    exact_at :
        (t : Triple) → Contains g t → (o : Occurrence) → Contains sh.occs o → fits o p.node t ≡ true → Exact (other_end o.inverse t) o.value
    exact_at t held o of fit =
        value_exact s terms nodes view T (other_end o.inverse t) lean o.value
        (λ e value i sign st. needed (pair_of (other_end o.inverse t) i) (need_of s g p sh is t held o of fit e value i sign st))

    exact_out : (t : Triple) → Contains g t → (o : Occurrence) → Contains sh.occs o → is_forward p.node t o ≡ true → Exact t.o o.value
    exact_out t held o of forward =
        let parts = forward_parts (Sat s terms T) g sh p.node t o forward in
        subst (λ b. Exact (other_end b t) o.value) parts.0 (exact_at t held o of parts.1)

    matches :
        HasPlaces (MayHold s terms view lean) (MayFail s terms view lean) g sh p.node (relevant_in_order terms g sh p.node) →
        ShapeHolds (Sat s terms T) g p.node (Some sh)
    matches h =
        from_places (Sat s terms T) g sh p.node (well_made s loaded p.shape sh is) (neighbourhood terms g p.node) (ordered_same terms g p.node)
        (places_weaker _ _ _ _ sh p.node (λ t. Contains g t)
        (λ t o held of fit. (exact_at t held o of fit).0.1) (λ t o held extra of forward. (exact_out t held o of forward).1.1) g _ (in_graph terms g sh p.node) h)

    matched :
        ShapeHolds (Sat s terms T) g p.node (Some sh) →
        HasPlaces (MayHold s terms view lean) (MayFail s terms view lean) g sh p.node (relevant_in_order terms g sh p.node)
    matched h =
        places_weaker _ _ _ _ sh p.node (λ t. Contains g t)
        (λ t o held of fit. (exact_at t held o of fit).0.0) (λ t o held extra of forward. (exact_out t held o of forward).1.0) g _ (in_graph terms g sh p.node)
        (to_places (Sat s terms T) g sh p.node (λ c e. (well_made s loaded p.shape sh is c e).0) (neighbourhood terms g p.node) (ordered_same terms g p.node) h)

  pub exact_match : PairCanMatch s terms g view lean p ↔ ShapeOk s terms g T p.node p.shape
  exact_match = go (shape_at s p.shape) refl
    where
      go : (x : Option Shape) → shape_at s p.shape ≡ x → CanMatch s terms g view lean p.node x ↔ ShapeHolds (Sat s terms T) g p.node x
      go None is = ((λ h. h), λ h. h)
      go (Some sh) is = (matches sh is, matched sh is)
