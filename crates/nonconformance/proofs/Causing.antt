-- What is sure not to be satisfied has a cause, and what has a cause is sure not to be.
use Rattle.std.proofs.Common.{◌≡◌, ℕ, zero, suc, ◌<◌, ◌⊎◌, inl, inr, refl, arith, sym, subst, ap, ◌∙◌, List, [], ◌∷◌, ◌++◌, ◌+◌, map, take, length, get_or, true, false}
use Rattle.std.proofs.Math.Dec.{ltb}
use Rattle.std.proofs.lemmas.Bool.{cases_lt, ltb-false, ltb-true}
use Rattle.std.proofs.lemmas.Option.{slice_get_past, slice_get_read}
use Rattle.std.proofs.lemmas.List.{take_more}
use Rattle.std.specs.Prelude.{◌↔◌, Contains, Option, Some, None, IfSome, slice_get}
use Rattle.std.specs.List.{AllByRecursion}
use Rattle.lists.specs.Quantifiers.{SomeByRecursion}
use Rattle.lists.proofs.Members.{from_map, got_in, in_map, in_one, in_rest, is_first, is_later, not_in_none}
use Rattle.lists.proofs.Quantifiers.{all_at}
use Rattle.rdf_terms.specs.declared.terms.Term.{Term}
use Rattle.rdf_terms.specs.declared.terms.TermId.{TermId}
use Rattle.value_sets.specs.Values.{ValueList}
use Rattle.node_constraint.specs.declared.facet.Facet.{Facet}
use Rattle.node_constraint.specs.declared.Kind4.{Kind4}
use Rattle.node_constraint.specs.declared.part.ConstraintPart.{ConstraintPart}
use Rattle.node_constraint.specs.declared.part.ConstraintPart.TheVariants as Parts
use Rattle.node_constraint.specs.Constraint.{Constraint}
use Rattle.node_constraint.specs.Datatypes.{IsOfDatatypeIfAny}
use Rattle.node_constraint.specs.Kinds.{IsOfKindIfAny}
use Rattle.node_constraint.specs.Laws.{FailedPartIsEnough, NodesAreDecided}
use Rattle.node_constraint.specs.Parts.{HasFacet, IsFirstFailedPart}
use Rattle.node_constraint.specs.SatNode.{HasValueIfAny, SatNode}
use Rattle.schema_tree.specs.declared.schema.Expr.{Expr}
use Rattle.schema_tree.specs.declared.schema.Expr.TheVariants.{And, Or, Not, Node, Shape}
use Rattle.schema_tree.specs.declared.schema.ExprId.{ExprId}
use Rattle.schema_tree.specs.declared.schema.Schema.{Schema}
use Rattle.schema_tree.specs.declared.schema.ShapeId.{ShapeId}
use Rattle.schema_tree.specs.declared.verdicts.Verdict.{Verdict}
use Rattle.schema_tree.specs.declared.verdicts.Verdict.TheVariants.{No}
use Rattle.schema_tree.specs.Entries.{SatNodeAt, entry}
use Rattle.schema_tree.specs.Laws.{SureIsItsLayer}
use Rattle.schema_tree.specs.Loaded.{IsEntry, IsLoaded}
use Rattle.schema_tree.specs.Sure.{IsSure, Known, SureEntry}
use Rattle.nonconformance.specs.declared.cause.Cause.{Cause}
use Rattle.nonconformance.specs.declared.cause.Cause.TheVariants.{Member, NoMember, Negated, FailedPart, Lacks}
use Rattle.nonconformance.specs.Causes.{AreCauses, AreCausesOf, PushesFailing, IsCause, IsCauseOf, IsFirstFailedAt, part_causes}
use Rattle.nonconformance.specs.Laws.{CauseIsEnough, SomeCause}
use Rattle.nonconformance.specs.Those.{AreThose}
use Rattle.nonconformance.proofs.Items.{have_those, those_have, those_more, those_same}

some_of : {X : Type 0} (P : X → Type 0) (xs : List X) (x : X) → Contains xs x → P x → SomeByRecursion P xs
some_of P [] x c h = absurd (not_in_none x c)
some_of P (y ∷ ys) x c h = elim (in_rest y ys x c) [
  | inl e ↦ inl (subst P (sym e) h)
  | inr later ↦ inr (some_of P ys x later h)
]

of_some : {X : Type 0} (P : X → Type 0) (xs : List X) → SomeByRecursion P xs → (x : X) × Contains xs x × P x
of_some P [] h = absurd h
of_some P (x ∷ xs) (inl h) = (x, is_first x xs, h)
of_some P (x ∷ xs) (inr h) = let (y, c, t) = of_some P xs h in (y, is_later x xs y c, t)

-- ---- the first part that fails

node_enough : FailedPartIsEnough → (c : Constraint) (x : Option Term) (part : ConstraintPart) → IsFirstFailedAt c x part → ¬ SatNodeAt c x
node_enough enough c None part h sat = sat
node_enough enough c (Some term) part h sat = enough c term part h.1 sat

-- a constraint that asks for one part alone decides that part
module _ (nodes : NodesAreDecided) (term : Term) where
  kind_decided : (kind : Option Kind4) → IsOfKindIfAny kind term ⊎ (¬ IsOfKindIfAny kind term)
  kind_decided kind = elim (nodes (record { kind = kind; datatype = None; facets = []; values = None }) term) [
    | inl sat ↦ inl sat.kind
    | inr none ↦ inr (λ h. none (record { kind = h; datatype = tt; facets = tt; values = tt }))
  ]

  datatype_decided : (datatype : Option (List ℕ)) → IsOfDatatypeIfAny datatype term ⊎ (¬ IsOfDatatypeIfAny datatype term)
  datatype_decided datatype = elim (nodes (record { kind = None; datatype = datatype; facets = []; values = None }) term) [
    | inl sat ↦ inl sat.datatype
    | inr none ↦ inr (λ h. none (record { kind = tt; datatype = h; facets = tt; values = tt }))
  ]

  facet_decided : (f : Facet) → HasFacet term f ⊎ (¬ HasFacet term f)
  facet_decided f = elim (nodes (record { kind = None; datatype = None; facets = f ∷ []; values = None }) term) [
    | inl sat ↦ inl sat.facets.0
    | inr none ↦ inr (λ h. none (record { kind = tt; datatype = tt; facets = (h, tt); values = tt }))
  ]

  values_decided : (values : Option ValueList) → HasValueIfAny values term ⊎ (¬ HasValueIfAny values term)
  values_decided values = elim (nodes (record { kind = None; datatype = None; facets = []; values = values }) term) [
    | inl sat ↦ inl sat.values
    | inr none ↦ inr (λ h. none (record { kind = tt; datatype = tt; facets = tt; values = h }))
  ]

  -- all facets hold, or one is the first that does not
  abbrev FailsFirst : List Facet → Type 0
  FailsFirst fs = (i : ℕ) × (f : Facet) × (slice_get fs i ≡ Some f) × (¬ HasFacet term f) × AllByRecursion (HasFacet term) (take i fs)

  facets_decided : (fs : List Facet) → AllByRecursion (HasFacet term) fs ⊎ FailsFirst fs
  facets_decided [] = inl tt
  facets_decided (f ∷ fs) = both (facet_decided f) (facets_decided fs)
    where
      both : HasFacet term f ⊎ (¬ HasFacet term f) → AllByRecursion (HasFacet term) fs ⊎ FailsFirst fs →
          AllByRecursion (HasFacet term) (f ∷ fs) ⊎ FailsFirst (f ∷ fs)
      both (inr fails) rest = inr (zero, f, refl, fails, tt)
      both (inl holds) (inl all) = inl (holds, all)
      both (inl holds) (inr (i, h, is, fails, before)) = inr (suc i, h, is, fails, (holds, before))

  part_of : (c : Constraint) → ¬ SatNode c term → (part : ConstraintPart) × IsFirstFailedPart c term part
  part_of c none = by (kind_decided c.kind) (datatype_decided c.datatype) (facets_decided c.facets) (values_decided c.values)
    where
      by :
          IsOfKindIfAny c.kind term ⊎ (¬ IsOfKindIfAny c.kind term) → IsOfDatatypeIfAny c.datatype term ⊎ (¬ IsOfDatatypeIfAny c.datatype term) →
          AllByRecursion (HasFacet term) c.facets ⊎ FailsFirst c.facets → HasValueIfAny c.values term ⊎ (¬ HasValueIfAny c.values term) →
          (part : ConstraintPart) × IsFirstFailedPart c term part
      by (inr k) d f v = (Parts.Kind, (record { kind = tt; datatype = tt; facets = tt; values = tt }, k))
      by (inl k) (inr d) f v = (Parts.Datatype, (record { kind = k; datatype = tt; facets = tt; values = tt }, d))
      by (inl k) (inl d) (inr (i, h, is, fails, before)) v =
          (Parts.Facet i, (record { kind = k; datatype = d; facets = before; values = tt }, (h, is, fails)))
      by (inl k) (inl d) (inl f) (inr v) = (Parts.Values, (record { kind = k; datatype = d; facets = f; values = tt }, v))
      by (inl k) (inl d) (inl f) (inl v) = absurd (none (record { kind = k; datatype = d; facets = f; values = v }))

node_some : NodesAreDecided → (c : Constraint) (x : Option Term) → ¬ SatNodeAt c x → (part : ConstraintPart) × IsFirstFailedAt c x part
node_some nodes c None h = (Parts.Kind, refl)
node_some nodes c (Some term) h = part_of nodes term c h

-- what stands before a place holds, so the first that fails stands nowhere before it
early_holds : (term : Term) (fs : List Facet) (i j : ℕ) (f : Facet) → i < j → slice_get fs i ≡ Some f → AllByRecursion (HasFacet term) (take j fs) → HasFacet term f
early_holds term [] i j f lt is all = absurd cc
early_holds term (x ∷ fs) i zero f lt is all = absurd (omega arith)
early_holds term (x ∷ fs) zero (suc j) f lt is all = subst (HasFacet term) (some_same is) all.0
  where
    some_same : {a b : Facet} → Some a ≡ Some b → a ≡ b
    some_same e = cc
early_holds term (x ∷ fs) (suc i) (suc j) f lt is all = early_holds term fs i j f (omega arith) is all.1

-- there is one first part
module _ (c : Constraint) (term : Term) where
  one_first : (p q : ConstraintPart) → IsFirstFailedPart c term p → IsFirstFailedPart c term q → p ≡ q
  one_first Parts.Kind Parts.Kind h t = refl
  one_first Parts.Kind Parts.Datatype h t = absurd (h.1 t.0.kind)
  one_first Parts.Kind (Parts.Facet j) h t = absurd (h.1 t.0.kind)
  one_first Parts.Kind Parts.Values h t = absurd (h.1 t.0.kind)
  one_first Parts.Datatype Parts.Kind h t = absurd (t.1 h.0.kind)
  one_first Parts.Datatype Parts.Datatype h t = refl
  one_first Parts.Datatype (Parts.Facet j) h t = absurd (h.1 t.0.datatype)
  one_first Parts.Datatype Parts.Values h t = absurd (h.1 t.0.datatype)
  one_first (Parts.Facet i) Parts.Kind h t = absurd (t.1 h.0.kind)
  one_first (Parts.Facet i) Parts.Datatype h t = absurd (t.1 h.0.datatype)
  one_first (Parts.Facet i) (Parts.Facet j) h t = elim (cases_lt i j) [
    | inl lt ↦ (let (f, is, fails) = h.1 in absurd (fails (early_holds term c.facets i j f lt is t.0.facets)))
    | inr ge ↦ elim (cases_lt j i) [
      | inl lt ↦ (let (f, is, fails) = t.1 in absurd (fails (early_holds term c.facets j i f lt is h.0.facets)))
      | inr le ↦ ap (λ k. Parts.Facet k) (let same : i ≡ j = omega arith in same)
    ]
  ]
  one_first (Parts.Facet i) Parts.Values h t =
      let (f, is, fails) = h.1 in absurd (fails (all_at (HasFacet term) c.facets f t.0.facets (got_in c.facets i f is)))
  one_first Parts.Values Parts.Kind h t = absurd (t.1 h.0.kind)
  one_first Parts.Values Parts.Datatype h t = absurd (t.1 h.0.datatype)
  one_first Parts.Values (Parts.Facet j) h t =
      let (f, is, fails) = t.1 in absurd (fails (all_at (HasFacet term) c.facets f h.0.facets (got_in c.facets j f is)))
  one_first Parts.Values Parts.Values h t = refl

one_first_at : (c : Constraint) (x : Option Term) (p q : ConstraintPart) → IsFirstFailedAt c x p → IsFirstFailedAt c x q → p ≡ q
one_first_at c None p q h t = h ∙ sym t
one_first_at c (Some term) p q h t = one_first c term p q h t

-- ---- of an expression

-- one more expression is looked at
pub failing_on :
    (P : ExprId → Type 0) (es : List ExprId) (i : ℕ) (d : ExprId) (v : Verdict) (found new : List ExprId) → i < length es →
    AreThose P (take i es) found → (v ≡ No → P (get_or es i d)) → (P (get_or es i d) → v ≡ No) → PushesFailing v (get_or es i d) found new →
    AreThose P (take (i + 1) es) new
failing_on P es i d v found new lt those then_fails fails pushed = subst (λ z. AreThose P z new) (sym (take_more es i d lt)) (go pushed)
  where
    go : PushesFailing v (get_or es i d) found new → AreThose P (take i es ++ get_or es i d ∷ []) new
    go (inl (is, same)) =
        subst (λ z. AreThose P (take i es ++ get_or es i d ∷ []) z) (sym same) (those_more P (take i es) found (get_or es i d) those (then_fails is))
    go (inr (other, same)) =
        subst (λ z. AreThose P (take i es ++ get_or es i d ∷ []) z) (sym same)
        (those_same P (take i es) found (get_or es i d) those (λ h. other (fails h)))

module _ (s : Schema) (terms : List Term) (view : Known) (n : TermId) where
  entry_enough : FailedPartIsEnough → (x : Option Expr) (r : Cause) → IsCauseOf s terms view n x r → SureEntry view terms n (IsSure s terms view n) x No
  entry_enough enough None r h = absurd h
  entry_enough enough (Some (And es)) (Member d) h = some_of (λ e. IsSure s terms view n e No) es d h.0 h.1
  entry_enough enough (Some (And es)) r h = absurd h
  entry_enough enough (Some (Or es)) (NoMember ds) h = h.1
  entry_enough enough (Some (Or es)) r h = absurd h
  entry_enough enough (Some (Not e)) (Negated d) h = h.1
  entry_enough enough (Some (Not e)) r h = absurd h
  entry_enough enough (Some (Node c)) (FailedPart part) h = node_enough enough c (slice_get terms n.0) part h
  entry_enough enough (Some (Node c)) r h = absurd h
  entry_enough enough (Some (Shape i)) (Lacks j) h = h.1
  entry_enough enough (Some (Shape i)) r h = absurd h

  entry_some : NodesAreDecided → (x : Expr) → SureEntry view terms n (IsSure s terms view n) (Some x) No → (r : Cause) × IsCauseOf s terms view n (Some x) r
  entry_some nodes (And es) h = let (d, c, t) = of_some (λ e. IsSure s terms view n e No) es h in (Member d, (c, t))
  entry_some nodes (Or es) h = (NoMember es, (refl, h))
  entry_some nodes (Not e) h = (Negated e, (refl, h))
  entry_some nodes (Node c) h = let (part, first) = node_some nodes c (slice_get terms n.0) h in (FailedPart part, first)
  entry_some nodes (Shape i) h = (Lacks i, (refl, h))

  -- one cause alone is all, where any other is the same
  pub sole_are : (x : Option Expr) (cause : Cause) → IsCauseOf s terms view n x cause → ((other : Cause) → IsCauseOf s terms view n x other → other ≡ cause) →
      (causes : List Cause) → causes ≡ cause ∷ [] → AreCausesOf s terms view n x causes
  sole_are x cause is one causes same = λ other. (
    λ c. subst (λ z. IsCauseOf s terms view n x z) (in_one cause other (subst (λ z. Contains z other) same c)) is,
    λ h. subst (λ z. Contains z other) (sym same) (subst (λ z. Contains (cause ∷ []) z) (sym (one other h)) (is_first cause [])),
  )

  pub and_are : (es found : List ExprId) (causes : List Cause) → AreThose (λ d. IsSure s terms view n d No) es found → causes ≡ map Member found →
      AreCausesOf s terms view n (Some (And es)) causes
  and_are es found causes those same = λ cause. ((λ c. from cause (subst (λ z. Contains z cause) same c)), (λ h. subst (λ z. Contains z cause) (sym same) (to cause h)))
    where
      from : (cause : Cause) → Contains (map Member found) cause → IsCauseOf s terms view n (Some (And es)) cause
      from cause c =
          let (d, there, is) = from_map Member found cause c in
          subst (λ z. IsCauseOf s terms view n (Some (And es)) z) is (those_have _ es found those d there)

      to : (cause : Cause) → IsCauseOf s terms view n (Some (And es)) cause → Contains (map Member found) cause
      to (Member d) h = in_map Member found d (have_those _ es found those d h.0 h.1)
      to (NoMember ds) h = absurd h
      to (Negated d) h = absurd h
      to (FailedPart part) h = absurd h
      to (Lacks i) h = absurd h

  pub or_are : (es ds : List ExprId) (causes : List Cause) → SureEntry view terms n (IsSure s terms view n) (Some (Or es)) No → ds ≡ es → causes ≡ NoMember ds ∷ [] →
      AreCausesOf s terms view n (Some (Or es)) causes
  or_are es ds causes none is same = sole_are (Some (Or es)) (NoMember ds) (is, none) one causes same
    where
      one : (other : Cause) → IsCauseOf s terms view n (Some (Or es)) other → other ≡ NoMember ds
      one (Member d) h = absurd h
      one (NoMember us) h = ap NoMember (h.0 ∙ sym is)
      one (Negated d) h = absurd h
      one (FailedPart part) h = absurd h
      one (Lacks i) h = absurd h

  pub not_are : (e : ExprId) (causes : List Cause) → SureEntry view terms n (IsSure s terms view n) (Some (Not e)) No → causes ≡ Negated e ∷ [] →
      AreCausesOf s terms view n (Some (Not e)) causes
  not_are e causes holds same = sole_are (Some (Not e)) (Negated e) (refl, holds) one causes same
    where
      one : (other : Cause) → IsCauseOf s terms view n (Some (Not e)) other → other ≡ Negated e
      one (Member d) h = absurd h
      one (NoMember us) h = absurd h
      one (Negated d) h = ap Negated h.0
      one (FailedPart part) h = absurd h
      one (Lacks i) h = absurd h

  pub shape_are : (i : ShapeId) (causes : List Cause) → SureEntry view terms n (IsSure s terms view n) (Some (Shape i)) No → causes ≡ Lacks i ∷ [] →
      AreCausesOf s terms view n (Some (Shape i)) causes
  shape_are i causes no_pair same = sole_are (Some (Shape i)) (Lacks i) (refl, no_pair) one causes same
    where
      one : (other : Cause) → IsCauseOf s terms view n (Some (Shape i)) other → other ≡ Lacks i
      one (Member d) h = absurd h
      one (NoMember us) h = absurd h
      one (Negated d) h = absurd h
      one (FailedPart part) h = absurd h
      one (Lacks j) h = ap Lacks h.0

  pub part_are : (c : Constraint) (part : Option ConstraintPart) (causes : List Cause) → SureEntry view terms n (IsSure s terms view n) (Some (Node c)) No →
      ((part ≡ None) ↔ SatNodeAt c (slice_get terms n.0)) → IfSome part (IsFirstFailedAt c (slice_get terms n.0)) → causes ≡ part_causes part →
      AreCausesOf s terms view n (Some (Node c)) causes
  part_are c None causes fails none first same = absurd (fails (none.0 refl))
  part_are c (Some part) causes fails none first same = sole_are (Some (Node c)) (FailedPart part) first one causes same
    where
      one : (other : Cause) → IsCauseOf s terms view n (Some (Node c)) other → other ≡ FailedPart part
      one (Member d) h = absurd h
      one (NoMember us) h = absurd h
      one (Negated d) h = absurd h
      one (FailedPart q) h = ap FailedPart (one_first_at c (slice_get terms n.0) q part h first)
      one (Lacks j) h = absurd h

  pub no_causes : (x : Option Expr) (causes : List Cause) → ((cause : Cause) → ¬ IsCauseOf s terms view n x cause) → causes ≡ [] → AreCausesOf s terms view n x causes
  no_causes x causes never same = λ cause. ((λ c. absurd (not_in_none cause (subst (λ z. Contains z cause) same c))), (λ h. absurd (never cause h)))

pub cause_enough :
    SureIsItsLayer → FailedPartIsEnough → (s : Schema) (terms : List Term) (view : Known) (n : TermId) (e : ExprId) (r : Cause) → IsLoaded s →
    IsCause s terms view n e r → IsSure s terms view n e No
cause_enough layer enough s terms view n e r loaded h = (layer s terms view n e No loaded).1 (entry_enough s terms view n enough (entry s e) r h)

pub some_cause :
    SureIsItsLayer → NodesAreDecided → (s : Schema) (terms : List Term) (view : Known) (n : TermId) (e : ExprId) (x : Expr) → IsLoaded s →
    entry s e ≡ Some x → IsSure s terms view n e No → (r : Cause) × IsCause s terms view n e r
some_cause layer nodes s terms view n e x loaded is h =
    let (r, t) = entry_some s terms view n nodes x (subst (λ y. SureEntry view terms n (IsSure s terms view n) y No) is ((layer s terms view n e No loaded).0 h)) in
    (r, subst (λ y. IsCauseOf s terms view n y r) (sym is) t)

-- the entry that was read, or that there is none
pub entry_is :
    (s : Schema) (xs : List Expr) (e : ExprId) (x y : Expr) → xs ≡ s.exprs → true ≡ ltb e.0 (length xs) → x ≡ get_or xs e.0 x → x ≡ y →
    entry s e ≡ Some y
entry_is s xs e x y same within at is =
    ap (λ l. slice_get l e.0) (sym same) ∙ slice_get_read xs (length xs) e.0 x refl (ltb-true e.0 (length xs) (sym within)) at ∙ ap (λ z. Some z) is

pub entry_none : (s : Schema) (xs : List Expr) (e : ExprId) → xs ≡ s.exprs → false ≡ ltb e.0 (length xs) → entry s e ≡ None
entry_none s xs e same past = ap (λ l. slice_get l e.0) (sym same) ∙ slice_get_past xs e.0 (ltb-false e.0 (length xs) (sym past))

module _ (layer : SureIsItsLayer) (s : Schema) (terms : List Term) (view : Known) (n : TermId) (e : ExprId) (loaded : IsLoaded s) (fails : IsSure s terms view n e No) where
  -- what its form alone gives, at the entry of a number
  at_entry : (x : Option Expr) (causes : List Cause) → entry s e ≡ x →
      (SureEntry view terms n (IsSure s terms view n) x No → AreCausesOf s terms view n x causes) → AreCauses s terms view n e causes
  at_entry x causes at by =
      subst (λ z. AreCausesOf s terms view n z causes) (sym at)
      (by (subst (λ z. SureEntry view terms n (IsSure s terms view n) z No) at ((layer s terms view n e No loaded).0 fails)))

  pub and_causes :
      (es lent found again : List ExprId) (causes : List Cause) → entry s e ≡ Some (And es) → lent ≡ es → AreThose (λ d. IsSure s terms view n d No) lent found →
      again ≡ found → causes ≡ map Member again → AreCauses s terms view n e causes
  and_causes es lent found again causes at same those twice is =
      at_entry (Some (And es)) causes at (λ h. and_are s terms view n es found causes
      (subst (λ z. AreThose (λ d. IsSure s terms view n d No) z found) same those) (is ∙ ap (λ z. map Member z) twice))

  pub or_causes : (es ds : List ExprId) (causes : List Cause) → entry s e ≡ Some (Or es) → ds ≡ es → causes ≡ NoMember ds ∷ [] → AreCauses s terms view n e causes
  or_causes es ds causes at same is = at_entry (Some (Or es)) causes at (λ h. or_are s terms view n es ds causes h same is)

  pub not_causes : (d : ExprId) (causes : List Cause) → entry s e ≡ Some (Not d) → causes ≡ Negated d ∷ [] → AreCauses s terms view n e causes
  not_causes d causes at is = at_entry (Some (Not d)) causes at (λ h. not_are s terms view n d causes h is)

  pub part_causes_are :
      (c : Constraint) (part : Option ConstraintPart) (causes : List Cause) → entry s e ≡ Some (Node c) → ((part ≡ None) ↔ SatNodeAt c (slice_get terms n.0)) →
      IfSome part (IsFirstFailedAt c (slice_get terms n.0)) → causes ≡ part_causes part → AreCauses s terms view n e causes
  part_causes_are c part causes at none first is = at_entry (Some (Node c)) causes at (λ h. part_are s terms view n c part causes h none first is)

  pub shape_causes : (i : ShapeId) (causes : List Cause) → entry s e ≡ Some (Shape i) → causes ≡ Lacks i ∷ [] → AreCauses s terms view n e causes
  shape_causes i causes at is = at_entry (Some (Shape i)) causes at (λ h. shape_are s terms view n i causes h is)

  pub none_causes : (causes : List Cause) → entry s e ≡ None → causes ≡ [] → AreCauses s terms view n e causes
  none_causes causes at is = at_entry None causes at (λ h. no_causes s terms view n None causes (λ cause never. never) is)

-- where it is not sure there are none
pub not_sure :
    CauseIsEnough → (s : Schema) (terms : List Term) (view : Known) (n : TermId) (e : ExprId) (causes : List Cause) → IsLoaded s →
    ¬ IsSure s terms view n e No → causes ≡ [] → AreCauses s terms view n e causes
not_sure enough s terms view n e causes loaded never is = no_causes s terms view n (entry s e) causes (λ cause h. never (enough s terms view n e cause loaded h)) is

-- and where it is, there is one
pub some_there :
    SomeCause → (s : Schema) (terms : List Term) (view : Known) (n : TermId) (e : ExprId) (causes : List Cause) → IsLoaded s →
    AreCauses s terms view n e causes → IsEntry s e → IsSure s terms view n e No → 0 < length causes
some_there some s terms view n e causes loaded are within fails = by (entry s e) refl
  where
    filled : (causes : List Cause) (cause : Cause) → Contains causes cause → 0 < length causes
    filled [] cause c = absurd (not_in_none cause c)
    filled (x ∷ xs) cause c = omega arith

    absent : (xs : List Expr) (i : ℕ) → slice_get xs i ≡ None → i < length xs → ⊥
    absent [] i at lt = omega arith
    absent (x ∷ xs) zero at lt = cc
    absent (x ∷ xs) (suc i) at lt = absent xs i at (omega arith)

    by : (x : Option Expr) → entry s e ≡ x → 0 < length causes
    by None at = absurd (absent s.exprs e.0 at within)
    by (Some x) at = let (cause, is) = some s terms view n e x loaded at fails in filled causes cause ((are cause).1 is)
