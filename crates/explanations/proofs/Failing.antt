-- What fails, and why.
use Rattle.std.proofs.Common.{◌≡◌, ◌∙◌, ℕ, suc, ◌<◌, ◌+◌, refl, arith, sym, subst, ap, length, get_or, Bool, true, false, List, [], ◌∷◌, if◌then◌else◌}
use Rattle.std.proofs.Math.Dec.{ltb}
use Rattle.std.proofs.lemmas.Bool.{ltb-true}
use Rattle.std.proofs.lemmas.Option.{get_or_from_slice_get, slice_get_read}
use Rattle.std.specs.Prelude.{Option, Some, None, slice_get}
use Rattle.std.specs.List.{AllByRecursion}
use Rattle.lists.proofs.Members.{got_in}
use Rattle.lists.proofs.Quantifiers.{all_append, all_at, all_of}
use Rattle.rdf_terms.specs.declared.terms.Term.{Term}
use Rattle.rdf_terms.specs.declared.terms.TermId.{TermId}
use Rattle.rdf_terms.specs.declared.terms.Triple.{Triple}
use Rattle.node_constraint.specs.declared.part.ConstraintPart.{ConstraintPart}
use Rattle.schema_tree.specs.declared.schema.Expr.{Expr}
use Rattle.schema_tree.specs.declared.schema.Expr.TheVariants as Exprs
use Rattle.schema_tree.specs.declared.schema.ExprId.{ExprId}
use Rattle.schema_tree.specs.declared.schema.Occurrence.{Occurrence}
use Rattle.schema_tree.specs.declared.schema.Pair.{Pair}
use Rattle.schema_tree.specs.declared.schema.Schema.{Schema}
use Rattle.schema_tree.specs.declared.schema.Shape.{Shape}
use Rattle.schema_tree.specs.declared.schema.ShapeId.{ShapeId}
use Rattle.schema_tree.specs.declared.verdicts.Verdict.TheVariants.{No}
use Rattle.schema_tree.specs.Entries.{entry, pair_of, shape_at}
use Rattle.schema_tree.specs.Loaded.{IsEntry, IsEntryIfAny, IsLoaded}
use Rattle.schema_tree.specs.Matches.{fits, other_end}
use Rattle.schema_tree.specs.Sure.{IsSure, Known, PairIs, SureEntry, SureWithin}
use Rattle.nonconformance.specs.declared.cause.Cause.{Cause}
use Rattle.nonconformance.specs.declared.cause.Cause.TheVariants as Causes
use Rattle.nonconformance.specs.declared.reason.Reason.TheVariants.{Unmatched}
use Rattle.nonconformance.specs.Causes.{IsCause, IsCauseOf}
use Rattle.nonconformance.specs.Laws.{UnmatchedHasCauses}
use Rattle.nonconformance.specs.Reasons.{IsKnownReason}
use Rattle.explanations.specs.declared.explanation.Why.{Why}
use Rattle.explanations.specs.declared.explanation.Why.TheVariants.{Part, See}
use Rattle.explanations.specs.declared.subject.Subject.{Subject}
use Rattle.explanations.specs.declared.subject.Subject.TheVariants as Subjects
use Rattle.explanations.specs.Blocks.{IsWhy, IsWhyOf, fitting, fitting_from, members_of}
use Rattle.explanations.specs.Finding.{IsConstraint, IsRefused, IsSeen}
use Rattle.explanations.specs.Numbers.{Fails, FailsAt}

-- what is read at the number of an expression is its entry
pub entry_is : (s : Schema) (xs : List Expr) (e : ExprId) (x y : Expr) → xs ≡ s.exprs → true ≡ ltb e.0 (length xs) → x ≡ get_or xs e.0 x → x ≡ y →
    entry s e ≡ Some y
entry_is s xs e x y same within at is =
    ap (λ l. slice_get l e.0) (sym same) ∙ slice_get_read xs (length xs) e.0 x refl (ltb-true e.0 (length xs) (sym within)) at ∙ ap (λ z. Some z) is

-- and what is read at the number of a Shape is that Shape
pub shape_is : (s : Schema) (i : ShapeId) (shapes : List Shape) (sh : Shape) → shapes ≡ s.shapes → i.0 < length s.shapes → sh ≡ get_or shapes i.0 sh →
    shape_at s i ≡ Some sh
shape_is s i shapes sh same within at = slice_get_read s.shapes (length s.shapes) i.0 sh refl within (at ∙ ap (λ l. get_or l i.0 sh) same)

-- a list of numbers of occurrences that fit: what follows of each occurrence that fits holds of all
pub all_fitting : (P : ℕ → Type 0) (i : ℕ) (n : TermId) (t : Triple) (occs : List Occurrence) →
    ((j : ℕ) (o : Occurrence) → slice_get occs j ≡ Some o → fits o n t ≡ true → P (i + j)) → AllByRecursion P (fitting_from i n t occs)
all_fitting P i n t [] h = tt
all_fitting P i n t (o ∷ occs) h =
    all_append P (if fits o n t then i ∷ [] else []) (fitting_from (suc i) n t occs) (by (fits o n t) refl)
    (all_fitting P (suc i) n t occs (λ j q at fit. subst P (omega arith) (h (suc j) q at fit)))
  where
    by : (b : Bool) → fits o n t ≡ b → AllByRecursion P (if b then i ∷ [] else [])
    by true fit = (subst P (omega arith) (h 0 o refl fit), tt)
    by false fit = tt

module _ (s : Schema) (terms : List Term) (view : Known) where
  -- a node that is sure not to satisfy a Shape does not have it
  sure_pair : (n : TermId) (e : ExprId) (i : ShapeId) → entry s e ≡ Some (Exprs.Shape i) → IsSure s terms view n e No → PairIs view (pair_of n i) No
  unfolding SureWithin
  sure_pair n e i at sure = subst (λ x. SureEntry view terms n (SureWithin e.0 s terms view n) x No) at sure

  pub pair_fails : IsLoaded s → (n : TermId) (e : ExprId) (i : ShapeId) → entry s e ≡ Some (Exprs.Shape i) → FailsAt s terms view n e →
      Fails s terms view (Subjects.Pair (pair_of n i))
  pair_fails loaded n e i at fails = (loaded.refers e (Exprs.Shape i) at, sure_pair n e i at fails.1)

  -- why a node does not satisfy an expression, by its form
  module _ (all : List Subject) (n : TermId) (e : ExprId) (fails : FailsAt s terms view n e) where
    pub why_shape : (i : ShapeId) (w : Why) → entry s e ≡ Some (Exprs.Shape i) → IsSeen all (Subjects.Pair (pair_of n i)) w → IsWhy s terms view all n e w
    why_shape i (See k) at seen = (fails, subst (λ x. IsWhyOf s terms view all n e x (See k)) (sym at) seen)
    why_shape i (Part part) at seen = absurd seen

    pub why_and : (es : List ExprId) (w : Why) → entry s e ≡ Some (Exprs.And es) → IsSeen all (Subjects.Expr n e) w → IsWhy s terms view all n e w
    why_and es (See k) at seen = (fails, subst (λ x. IsWhyOf s terms view all n e x (See k)) (sym at) seen)
    why_and es (Part part) at seen = absurd seen

    pub why_or : (es : List ExprId) (w : Why) → entry s e ≡ Some (Exprs.Or es) → IsSeen all (Subjects.Expr n e) w → IsWhy s terms view all n e w
    why_or es (See k) at seen = (fails, subst (λ x. IsWhyOf s terms view all n e x (See k)) (sym at) seen)
    why_or es (Part part) at seen = absurd seen

    pub why_not : (d : ExprId) (w : Why) → entry s e ≡ Some (Exprs.Not d) → IsSeen all (Subjects.Expr n e) w → IsWhy s terms view all n e w
    why_not d (See k) at seen = (fails, subst (λ x. IsWhyOf s terms view all n e x (See k)) (sym at) seen)
    why_not d (Part part) at seen = absurd seen

  -- the cause of a node constraint is a part of it
  pub part_is : (n : TermId) (e : ExprId) (cause : Cause) → IsConstraint (entry s e) → IsCause s terms view n e cause →
      (part : ConstraintPart) × (cause ≡ Causes.FailedPart part)
  part_is n e cause = go (entry s e) cause
    where
      go : (x : Option Expr) (cause : Cause) → IsConstraint x → IsCauseOf s terms view n x cause → (part : ConstraintPart) × (cause ≡ Causes.FailedPart part)
      go None cause is h = absurd is
      go (Some (Exprs.And es)) cause is h = absurd is
      go (Some (Exprs.Or es)) cause is h = absurd is
      go (Some (Exprs.Not d)) cause is h = absurd is
      go (Some (Exprs.Shape i)) cause is h = absurd is
      go (Some (Exprs.Node c)) (Causes.FailedPart part) is h = (part, refl)
      go (Some (Exprs.Node c)) (Causes.Member d) is h = absurd h
      go (Some (Exprs.Node c)) (Causes.NoMember ds) is h = absurd h
      go (Some (Exprs.Node c)) (Causes.Negated d) is h = absurd h
      go (Some (Exprs.Node c)) (Causes.Lacks i) is h = absurd h

  -- and that part is why the node does not satisfy the constraint
  pub part_why : (all : List Subject) (n : TermId) (e : ExprId) (part : ConstraintPart) → IsConstraint (entry s e) →
      IsCause s terms view n e (Causes.FailedPart part) → IsWhyOf s terms view all n e (entry s e) (Part part)
  part_why all n e part = go (entry s e)
    where
      go : (x : Option Expr) → IsConstraint x → IsCauseOf s terms view n x (Causes.FailedPart part) → IsWhyOf s terms view all n e x (Part part)
      go None is h = absurd is
      go (Some (Exprs.And es)) is h = absurd is
      go (Some (Exprs.Or es)) is h = absurd is
      go (Some (Exprs.Not d)) is h = absurd is
      go (Some (Exprs.Shape i)) is h = absurd is
      go (Some (Exprs.Node c)) is h = h

  -- what is known of the constraint of a number that does not take a triple
  pub refused_at : (occs : List Occurrence) (t : Triple) (i : ℕ) (o : Occurrence) → IsRefused s terms view occs t i → o ≡ get_or occs i o →
      (slice_get occs i ≡ Some o) × (e : ExprId) × (o.value ≡ Some e) × FailsAt s terms view (other_end o.inverse t) e
  refused_at occs t i o r read =
      let same : r.occ ≡ o = sym (read ∙ get_or_from_slice_get occs i r.occ o r.at) in (
        r.at ∙ ap (λ z. Some z) same,
        r.expr,
        subst (λ z. z.value ≡ Some r.expr) same r.value,
        subst (λ z. FailsAt s terms view (other_end z.inverse t) r.expr) same r.fails,
      )

  -- the members that a cause names fail
  pub members_fail : IsLoaded s → (n : TermId) (e : ExprId) (cause : Cause) → IsEntry s e → IsCause s terms view n e cause →
      AllByRecursion (FailsAt s terms view n) (members_of cause)
  members_fail loaded n e cause there is = go cause (entry s e) refl is
    where
      inside : (d : ExprId) → d.0 < e.0 → IsEntry s d
      inside d lt = omega (arith, lt, there)

      go : (cause : Cause) (x : Option Expr) → entry s e ≡ x → IsCauseOf s terms view n x cause → AllByRecursion (FailsAt s terms view n) (members_of cause)
      go (Causes.Negated d) x at h = tt
      go (Causes.FailedPart part) x at h = tt
      go (Causes.Lacks i) x at h = tt
      go (Causes.Member d) (Some (Exprs.And es)) at h = ((inside d (loaded.refers e (Exprs.And es) at d h.0), h.1), tt)
      go (Causes.Member d) (Some (Exprs.Or es)) at h = absurd h
      go (Causes.Member d) (Some (Exprs.Not f)) at h = absurd h
      go (Causes.Member d) (Some (Exprs.Node c)) at h = absurd h
      go (Causes.Member d) (Some (Exprs.Shape i)) at h = absurd h
      go (Causes.Member d) None at h = absurd h
      go (Causes.NoMember ds) (Some (Exprs.Or es)) at h =
          subst (λ z. AllByRecursion (FailsAt s terms view n) z) (sym h.0)
          (all_of _ es (λ d c. (inside d (loaded.refers e (Exprs.Or es) at d c), all_at _ es d h.1 c)))
      go (Causes.NoMember ds) (Some (Exprs.And es)) at h = absurd h
      go (Causes.NoMember ds) (Some (Exprs.Not f)) at h = absurd h
      go (Causes.NoMember ds) (Some (Exprs.Node c)) at h = absurd h
      go (Causes.NoMember ds) (Some (Exprs.Shape i)) at h = absurd h
      go (Causes.NoMember ds) None at h = absurd h

  -- each constraint that fits an unmatched triple has a value that is not satisfied
  pub refused : UnmatchedHasCauses → IsLoaded s → (g : List Triple) (p : Pair) (sh : Shape) (t : Triple) → shape_at s p.shape ≡ Some sh →
      IsKnownReason s terms g view p (Unmatched t) → AllByRecursion (IsRefused s terms view sh.occs t) (fitting p.node t sh.occs)
  refused values loaded g p sh t is known = all_fitting (IsRefused s terms view sh.occs t) 0 p.node t sh.occs at_place
    where
      at_place : (j : ℕ) (o : Occurrence) → slice_get sh.occs j ≡ Some o → fits o p.node t ≡ true → IsRefused s terms view sh.occs t (0 + j)
      at_place j o at fit =
          let there = got_in sh.occs j o at in
          let (e, value, sure) = values s terms g view p sh t is known o there fit in
          let here : IsRefused s terms view sh.occs t j = record {
            occ = o;
            at = at;
            expr = e;
            value = value;
            fails = (subst (λ v. IsEntryIfAny s v) value ((loaded.shapes p.shape sh is).values o there), sure);
          } in
          subst (IsRefused s terms view sh.occs t) (omega arith) here
