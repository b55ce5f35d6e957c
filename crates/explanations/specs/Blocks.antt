-- What the blocks of an explanation say (ShEx 2.1, sections 5.3 and 5.5.2; own: the cases).
use Rattle.std.specs.Prelude.{ℕ, suc, List, [], ◌∷◌, ◌++◌, ◌≡◌, ◌<◌, Option, Some, Contains, length, slice_get, if◌then◌else◌}
use Rattle.std.specs.List.{AllByRecursion, AllZip}
use Rattle.rdf_terms.specs.declared.terms.Term.{Term}
use Rattle.rdf_terms.specs.declared.terms.TermId.{TermId}
use Rattle.rdf_terms.specs.declared.terms.Triple.{Triple}
use Rattle.schema_tree.specs.declared.schema.Expr.{Expr}
use Rattle.schema_tree.specs.declared.schema.Expr.TheVariants as Exprs
use Rattle.schema_tree.specs.declared.schema.ExprId.{ExprId}
use Rattle.schema_tree.specs.declared.schema.Occurrence.{Occurrence}
use Rattle.schema_tree.specs.declared.schema.Pair.{Pair}
use Rattle.schema_tree.specs.declared.schema.Schema.{Schema}
use Rattle.schema_tree.specs.declared.schema.Shape.{Shape}
use Rattle.schema_tree.specs.Entries.{entry, pair_of, shape_at}
use Rattle.schema_tree.specs.Matches.{fits, other_end}
use Rattle.schema_tree.specs.Sure.{Known}
use Rattle.nonconformance.specs.declared.cause.Cause.{Cause}
use Rattle.nonconformance.specs.declared.cause.Cause.TheVariants as Causes
use Rattle.nonconformance.specs.declared.offers.Offer.{Offer}
use Rattle.nonconformance.specs.declared.reason.Reason.{Reason}
use Rattle.nonconformance.specs.declared.reason.Reason.TheVariants.{NoMatchingPlaces, Unmatched}
use Rattle.nonconformance.specs.Causes.{AreCauses, IsFirstFailedAt}
use Rattle.nonconformance.specs.Offers.{AreKnownOffers}
use Rattle.nonconformance.specs.Reasons.{IsKnownReason, IsNamed, IsOfConstraint, IsOfTriple}
use Rattle.explanations.specs.declared.explanation.Block.{Block}
use Rattle.explanations.specs.declared.explanation.Block.TheVariants as Blocks
use Rattle.explanations.specs.declared.explanation.Misfit.{Misfit}
use Rattle.explanations.specs.declared.explanation.ToldCause.{ToldCause}
use Rattle.explanations.specs.declared.explanation.ToldReason.{ToldReason}
use Rattle.explanations.specs.declared.explanation.Why.{Why}
use Rattle.explanations.specs.declared.explanation.Why.TheVariants.{Part, See}
use Rattle.explanations.specs.declared.subject.Subject.{Subject}
use Rattle.explanations.specs.declared.subject.Subject.TheVariants as Subjects
use Rattle.explanations.specs.Numbers.{FailsAt, numbered}

-- the numbers, from i on, of the occurrences that fit a triple of the node
abbrev pub fitting_from : ℕ → TermId → Triple → List Occurrence → List ℕ
fitting_from i n t [] = []
fitting_from i n t (o ∷ occs) = (if fits o n t then i ∷ [] else []) ++ fitting_from (suc i) n t occs

abbrev pub fitting : TermId → Triple → List Occurrence → List ℕ
fitting n t occs = fitting_from 0 n t occs

-- the members that a cause says something of: one of a ShapeAnd, all of a ShapeOr
abbrev pub members_of : Cause → List ExprId
members_of (Causes.Member d) = d ∷ []
members_of (Causes.NoMember ds) = ds
members_of (Causes.Negated d) = []
members_of (Causes.FailedPart part) = []
members_of (Causes.Lacks i) = []

-- all reasons that are told of a pair: each is one by what is known, and there is one; each triple that is forbidden, and each that is
-- not matched, is named, and each triple constraint for which alone there are too few, or too many, triples; what names neither stands
-- alone
pub record AreReasons (s : Schema) (terms : List Term) (g : List Triple) (view : Known) (p : Pair) (reasons : List Reason) : Type 0 where
  pub sound : AllByRecursion (IsKnownReason s terms g view p) reasons
  pub some : 0 < length reasons
  pub whole : (r : Reason) → IsOfTriple r → IsKnownReason s terms g view p r → Contains reasons r
  pub counted : (r : Reason) → IsOfConstraint s p r → IsKnownReason s terms g view p r → Contains reasons r
  pub alone : (r : Reason) → ¬ IsNamed r → Contains reasons r → reasons ≡ r ∷ []

-- where no way deals the triples, the relevant triples of the pair, each with the places that are allowed for it; of any other reason,
-- none
abbrev pub HasOffers : Schema → List Term → List Triple → Known → Pair → Reason → List Offer → Type 0
HasOffers s terms g view p NoMatchingPlaces offers = AreKnownOffers s terms g view p offers
HasOffers s terms g view p r offers = offers ≡ []

-- view is what is known of pairs, and all are the subjects of the blocks in their order
module _ (s : Schema) (terms : List Term) (view : Known) (all : List Subject) where
  -- why a node does not satisfy an expression: the first part of a node constraint that does not hold, or the number of the block that
  -- is about the node with the Shape, or with the ShapeAnd, ShapeOr or ShapeNot
  abbrev pub IsWhyOf : TermId → ExprId → Option Expr → Why → Type 0
  IsWhyOf n e (Some (Exprs.Node c)) (Part part) = IsFirstFailedAt c (slice_get terms n.0) part
  IsWhyOf n e (Some (Exprs.Shape i)) (See k) = numbered all k ≡ Some (Subjects.Pair (pair_of n i))
  IsWhyOf n e (Some (Exprs.And es)) (See k) = numbered all k ≡ Some (Subjects.Expr n e)
  IsWhyOf n e (Some (Exprs.Or es)) (See k) = numbered all k ≡ Some (Subjects.Expr n e)
  IsWhyOf n e (Some (Exprs.Not d)) (See k) = numbered all k ≡ Some (Subjects.Expr n e)
  IsWhyOf n e x why = ⊥

  -- by what is known the node does not satisfy the expression, and this is why
  abbrev pub IsWhy : TermId → ExprId → Why → Type 0
  IsWhy n e why = FailsAt s terms view n e × IsWhyOf n e (entry s e) why

  -- the misfit is the constraint of this number, the triple's other end, the constraint's value, and why that is not satisfied there
  pub record IsMisfit (occs : List Occurrence) (t : Triple) (i : ℕ) (m : Misfit) : Type 0 where
    pub constraint : m.constraint ≡ i
    pub occ : Occurrence
    pub at : slice_get occs i ≡ Some occ
    pub node : m.node ≡ other_end occ.inverse t
    pub value : occ.value ≡ Some m.value
    pub why : IsWhy m.node m.value m.why

  -- of an unmatched triple, a misfit for each constraint that fits it; of any other reason, none
  abbrev pub HasMisfits : Pair → Reason → List Misfit → Type 0
  HasMisfits p (Unmatched t) misfits =
      (sh : Shape) × (shape_at s p.shape ≡ Some sh) × AllZip (IsMisfit sh.occs t) (fitting p.node t sh.occs) misfits
  HasMisfits p r misfits = misfits ≡ []

  -- the reason is told with its misfits and its offers
  abbrev pub IsToldReason : List Triple → Pair → Reason → ToldReason → Type 0
  IsToldReason g p r told = (told.reason ≡ r) × HasMisfits p r told.misfits × HasOffers s terms g view p r told.offers

  -- the cause is told with why each member that it names is not satisfied
  abbrev pub IsToldCause : TermId → Cause → ToldCause → Type 0
  IsToldCause n c told = (told.cause ≡ c) × AllZip (IsWhy n) (members_of c) told.members

  -- the block is about the subject, and tells all its reasons, or all its causes
  abbrev pub IsBlock : List Triple → Subject → Block → Type 0
  IsBlock g (Subjects.Pair p) (Blocks.Reasons q told) =
      (q ≡ p) × (reasons : List Reason) × AreReasons s terms g view p reasons × AllZip (IsToldReason g p) reasons told
  IsBlock g (Subjects.Expr n e) (Blocks.Causes m d told) =
      (m ≡ n) × (d ≡ e) × (causes : List Cause) × AreCauses s terms view n e causes × (0 < length causes) × AllZip (IsToldCause n) causes told
  IsBlock g subject block = ⊥
