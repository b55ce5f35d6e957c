-- Why a node does not have a Shape: reasons of which each alone is enough (ShEx 2.1, section 5.5.2, Validation Definition; own: the
-- cases).
use Rattle.std.specs.Prelude.{ℕ, true, false, List, [], ◌∷◌, ◌-◌, ◌^◌, ◌≡◌, ◌<◌, ⊤, Option, Some, None, Contains, length, min, slice_index}
use Rattle.rdf_terms.specs.declared.terms.Term.{Term}
use Rattle.rdf_terms.specs.declared.terms.TermId.{TermId}
use Rattle.rdf_terms.specs.declared.terms.Triple.{Triple}
use Rattle.rdf_terms.specs.Graphs.{outs}
use Rattle.tally.specs.Copies.{Copies}
use Rattle.tally.specs.Plan.{Plan}
use Rattle.tally.specs.Symbols.{IsUnder}
use Rattle.schema_tree.specs.declared.schema.ExprId.{ExprId}
use Rattle.schema_tree.specs.declared.schema.Pair.{Pair}
use Rattle.schema_tree.specs.declared.schema.Schema.{Schema}
use Rattle.schema_tree.specs.declared.schema.Shape.{Shape}
use Rattle.schema_tree.specs.declared.verdicts.Lean.TheVariants.{Possible}
use Rattle.schema_tree.specs.declared.verdicts.Place.{Place}
use Rattle.schema_tree.specs.declared.verdicts.Place.TheVariants.{At, Rest}
use Rattle.schema_tree.specs.Entries.{shape_at}
use Rattle.schema_tree.specs.Matches.{SatValue}
use Rattle.schema_tree.specs.Places.{AreAllowed, HaveCounts, IsAllowed, MayFail, MayHold, times}
use Rattle.schema_tree.specs.Relevant.{is_relevant, relevant_in_order}
use Rattle.schema_tree.specs.Satisfies.{Sat}
use Rattle.schema_tree.specs.Sure.{Known}
use Rattle.nonconformance.specs.declared.reason.Reason.{Reason}
use Rattle.nonconformance.specs.declared.reason.Reason.TheVariants.{Forbidden, Unmatched, TooFew, TooMany, NoMatchingCounts, NoMatchingPlaces}
use Rattle.nonconformance.specs.Bounds.{IsFlat, TakeAtLeast, TakeAtMost, capped, least_of, most_of}
use Rattle.nonconformance.specs.Those.{AreThose}

-- the place is one of these constraints
abbrev pub IsOneOf : List ℕ → Place → Type 0
IsOneOf constraints (At i) = Contains constraints i
IsOneOf constraints Rest = ⊥

-- there is no expression, or it is flat
abbrev pub HasFlatBody : Option Plan → Type 0
HasFlatBody None = ⊤
HasFlatBody (Some c) = IsFlat c

-- hold and fail say of a value at a node whether it may be satisfied, and whether it may not be
module _ (hold fail : TermId → Option ExprId → Type 0) (sh : Shape) (n : TermId) where
  -- one of the constraints may take the triple (section 5.5.2, `matches` with a triple constraint)
  abbrev pub MayServe : List ℕ → Triple → Type 0
  MayServe constraints t = (p : Place) × IsOneOf constraints p × IsAllowed hold fail sh n t p

  -- one of the constraints may take the triple, no other constraint may, and it may not be in the remainder
  abbrev pub MustServe : List ℕ → Triple → Type 0
  MustServe constraints t = MayServe constraints t × ((p : Place) → IsAllowed hold fail sh n t p → IsOneOf constraints p)

  -- no triple has more than one place
  abbrev pub HaveNoChoice : List Triple → Type 0
  HaveNoChoice ts = (t : Triple) → Contains ts t → (p q : Place) → IsAllowed hold fail sh n t p → IsAllowed hold fail sh n t q → p ≡ q

-- ts are the relevant triples: those of the neighbourhood that a constraint fits by predicate and direction
module _ (hold fail : TermId → Option ExprId → Type 0) (g : List Triple) (sh : Shape) (n : TermId) (ts : List Triple) where
  -- the Shape is closed, and no constraint fits the arc out (section 5.5.2, `closed` and `unmatchables`)
  pub record IsForbidden (t : Triple) : Type 0 where
    pub closed : sh.closed ≡ true
    pub out : Contains (outs g n) t
    pub alone : is_relevant sh.occs n t ≡ false

  -- no constraint takes the triple, and it may not be in the remainder (section 5.5.2, `matchables` and `extra`); in a closed Shape
  -- that is also an arc from the node to itself which only an inverse constraint fits and does not take
  pub record IsUnmatched (t : Triple) : Type 0 where
    pub there : Contains ts t
    pub nowhere : (p : Place) → ¬ IsAllowed hold fail sh n t p

  -- in each match the constraints take at least so many triples together, and fewer may be taken by one of them (section 5.5.2,
  -- `matches` with the minimum of a cardinality)
  pub record IsTooFew (constraints : List ℕ) (least : ℕ) (found : List Triple) : Type 0 where
    pub expression : Plan
    pub is : sh.body ≡ Some expression
    pub take : TakeAtLeast expression constraints least
    pub those : AreThose (MayServe hold fail sh n constraints) ts found
    pub short : length found < least

  -- in each match the constraints take at most so many triples together, and more can be taken by them alone (section 5.5.2, `matches` with the
  -- maximum of a cardinality, and with one member of a OneOf)
  pub record IsTooMany (constraints : List ℕ) (most : ℕ) (found : List Triple) : Type 0 where
    pub expression : Plan
    pub is : sh.body ≡ Some expression
    pub take : TakeAtMost expression constraints most
    pub those : AreThose (MustServe hold fail sh n constraints) ts found
    pub over : most < length found

  -- low and high have one number for each constraint: how many triples it alone may take, and how many it may take; with no numbers
  -- between these the expression matches
  pub record HasNoMatchingCounts (low high : List ℕ) : Type 0 where
    pub expression : Plan
    pub is : sh.body ≡ Some expression
    pub low_is : length low ≡ length sh.occs
    pub high_is : length high ≡ length sh.occs
    pub least : (i : ℕ) → i < length sh.occs →
        (found : List Triple) × AreThose (MustServe hold fail sh n (i ∷ [])) ts found × (slice_index low i ≡ length found)
    pub most : (i : ℕ) → i < length sh.occs →
        (found : List Triple) × AreThose (MayServe hold fail sh n (i ∷ [])) ts found × (slice_index high i ≡ length found)
    pub none : (counts : ℕ → ℕ) →
        IsUnder expression (slice_index low) counts → IsUnder expression counts (slice_index high) → ¬ Copies expression counts 1

  -- no arc out is forbidden, no triple is unmatched, and numbers within the limits match; but wherever each triple has an allowed
  -- place, the expression does not match
  pub record HasNoMatchingPlaces : Type 0 where
    pub permitted : (t : Triple) → ¬ IsForbidden t
    pub matched : (t : Triple) → ¬ IsUnmatched t
    pub counted : (low high : List ℕ) → ¬ HasNoMatchingCounts low high
    pub none : (places : List Place) → AreAllowed hold fail sh n ts places → ¬ HaveCounts sh.body (times places)

  -- the reason is one why the node does not have the Shape
  abbrev pub IsReason : Reason → Type 0
  IsReason (Forbidden t) = IsForbidden t
  IsReason (Unmatched t) = IsUnmatched t
  IsReason (TooFew constraints least found) = IsTooFew constraints least found
  IsReason (TooMany constraints most found) = IsTooMany constraints most found
  IsReason (NoMatchingCounts low high) = HasNoMatchingCounts low high
  IsReason NoMatchingPlaces = HasNoMatchingPlaces

-- a reason of a node with a Shape, if it is there, where values are those of the typing T
abbrev pub IsTrueReasonOf : Schema → List Term → List Triple → List Pair → TermId → Option Shape → Reason → Type 0
IsTrueReasonOf s terms g T n None r = ⊥
IsTrueReasonOf s terms g T n (Some sh) r =
    IsReason (λ m v. SatValue (Sat s terms T m) v) (λ m v. ¬ SatValue (Sat s terms T m) v) g sh n (relevant_in_order terms g sh n) r

abbrev pub IsTrueReason : Schema → List Term → List Triple → List Pair → Pair → Reason → Type 0
IsTrueReason s terms g T p r = IsTrueReasonOf s terms g T p.node (shape_at s p.shape) r

-- a reason of a node with a Shape, if it is there, by what is known of pairs: a value that is Unknown may be satisfied, and may not be
abbrev pub IsKnownReasonOf : Schema → List Term → List Triple → Known → TermId → Option Shape → Reason → Type 0
IsKnownReasonOf s terms g view n None r = ⊥
IsKnownReasonOf s terms g view n (Some sh) r =
    IsReason (MayHold s terms view Possible) (MayFail s terms view Possible) g sh n (relevant_in_order terms g sh n) r

abbrev pub IsKnownReason : Schema → List Term → List Triple → Known → Pair → Reason → Type 0
IsKnownReason s terms g view p r = IsKnownReasonOf s terms g view p.node (shape_at s p.shape) r

-- by what is known no relevant triple of the node has more than one place
abbrev pub IsForcedOf : Schema → List Term → List Triple → Known → TermId → Option Shape → Type 0
IsForcedOf s terms g view n None = ⊥
IsForcedOf s terms g view n (Some sh) =
    HaveNoChoice (MayHold s terms view Possible) (MayFail s terms view Possible) sh n (relevant_in_order terms g sh n)

abbrev pub IsForced : Schema → List Term → List Triple → Known → Pair → Type 0
IsForced s terms g view p = IsForcedOf s terms g view p.node (shape_at s p.shape)

-- by what is known no relevant triple of the node has more than one place, and the expression of the Shape is flat
abbrev pub IsPlainCaseOf : Schema → List Term → List Triple → Known → TermId → Option Shape → Type 0
IsPlainCaseOf s terms g view n None = ⊥
IsPlainCaseOf s terms g view n (Some sh) = HasFlatBody sh.body × IsForcedOf s terms g view n (Some sh)

abbrev pub IsPlainCase : Schema → List Term → List Triple → Known → Pair → Type 0
IsPlainCase s terms g view p = IsPlainCaseOf s terms g view p.node (shape_at s p.shape)

-- the reason names a triple, or triple constraints
abbrev pub IsNamed : Reason → Type 0
IsNamed (NoMatchingCounts low high) = ⊥
IsNamed NoMatchingPlaces = ⊥
IsNamed r = ⊤

-- the reason says of these triple constraints that there are too few, or too many, triples for them, by the number of the expression as
-- far as 64 bits hold it
abbrev pub CountsFor : List ℕ → Plan → Reason → Type 0
CountsFor constraints c (TooFew these least found) = (these ≡ constraints) × (least ≡ min (least_of constraints c) (2 ^ 64 - 1))
CountsFor constraints c (TooMany these most found) = (these ≡ constraints) × (capped (most_of constraints c) ≡ Some most)
CountsFor constraints c r = ⊥

-- the reason says that of one triple constraint alone of the Shape of the pair
pub record IsOfConstraint (s : Schema) (p : Pair) (r : Reason) : Type 0 where
  pub shape : Shape
  pub there : shape_at s p.shape ≡ Some shape
  pub expression : Plan
  pub is : shape.body ≡ Some expression
  pub constraint : ℕ
  pub within : constraint < length shape.occs
  pub counts : CountsFor (constraint ∷ []) expression r

-- the reason is about one triple alone
abbrev pub IsOfTriple : Reason → Type 0
IsOfTriple (Forbidden t) = ⊤
IsOfTriple (Unmatched t) = ⊤
IsOfTriple r = ⊥
