-- Laws of reasons and causes. A function that does nothing claims each of them by its contract.
use Rattle.std.specs.Prelude.{ℕ, true, List, ◌≡◌, ◌<◌, ◌≤◌, ◌⊎◌, ◌++◌, Contains, None, Some, slice_get, take}
use Rattle.rdf_terms.specs.declared.terms.Term.{Term}
use Rattle.rdf_terms.specs.declared.terms.TermId.{TermId}
use Rattle.rdf_terms.specs.declared.terms.Triple.{Triple}
use Rattle.tally.specs.Plan.{Plan}
use Rattle.tally.specs.Span.{IsSound}
use Rattle.tally.specs.Symbols.{IsDistinct}
use Rattle.schema_tree.specs.declared.schema.Expr.{Expr}
use Rattle.schema_tree.specs.declared.schema.ExprId.{ExprId}
use Rattle.schema_tree.specs.declared.schema.Occurrence.{Occurrence}
use Rattle.schema_tree.specs.declared.schema.Pair.{Pair}
use Rattle.schema_tree.specs.declared.schema.Schema.{Schema}
use Rattle.schema_tree.specs.declared.schema.Shape.{Shape}
use Rattle.schema_tree.specs.declared.verdicts.Lean.TheVariants.{Possible}
use Rattle.schema_tree.specs.declared.verdicts.Verdict.TheVariants.{Yes, No}
use Rattle.schema_tree.specs.Edges.{level}
use Rattle.schema_tree.specs.Entries.{entry, shape_at}
use Rattle.schema_tree.specs.Loaded.{IsLoaded}
use Rattle.schema_tree.specs.Matches.{fits, other_end}
use Rattle.schema_tree.specs.Needs.{Needs}
use Rattle.schema_tree.specs.Places.{PairCanMatch}
use Rattle.schema_tree.specs.Removal.{IsRefined, IsRefinedAt}
use Rattle.schema_tree.specs.Shapes.{ShapeOk}
use Rattle.schema_tree.specs.Sure.{Agrees, IsSure, Known, PairIs}
use Rattle.nonconformance.specs.declared.cause.Cause.{Cause}
use Rattle.nonconformance.specs.declared.reason.Reason.{Reason}
use Rattle.nonconformance.specs.declared.reason.Reason.TheVariants.{Unmatched}
use Rattle.nonconformance.specs.Bounds.{HasChoices, MayTakeJust, TakeAtLeast, TakeAtMost, least_of, most_of}
use Rattle.nonconformance.specs.Causes.{IsCause}
use Rattle.nonconformance.specs.Reasons.{IsKnownReason, IsTrueReason}

-- a reason that is true of a typing is enough: the node does not have the Shape under it
abbrev pub ReasonIsEnough : Type 0
ReasonIsEnough =
    (s : Schema) (terms : List Term) (g : List Triple) (T : List Pair) (p : Pair) (r : Reason) → IsLoaded s →
    IsTrueReason s terms g T p r → ¬ ShapeOk s terms g T p.node p.shape

-- a reason by what is known of pairs is enough: the pair cannot match by that, and the node does not have the Shape under any typing
-- that agrees with it
abbrev pub KnownReasonIsEnough : Type 0
KnownReasonIsEnough =
    (s : Schema) (terms : List Term) (g : List Triple) (view : Known) (p : Pair) (r : Reason) → IsLoaded s →
    IsKnownReason s terms g view p r →
    (¬ PairCanMatch s terms g view Possible p) × ((T : List Pair) → Agrees T view → ¬ ShapeOk s terms g T p.node p.shape)

-- where the view answers Yes or No, as the typing does, for each pair that a pair needs, a reason by what is known is true of the typing
abbrev pub KnownReasonIsTrue : Type 0
KnownReasonIsTrue =
    (s : Schema) (terms : List Term) (g : List Triple) (view : Known) (T : List Pair) (p : Pair) (r : Reason) → IsLoaded s →
    ((q : Pair) → Needs s g p q → (Contains T q → PairIs view q Yes) × (¬ Contains T q → PairIs view q No)) →
    IsKnownReason s terms g view p r → IsTrueReason s terms g T p r

-- a pair of a Shape of the schema that cannot match by what is known has a reason: a forbidden arc, an unmatched triple, numbers of
-- triples with which nothing matches, or, where none of these is there, that nothing matches wherever each triple has an allowed place
abbrev pub SomeReason : Type 0
SomeReason =
    (s : Schema) (terms : List Term) (g : List Triple) (view : Known) (p : Pair) (sh : Shape) → IsLoaded s → shape_at s p.shape ≡ Some sh →
    ¬ PairCanMatch s terms g view Possible p → (r : Reason) × IsKnownReason s terms g view p r

-- the value of each constraint that fits an unmatched triple is sure to be not satisfied at its other end
abbrev pub UnmatchedHasCauses : Type 0
UnmatchedHasCauses =
    (s : Schema) (terms : List Term) (g : List Triple) (view : Known) (p : Pair) (sh : Shape) (t : Triple) → shape_at s p.shape ≡ Some sh →
    IsKnownReason s terms g view p (Unmatched t) → (o : Occurrence) → Contains sh.occs o → fits o p.node t ≡ true →
    (e : ExprId) × (o.value ≡ Some e) × IsSure s terms view (other_end o.inverse t) e No

-- a cause is enough: by what is known the node is sure not to satisfy the expression
abbrev pub CauseIsEnough : Type 0
CauseIsEnough =
    (s : Schema) (terms : List Term) (view : Known) (n : TermId) (e : ExprId) (cause : Cause) → IsLoaded s →
    IsCause s terms view n e cause → IsSure s terms view n e No

-- each node that is sure not to satisfy an expression has a cause
abbrev pub SomeCause : Type 0
SomeCause =
    (s : Schema) (terms : List Term) (view : Known) (n : TermId) (e : ExprId) (x : Expr) → IsLoaded s → entry s e ≡ Some x →
    IsSure s terms view n e No → (cause : Cause) × IsCause s terms view n e cause

-- a pair that refinement finds to be not satisfied cannot match by all that refinement finds, so its reasons can be sought by that
abbrev pub NoCannotMatch : Type 0
NoCannotMatch =
    (s : Schema) (terms : List Term) (g : List Triple) (f : List ℕ) (pairs : List Pair) (budget : ℕ) (known : Known) →
    IsRefined s terms g f pairs budget known → (p : Pair) → Contains known.no p →
    PairIs known p No × (¬ PairCanMatch s terms g known Possible p)

-- a pair that went from its stratum has a reason by what was known then, and a pair that was known not to be satisfied is of a lower
-- stratum, or went before it: so reasons of reasons come to an end
abbrev pub ReasonsGoBack : Type 0
ReasonsGoBack =
    (s : Schema) (terms : List Term) (g : List Triple) (f : List ℕ) (pairs : List Pair) (budget : ℕ) (lower : Known) (k : ℕ) →
    (gone kept : List Pair) → IsLoaded s → IsRefinedAt s terms g f pairs budget lower k gone kept →
    ((q : Pair) → Contains lower.no q → level f q.shape < k) →
    (r : ℕ) (p : Pair) (sh : Shape) → slice_get gone r ≡ Some p → shape_at s p.shape ≡ Some sh →
    ((x : Reason) × IsKnownReason s terms g (record { yes = lower.yes; no = lower.no ++ take r gone }) p x)
    × ((q : Pair) → PairIs (record { yes = lower.yes; no = lower.no ++ take r gone }) q No →
    (level f q.shape < k) ⊎ ((j : ℕ) × (j < r) × (slice_get gone j ≡ Some q)))

-- the No pairs of refinement stand in the order in which they went; each has a reason by what was known when it went: the No pairs
-- before it, and Yes pairs of lower strata
abbrev pub NoHasReason : Type 0
NoHasReason =
    (s : Schema) (terms : List Term) (g : List Triple) (f : List ℕ) (pairs : List Pair) (budget : ℕ) (known : Known) → IsLoaded s →
    IsRefined s terms g f pairs budget known →
    (j : ℕ) (p : Pair) (sh : Shape) → slice_get known.no j ≡ Some p → shape_at s p.shape ≡ Some sh →
    (yes : List Pair) × ((r : Reason) × IsKnownReason s terms g (record { yes = yes; no = take j known.no }) p r)
    × ((q : Pair) → Contains yes q → Contains known.yes q × (level f q.shape < level f p.shape))

-- in each match of an expression in which each symbol stands once, some constraints take together at least the sum of what the members
-- want
abbrev pub LeastIsKept : Type 0
LeastIsKept = (c : Plan) (constraints : List ℕ) → IsDistinct c → TakeAtLeast c constraints (least_of constraints c)

-- in each match of an expression in which each symbol stands once, some constraints take together at most the sum of what the members
-- allow
abbrev pub MostIsKept : Type 0
MostIsKept = (c : Plan) (constraints : List ℕ) (most : ℕ) → IsDistinct c → most_of constraints c ≡ Some most → TakeAtMost c constraints most

-- some match takes just the least, where no minimum is above its bound and each OneOf has a member
abbrev pub LeastIsTaken : Type 0
LeastIsTaken = (c : Plan) (constraints : List ℕ) → IsDistinct c → IsSound c → HasChoices c → MayTakeJust c constraints (least_of constraints c)

-- some match takes just the most, if there is one, where no minimum is above its bound and each OneOf has a member
abbrev pub MostIsTaken : Type 0
MostIsTaken =
    (c : Plan) (constraints : List ℕ) (most : ℕ) → IsDistinct c → IsSound c → HasChoices c → most_of constraints c ≡ Some most →
    MayTakeJust c constraints most

-- where there is no most, no minimum is above its bound and each OneOf has a member, some match takes as many as one likes, or more
abbrev pub ManyAreTaken : Type 0
ManyAreTaken =
    (c : Plan) (constraints : List ℕ) → IsDistinct c → IsSound c → HasChoices c → most_of constraints c ≡ None →
    (wanted : ℕ) → (count : ℕ) × (wanted ≤ count) × MayTakeJust c constraints count
