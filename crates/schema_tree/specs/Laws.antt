-- The laws of satisfaction and typings. A function that does nothing claims each of them by its contract.
use Rattle.std.specs.Prelude.{ℕ, Bool, true, List, ◌+◌, ◌≡◌, ◌<◌, ◌≤◌, ◌⊎◌, ◌↔◌, length, drop, slice_index, filter, Some, Contains}
use Rattle.std.specs.List.Sorted.{IsPermutation}
use Rattle.rdf_terms.specs.declared.terms.Term.{Term}
use Rattle.rdf_terms.specs.declared.terms.TermId.{TermId}
use Rattle.rdf_terms.specs.declared.terms.Triple.{Triple}
use Rattle.rdf_terms.specs.Graphs.{neigh}
use Rattle.lists.specs.Distinct.{AreDistinct}
use Rattle.tally.specs.Plan.{Plan}
use Rattle.tally.specs.Span.{IsSound}
use Rattle.tally.specs.Symbols.{IsDistinct}
use Rattle.schema_tree.specs.declared.schema.ExprId.{ExprId}
use Rattle.schema_tree.specs.declared.schema.Occurrence.{Occurrence}
use Rattle.schema_tree.specs.declared.schema.Pair.{Pair}
use Rattle.schema_tree.specs.declared.schema.Schema.{Schema}
use Rattle.schema_tree.specs.declared.schema.Shape.{Shape}
use Rattle.schema_tree.specs.declared.schema.ShapeId.{ShapeId}
use Rattle.schema_tree.specs.declared.verdicts.Lean.{Lean}
use Rattle.schema_tree.specs.declared.verdicts.Lean.TheVariants.{Possible, Impossible}
use Rattle.schema_tree.specs.declared.verdicts.Place.{Place}
use Rattle.schema_tree.specs.declared.verdicts.State.{State}
use Rattle.schema_tree.specs.declared.verdicts.Verdict.{Verdict}
use Rattle.schema_tree.specs.declared.verdicts.Verdict.TheVariants.{Yes, No}
use Rattle.schema_tree.specs.Entries.{entry, pair_of, shape_at}
use Rattle.schema_tree.specs.Satisfies.{Sat, SatEntry, SatWithin}
use Rattle.schema_tree.specs.Matches.{SatValue}
use Rattle.schema_tree.specs.Shapes.{ShapeOk}
use Rattle.schema_tree.specs.Edges.{Edge, IsNegative, IsStratified, IsStratum, Path, StandsIn, level}
use Rattle.schema_tree.specs.Typings.{HaveSame, HoldsEnds, IsGreatestAt, IsPartOf, IsTheTyping}
use Rattle.schema_tree.specs.Loaded.{IsLoaded}
use Rattle.rdf_terms.specs.Order.{neighbourhood}
use Rattle.schema_tree.specs.Relevant.{is_relevant, relevant_in_order}
use Rattle.schema_tree.specs.Width.{HasWidth, IsPlain, coarse}
use Rattle.schema_tree.specs.Sure.{Agrees, IsSure, Known, PairIs, SureEntry, SureWithin}
use Rattle.schema_tree.specs.Places.{AreAllowed, CanMatch, HasPlaces, HaveCounts, MayFail, MayHold, PairCanMatch, times}
use Rattle.schema_tree.specs.States.{AreClosed, IsCovered, opening}
use Rattle.schema_tree.specs.Copied.{AreDealt, ArePlaced}
use Rattle.schema_tree.specs.Needs.{HoldNeeds, HoldRoots, IsDecided, IsDecidedByForm, LeadsToNarrow, Needs}
use Rattle.schema_tree.specs.Removal.{IsRefined, IsRefinedAt}
use Rattle.schema_tree.specs.Cycles.{HasNegatedCycle, IsNegatedCycle}

-- two complete typings over one list of terms have the same pairs
abbrev pub OneTyping : Type 0
OneTyping =
    (s : Schema) (terms : List Term) (g : List Triple) (f : List ℕ) (U : List TermId) (T W : List Pair) →
    IsTheTyping s terms g f U T → IsTheTyping s terms g f U W → HaveSame T W

-- a stratified schema has a complete typing over every list of terms
abbrev pub TypingExists : Type 0
TypingExists =
    (s : Schema) (terms : List Term) (g : List Triple) (f : List ℕ) (U : List TermId) → IsLoaded s → IsStratified s f →
    (T : List Pair) × IsTheTyping s terms g f U T

-- complete typings by any two stratifications, over any two lists of terms that hold the graph's ends, have the same pairs
-- of each node that stands in both lists
abbrev pub StrataAlike : Type 0
StrataAlike =
    (s : Schema) (terms : List Term) (g : List Triple) (f h : List ℕ) (U V : List TermId) (T W : List Pair) →
    IsStratified s f → IsStratified s h → HoldsEnds U g → HoldsEnds V g →
    IsTheTyping s terms g f U T → IsTheTyping s terms g h V W →
    (p : Pair) → Contains U p.node → Contains V p.node → Contains T p ↔ Contains W p

-- so those over one list have the same pairs
abbrev pub StrataGiveOneTyping : Type 0
StrataGiveOneTyping =
    (s : Schema) (terms : List Term) (g : List Triple) (f h : List ℕ) (U : List TermId) (T W : List Pair) →
    IsStratified s f → IsStratified s h → HoldsEnds U g →
    IsTheTyping s terms g f U T → IsTheTyping s terms g h U W → HaveSame T W

-- and those over two lists give the same answers for a node that stands in both
abbrev pub AnswersAlike : Type 0
AnswersAlike =
    (s : Schema) (terms : List Term) (g : List Triple) (f h : List ℕ) (U V : List TermId) (T W : List Pair) →
    IsStratified s f → IsStratified s h → HoldsEnds U g → HoldsEnds V g →
    IsTheTyping s terms g f U T → IsTheTyping s terms g h V W →
    (n : TermId) (e : ExprId) → Contains U n → Contains V n → Sat s terms T n e ↔ Sat s terms W n e

-- a node satisfies an expression under a typing, or it does not
abbrev pub SatIsDecided : Type 0
SatIsDecided =
    (s : Schema) (terms : List Term) (T : List Pair) (n : TermId) (e : ExprId) → Sat s terms T n e ⊎ (¬ Sat s terms T n e)

-- a node has a Shape of a loaded schema under a typing, or it does not
abbrev pub ShapesAreDecided : Type 0
ShapesAreDecided =
    (s : Schema) (terms : List Term) (g : List Triple) (T : List Pair) (n : TermId) (i : ShapeId) → IsLoaded s →
    ShapeOk s terms g T n i ⊎ (¬ ShapeOk s terms g T n i)

-- the strata are a stratification
abbrev pub StrataAreStratified : Type 0
StrataAreStratified = (s : Schema) (f : List ℕ) → IsStratum s f → IsStratified s f

-- and no other one has a lower number anywhere
abbrev pub StrataAreLeast : Type 0
StrataAreLeast = (s : Schema) (f h : List ℕ) → IsStratum s f → IsStratified s h → (i : ShapeId) → level f i ≤ level h i

-- a schema that has a stratification has no cycle with a negative edge
abbrev pub StratifiedHasNoCycle : Type 0
StratifiedHasNoCycle = (s : Schema) (f : List ℕ) → IsStratified s f → ¬ HasNegatedCycle s

-- without such a cycle no path has more negative edges counted than there are Shapes
abbrev pub PathsAreShort : Type 0
PathsAreShort = (s : Schema) → ¬ HasNegatedCycle s → (i t : ShapeId) (k : ℕ) → Path s i t k → k ≤ length s.shapes

-- there is such a cycle exactly where some list of Shapes is one
abbrev pub CyclesAreLists : Type 0
CyclesAreLists = (s : Schema) → HasNegatedCycle s ↔ ((is : List ShapeId) × IsNegatedCycle s is)

-- under a loaded schema an expression asks of a node what its own layer asks of its members
abbrev pub SatIsItsLayer : Type 0
SatIsItsLayer =
    (s : Schema) (terms : List Term) (T : List Pair) (n : TermId) (e : ExprId) → IsLoaded s →
    Sat s terms T n e ↔ SatEntry T terms n (Sat s terms T n) (entry s e)

-- and any two bounds on the members of members that are above its number ask the same
abbrev pub SatKnowsNoBound : Type 0
SatKnowsNoBound =
    (s : Schema) (terms : List Term) (T : List Pair) (n : TermId) (e : ExprId) (k m : ℕ) →
    IsLoaded s → e.0 < k → e.0 < m →
    SatWithin k s terms T n e ↔ SatWithin m s terms T n e

-- the verdict on an expression is its own layer's over the verdicts on its members
abbrev pub SureIsItsLayer : Type 0
SureIsItsLayer =
    (s : Schema) (terms : List Term) (view : Known) (n : TermId) (e : ExprId) (v : Verdict) → IsLoaded s →
    IsSure s terms view n e v ↔ SureEntry view terms n (IsSure s terms view n) (entry s e) v

-- whatever the bound
abbrev pub SureKnowsNoBound : Type 0
SureKnowsNoBound =
    (s : Schema) (terms : List Term) (view : Known) (n : TermId) (e : ExprId) (v : Verdict) (k m : ℕ) →
    IsLoaded s → e.0 < k → e.0 < m →
    SureWithin k s terms view n e v ↔ SureWithin m s terms view n e v

-- two views that answer alike on each pair make the same sure
abbrev pub SureFollowsAnswers : Type 0
SureFollowsAnswers =
    (s : Schema) (terms : List Term) (view other : Known) → IsLoaded s →
    ((p : Pair) (v : Verdict) → PairIs view p v ↔ PairIs other p v) →
    (n : TermId) (e : ExprId) (v : Verdict) → IsSure s terms view n e v ↔ IsSure s terms other n e v

-- an expression stays satisfied where the pairs of the node with the Shapes that stand in it stay, and none with a Shape
-- behind a ShapeNot is new
abbrev pub SatFollowsPairs : Type 0
SatFollowsPairs =
    (s : Schema) (terms : List Term) (T W : List Pair) (n : TermId) (e : ExprId) →
    ((i : ShapeId) (sign : Bool) → StandsIn s i e sign → Contains T (pair_of n i) → Contains W (pair_of n i)) →
    ((i : ShapeId) → StandsIn s i e true → Contains W (pair_of n i) → Contains T (pair_of n i)) →
    Sat s terms T n e → Sat s terms W n e

-- a node keeps a Shape where, at the ends of the graph, the pairs to which an edge of the Shape leads stay, and none to
-- which a negative one leads is new
abbrev pub ShapesFollowEdges : Type 0
ShapesFollowEdges =
    (s : Schema) (terms : List Term) (g : List Triple) (U : List TermId) (T W : List Pair) (i : ShapeId) → HoldsEnds U g →
    ((j : ShapeId) → Edge s i j → (m : TermId) → Contains U m → Contains T (pair_of m j) → Contains W (pair_of m j)) →
    ((j : ShapeId) (e : Edge s i j) → IsNegative e →
    (m : TermId) → Contains U m → Contains W (pair_of m j) → Contains T (pair_of m j)) →
    (n : TermId) → ShapeOk s terms g T n i → ShapeOk s terms g W n i

-- a node keeps a Shape of the stratum k where pairs of that stratum come to a typing and those below it stay as they are
abbrev pub ShapesGrow : Type 0
ShapesGrow =
    (s : Schema) (terms : List Term) (g : List Triple) (f : List ℕ) (k : ℕ) (T W : List Pair) → IsStratified s f →
    ((p : Pair) → level f p.shape ≤ k → Contains T p → Contains W p) →
    ((p : Pair) → level f p.shape < k → Contains W p → Contains T p) →
    (n : TermId) (i : ShapeId) → level f i ≡ k → ShapeOk s terms g T n i → ShapeOk s terms g W n i

-- triples deal into k parts that each match an expression only where places for them spell k copies of it
abbrev pub PartsSpellCopies : Type 0
PartsSpellCopies =
    (s : Schema) (terms : List Term) (T : List Pair) (occs : List Occurrence) (n : TermId) (c : Plan) (k : ℕ) (ts : List Triple) →
    IsDistinct c →
    AreDealt (Sat s terms T) occs n c k ts → ArePlaced (Sat s terms T) occs n c k ts

-- and wherever they do
abbrev pub CopiesGiveParts : Type 0
CopiesGiveParts =
    (s : Schema) (terms : List Term) (T : List Pair) (occs : List Occurrence) (n : TermId) (c : Plan) (k : ℕ) (ts : List Triple) →
    IsDistinct c → IsSound c →
    ArePlaced (Sat s terms T) occs n c k ts → AreDealt (Sat s terms T) occs n c k ts

-- a node has a Shape exactly where the pair is not shut and some allowed places, one for each relevant triple, have
-- matching counts, in whatever order the neighbourhood is read
abbrev pub ShapesArePlaces : Type 0
ShapesArePlaces =
    (s : Schema) (terms : List Term) (g order : List Triple) (T : List Pair) (n : TermId) (i : ShapeId) (sh : Shape) →
    IsLoaded s → shape_at s i ≡ Some sh → IsPermutation (neigh g n) order →
    ShapeOk s terms g T n i
    ↔ HasPlaces (λ m v. SatValue (Sat s terms T m) v) (λ m v. ¬ SatValue (Sat s terms T m) v) g sh n
    (filter (is_relevant sh.occs n) order)

-- the order of a neighbourhood has its triples, each as often
abbrev pub OrderIsWhole : Type 0
OrderIsWhole = (terms : List Term) (g : List Triple) (n : TermId) → IsPermutation (neigh g n) (neighbourhood terms g n)

-- a sure Yes is satisfied in every typing that agrees, and a sure No is not
abbrev pub SureIsTrue : Type 0
SureIsTrue =
    (s : Schema) (terms : List Term) (view : Known) (T : List Pair) (n : TermId) (e : ExprId) → Agrees T view →
    (IsSure s terms view n e Yes → Sat s terms T n e) × (IsSure s terms view n e No → ¬ Sat s terms T n e)

-- at most one verdict is sure
abbrev pub OneVerdict : Type 0
OneVerdict =
    (s : Schema) (terms : List Term) (view : Known) (n : TermId) (e : ExprId) (v w : Verdict) →
    IsSure s terms view n e v → IsSure s terms view n e w → v ≡ w

-- and one is
abbrev pub SomeVerdict : Type 0
SomeVerdict =
    (s : Schema) (terms : List Term) (view : Known) (n : TermId) (e : ExprId) → (v : Verdict) × IsSure s terms view n e v

-- a pair that matches where Unknown is impossible has its Shape in every typing that agrees
abbrev pub MatchIsTrue : Type 0
MatchIsTrue =
    (s : Schema) (terms : List Term) (g : List Triple) (view : Known) (T : List Pair) (p : Pair) → IsLoaded s → Agrees T view →
    PairCanMatch s terms g view Impossible p → ShapeOk s terms g T p.node p.shape

-- a pair that cannot match where Unknown is possible has its Shape in none
abbrev pub NoMatchIsTrue : Type 0
NoMatchIsTrue =
    (s : Schema) (terms : List Term) (g : List Triple) (view : Known) (T : List Pair) (p : Pair) → IsLoaded s → Agrees T view →
    ¬ PairCanMatch s terms g view Possible p → ¬ ShapeOk s terms g T p.node p.shape

-- from a state that a closed list has, or a dead one, no allowed places for the triples that are left have matching counts
abbrev pub StatesLeadNowhere : Type 0
StatesLeadNowhere =
    (s : Schema) (terms : List Term) (view : Known) (lean : Lean) (sh : Shape) (n : TermId) (ts : List Triple) (states : List State) →
    AreClosed (MayHold s terms view lean) (MayFail s terms view lean) sh n ts states →
    (x : State) → IsCovered sh n ts states x → (ps : List Place) →
    AreAllowed (MayHold s terms view lean) (MayFail s terms view lean) sh n (drop x.done ts) ps →
    ¬ HaveCounts sh.body (λ i. slice_index x.counts i + times ps i)

-- so where it has the opening state, or that is dead, the pair cannot match
abbrev pub StatesRefute : Type 0
StatesRefute =
    (s : Schema) (terms : List Term) (g : List Triple) (view : Known) (lean : Lean) (sh : Shape) (n : TermId) (states : List State) →
    AreClosed (MayHold s terms view lean) (MayFail s terms view lean) sh n (relevant_in_order terms g sh n) states →
    IsCovered sh n (relevant_in_order terms g sh n) states (opening sh) → ¬ CanMatch s terms g view lean n (Some sh)

-- where the view answers Yes or No, as the typing does, for each pair that a pair needs, it can match exactly where it has
-- its Shape, however Unknown counts
abbrev pub MatchIsExact : Type 0
MatchIsExact =
    (s : Schema) (terms : List Term) (g : List Triple) (view : Known) (T : List Pair) (p : Pair) (lean : Lean) → IsLoaded s →
    ((q : Pair) → Needs s g p q → (Contains T q → PairIs view q Yes) × (¬ Contains T q → PairIs view q No)) →
    PairCanMatch s terms g view lean p ↔ ShapeOk s terms g T p.node p.shape

-- the pairs that refinement keeps on a stratum are in the complete typing, and those that went are not, where that is so
-- of the verdicts below the stratum
abbrev pub StratumIsTrue : Type 0
StratumIsTrue =
    (s : Schema) (terms : List Term) (g : List Triple) (f : List ℕ) (U : List TermId) (T : List Pair) (k : ℕ) →
    IsLoaded s → IsGreatestAt s terms g f U T k →
    (lower : Known) → ((p : Pair) → Contains lower.yes p → Contains T p × (level f p.shape < k)) →
    ((p : Pair) → Contains lower.no p → ¬ Contains T p) →
    (pairs : List Pair) (budget : ℕ) → ((p : Pair) → Contains pairs p → Contains U p.node) →
    (gone kept : List Pair) → IsRefinedAt s terms g f pairs budget lower k gone kept →
    IsPartOf kept T × ((p : Pair) → Contains gone p → ¬ Contains T p)

-- so the complete typing agrees with the verdicts of refinement on all strata
abbrev pub RefinementIsTrue : Type 0
RefinementIsTrue =
    (s : Schema) (terms : List Term) (g : List Triple) (f : List ℕ) (U : List TermId) (T : List Pair) →
    IsLoaded s → IsTheTyping s terms g f U T →
    (pairs : List Pair) (budget : ℕ) → ((p : Pair) → Contains pairs p → Contains U p.node) →
    (known : Known) → IsRefined s terms g f pairs budget known → Agrees T known

-- distinct pairs have a refinement
abbrev pub RefinementExists : Type 0
RefinementExists =
    (s : Schema) (terms : List Term) (g : List Triple) (f : List ℕ) (pairs : List Pair) (budget : ℕ) → IsLoaded s → AreDistinct pairs →
    (known : Known) × IsRefined s terms g f pairs budget known

-- any two refinements of the same pairs have the same Yes pairs, and the same No pairs in the same order
abbrev pub OneRefinement : Type 0
OneRefinement =
    (s : Schema) (terms : List Term) (g : List Triple) (f : List ℕ) (pairs : List Pair) (budget : ℕ) (known known' : Known) →
    IsLoaded s → IsRefined s terms g f pairs budget known → IsRefined s terms g f pairs budget known' →
    HaveSame known.yes known'.yes × (known.no ≡ known'.no)

-- refinement has a verdict on each pair from which no needs lead to a pair whose Width is above the budget
abbrev pub NarrowIsKnown : Type 0
NarrowIsKnown =
    (s : Schema) (terms : List Term) (g : List Triple) (f : List ℕ) (pairs : List Pair) (budget : ℕ) (known : Known) →
    IsLoaded s → IsStratified s f → HoldNeeds s g pairs → IsRefined s terms g f pairs budget known →
    (p : Pair) → Contains pairs p → LeadsToNarrow s terms g budget p → Contains known.yes p ⊎ Contains known.no p

-- so it answers each node with an expression that reaches no such pair
abbrev pub DecidedIsSure : Type 0
DecidedIsSure =
    (s : Schema) (terms : List Term) (g : List Triple) (f : List ℕ) (pairs : List Pair) (budget : ℕ) (known : Known) →
    IsLoaded s → IsStratified s f → HoldNeeds s g pairs → IsRefined s terms g f pairs budget known →
    (n : TermId) (e : ExprId) → HoldRoots s pairs n e → IsDecided s terms g budget n e →
    IsSure s terms known n e Yes ⊎ IsSure s terms known n e No

-- and the answer is that of the complete typing
abbrev pub DecidedIsAnswered : Type 0
DecidedIsAnswered =
    (s : Schema) (terms : List Term) (g : List Triple) (f : List ℕ) (pairs : List Pair) (budget : ℕ) (known : Known) →
    IsLoaded s → IsStratified s f → HoldNeeds s g pairs → IsRefined s terms g f pairs budget known →
    (U : List TermId) → ((p : Pair) → Contains pairs p → Contains U p.node) → (T : List Pair) → IsTheTyping s terms g f U T →
    (n : TermId) (e : ExprId) → HoldRoots s pairs n e → IsDecided s terms g budget n e →
    (IsSure s terms known n e Yes ↔ Sat s terms T n e) × (IsSure s terms known n e No ↔ (¬ Sat s terms T n e))

-- the Width of a pair is 1 where its Shape has no inverse occurrence, no EXTRA and one occurrence for each predicate
abbrev pub PlainShapesAreNarrow : Type 0
PlainShapesAreNarrow =
    (s : Schema) (terms : List Term) (g : List Triple) (p : Pair) (sh : Shape) → shape_at s p.shape ≡ Some sh → IsPlain sh → HasWidth s terms g p 1

-- each pair has one Width
abbrev pub WidthIsOne : Type 0
WidthIsOne =
    (s : Schema) (terms : List Term) (g : List Triple) (p : Pair) →
    ((w : ℕ) × HasWidth s terms g p w) × ((v w : ℕ) → HasWidth s terms g p v → HasWidth s terms g p w → v ≡ w)

-- it is at most the product over the classes by form alone
abbrev pub WidthIsNarrower : Type 0
WidthIsNarrower = (s : Schema) (terms : List Term) (g : List Triple) (p : Pair) (w : ℕ) → HasWidth s terms g p w → w ≤ coarse s g p

-- so a node with an expression that is decided by form alone is decided
abbrev pub DecidedByFormIsDecided : Type 0
DecidedByFormIsDecided =
    (s : Schema) (terms : List Term) (g : List Triple) (budget : ℕ) (n : TermId) (e : ExprId) →
    IsDecidedByForm s g budget n e → IsDecided s terms g budget n e
