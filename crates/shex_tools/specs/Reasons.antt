-- Why associations are not as asked, by the verdicts of refinement (ShEx 2.1, section 5.2; own: the status).
use Rattle.std.specs.Prelude.{ℕ, Bool, true, false, not, List, ◌≤◌, All, Contains, if◌then◌else◌, map}
use Rattle.std.specs.List.{AllZip, list_all, list_any, zip}
use Rattle.command_words.specs.Requests.{max_budget}
use Rattle.demand.specs.Demand.{AreAsked}
use Rattle.explanations.specs.Explanations.{IsExplanation}
use Rattle.explanations.specs.Laws.{IsDenied}
use Rattle.explanations.specs.Mentions.{blocks_of}
use Rattle.explanations.specs.declared.explanation.Block.{Block}
use Rattle.explanations.specs.declared.explanation.Block.TheVariants.{Reasons}
use Rattle.explanations.specs.declared.explanation.Explanation.{Explanation}
use Rattle.explanations.specs.declared.explanation.Told.{Told}
use Rattle.explanations.specs.declared.explanation.ToldReason.{ToldReason}
use Rattle.graph_index.specs.Contents.{IsSealedWith}
use Rattle.graph_index.specs.Laws.{IsOfTable}
use Rattle.nonconformance.specs.Reasons.{IsTrueReason}
use Rattle.proof_file.specs.Accepts.{verdict_of}
use Rattle.rdf_terms.specs.declared.terms.Term.{Term}
use Rattle.rdf_terms.specs.declared.terms.TermId.{TermId}
use Rattle.rdf_terms.specs.declared.terms.Triple.{Triple}
use Rattle.schema_tree.specs.Edges.{IsStratum}
use Rattle.schema_tree.specs.Loaded.{IsLoaded}
use Rattle.schema_tree.specs.Needs.{HoldNeeds, LeadsToNarrow, ReachesWide}
use Rattle.schema_tree.specs.Sure.{IsSure, Known}
use Rattle.schema_tree.specs.Truths.{IsTruth, IsTypingOf}
use Rattle.schema_tree.specs.Typings.{HoldsEnds}
use Rattle.schema_tree.specs.declared.schema.Pair.{Pair}
use Rattle.schema_tree.specs.declared.schema.Schema.{Schema}
use Rattle.schema_tree.specs.declared.verdicts.Verdict.{Verdict}
use Rattle.schema_tree.specs.declared.verdicts.Verdict.TheVariants.{Yes, No, Unknown}
use Rattle.shape_map.specs.Answers.{IsAsked}
use Rattle.shape_map.specs.declared.resolve.Association.{Association}
use Rattle.shex_inputs.specs.Asked.{root_of}
use Rattle.shex_inputs.specs.declared.holding.Holding.{Holding}
use Rattle.typing_refiner.specs.Statements.{IsRefinementOf}
use Rattle.typing_refiner.specs.declared.building.WidePair.{WidePair}
use Rattle.wide_pairs.specs.Wide.{AreWide}

-- the verdict is as it is asked for
abbrev pub is_as_asked : Bool → Verdict → Bool
is_as_asked want Yes = want
is_as_asked want No = not want
is_as_asked want Unknown = false

abbrev pub is_unknown : Verdict → Bool
is_unknown Yes = false
is_unknown No = false
is_unknown Unknown = true

-- some verdict that is told is Unknown
unfoldable pub are_undecided : List Told → Bool
are_undecided answers = list_any (λ t. is_unknown t.verdict) answers

-- each verdict that is told is as it is asked for
unfoldable pub are_as_asked : List Association → List Told → Bool
are_as_asked asked answers = list_all (λ (p : Association × Told). is_as_asked p.0.want p.1.verdict) (zip asked answers)

-- the status of what is told of associations: 4 where a verdict is Unknown, 0 where each is as it is asked for, and else 1
abbrev pub status_of : List Association → List Told → ℕ
status_of asked answers = if are_undecided answers then 4 else if are_as_asked asked answers then 0 else 1

module _ (s : Schema) (terms : List Term) (g : List Triple) where
  -- the verdict is true: whether the complete typing satisfies the association's expression at its node; and it is Unknown only where
  -- that depends on a pair whose Width is above the budget
  abbrev pub IsTrueVerdict : ℕ → Association → Verdict → Type 0
  IsTrueVerdict budget a Yes = IsTruth s terms g a.node a.expr true
  IsTrueVerdict budget a No = IsTruth s terms g a.node a.expr false
  IsTrueVerdict budget a Unknown = ReachesWide s terms g budget a.node a.expr

  -- the verdict that is told of an association is true
  abbrev pub IsToldTruly : ℕ → Association → Told → Type 0
  IsToldTruly budget a t = IsTrueVerdict budget a t.verdict

  -- the complete typing denies what each block is about: its node does not have the Shape, or does not satisfy the expression
  abbrev pub AreDenied : List Pair → List Block → Type 0
  AreDenied pairs blocks =
      (f : List ℕ) (U : List TermId) (T : List Pair) → HoldsEnds U g → ((p : Pair) → Contains pairs p → Contains U p.node) →
      IsTypingOf s terms g f U T → (b : Block) → Contains blocks b → IsDenied s terms T b

  -- where no needs lead from a node with a Shape to a pair whose Width is above the budget, each reason that its block tells is true of
  -- the complete typing
  abbrev pub HaveTrueReasons : ℕ → List Pair → List Block → Type 0
  HaveTrueReasons budget pairs blocks =
      (f : List ℕ) (U : List TermId) (T : List Pair) → HoldsEnds U g → ((p : Pair) → Contains pairs p → Contains U p.node) →
      IsTypingOf s terms g f U T → (p : Pair) (told : List ToldReason) → Contains blocks (Reasons p told) →
      LeadsToNarrow s terms g budget p → (r : ToldReason) → Contains told r → IsTrueReason s terms g T p r.reason

  -- f gives the Shapes their strata, and the associations ask for the pairs
  module _ (f : List ℕ) (budget : ℕ) (asked : List Association) (pairs : List Pair) where
    -- the explanation of the associations by the verdicts of refinement on the pairs, each of which is true, as is each block with its
    -- reasons; and the pairs whose Width is above the budget
    pub record AreTrueReasons (x : Explanation) (wide : List WidePair) : Type 0 where
      pub verdicts : Known
      pub refined : IsRefinementOf s terms g f budget pairs verdicts
      pub explained : IsExplanation s terms verdicts g asked x
      pub told_truly : AllZip (IsToldTruly budget) asked x.answers
      pub denied : AreDenied pairs (blocks_of x)
      pub true_reasons : HaveTrueReasons budget pairs (blocks_of x)
      pub are_wide : AreWide s terms g budget pairs wide

-- by verdicts on pairs: the verdict on the expression of some association is Unknown; or that of some is not as asked; or that of each is
module _ (s : Schema) (terms : List Term) (verdicts : Known) (asked : List Association) where
  pub record HaveUnknown : Type 0 where
    pub association : Association
    pub listed : Contains asked association
    pub unknown : IsSure s terms verdicts association.node association.expr Unknown

  pub record HaveFailing : Type 0 where
    pub association : Association
    pub listed : Contains asked association
    pub failing : IsSure s terms verdicts association.node association.expr (verdict_of (not association.want))

  abbrev pub AreAsAsked : Type 0
  AreAsAsked = (a : Association) → Contains asked a → IsSure s terms verdicts a.node a.expr (verdict_of a.want)

-- the associations can be explained over the schema, the table and the graph that are held, by the pairs that they reach
pub record IsReady (h : Holding) (asked : List Association) (pairs : List Pair) (budget : ℕ) : Type 0 where
  pub within : budget ≤ max_budget
  pub loaded : IsLoaded h.schema
  pub strata : IsStratum h.schema h.strata
  pub sealed : IsSealedWith h.terms h.graph
  pub of_table : All (IsOfTable h.terms) h.graph.triples
  pub asked_for : All (IsAsked h.schema h.terms) asked
  pub reached : AreAsked h.schema h.terms h.graph.triples (map root_of asked) pairs
  pub needs : HoldNeeds h.schema h.graph.triples pairs
