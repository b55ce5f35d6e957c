-- The law of answers, which a function that does nothing claims, and the laws that their proof rests on.
use Rattle.std.specs.Prelude.{ℕ, List, Contains, ◌↔◌}
use Rattle.rdf_terms.specs.Laws.{TextsAreDistinct}
use Rattle.rdf_terms.specs.declared.terms.Term.{Term}
use Rattle.rdf_terms.specs.declared.terms.Triple.{Triple}
use Rattle.schema_tree.specs.declared.schema.Answer.{Answer}
use Rattle.schema_tree.specs.declared.schema.Pair.{Pair}
use Rattle.schema_tree.specs.declared.schema.Schema.{Schema}
use Rattle.schema_tree.specs.declared.verdicts.Verdict.{Verdict}
use Rattle.schema_tree.specs.Edges.{IsStratum}
use Rattle.schema_tree.specs.Laws.{PathsAreShort, StrataAreStratified, StratifiedHasNoCycle, SureFollowsAnswers}
use Rattle.schema_tree.specs.Loaded.{IsLoaded}
use Rattle.schema_tree.specs.Needs.{HoldNeeds, HoldRoots}
use Rattle.schema_tree.specs.Removal.{IsRefined}
use Rattle.schema_tree.specs.Sure.{Known, PairIs}
use Rattle.shape_map.specs.declared.resolve.Association.{Association}
use Rattle.typing_answers.specs.Replies.{AreReplies, AreSureAnswers}

-- where a view answers as refinement over pairs that have all that associations reach, the sure answers are the true ones
abbrev pub SureAnswersAreTrue : Type 0
SureAnswersAreTrue =
    (s : Schema) (terms : List Term) (g : List Triple) (f : List ℕ) (pairs : List Pair) (budget : ℕ) (verdicts view : Known) (asked : List Association) (answers : List Answer) →
    IsLoaded s → IsStratum s f → ((a : Association) → Contains asked a → HoldRoots s pairs a.node a.expr) → HoldNeeds s g pairs → IsRefined s terms g f pairs budget verdicts →
    ((p : Pair) (v : Verdict) → PairIs view p v ↔ PairIs verdicts p v) → AreSureAnswers s terms view asked answers → AreReplies s terms verdicts g budget asked answers

-- the laws that tie a stored proof to the verdicts, each claimed by a function of a crate below
pub record AreLaws : Type 0 where
  pub texts : TextsAreDistinct
  pub sure : SureFollowsAnswers
  pub stratified : StrataAreStratified
  pub no_cycle : StratifiedHasNoCycle
  pub short : PathsAreShort
