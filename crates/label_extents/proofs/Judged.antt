-- What the verdict on a node with an expression says of the complete typing.
use Rattle.std.proofs.Common.{ℕ, List, [], ◌∷◌, refl, subst, sym, true≢false}
use Rattle.std.specs.Prelude.{◌↔◌, true, false, Contains}
use Rattle.lists.proofs.Members.{in_one}
use Rattle.rdf_terms.specs.declared.terms.Term.{Term}
use Rattle.rdf_terms.specs.declared.terms.TermId.{TermId}
use Rattle.rdf_terms.specs.declared.terms.Triple.{Triple}
use Rattle.schema_tree.specs.declared.schema.Answer.{Answer}
use Rattle.schema_tree.specs.declared.schema.ExprId.{ExprId}
use Rattle.schema_tree.specs.declared.schema.Pair.{Pair}
use Rattle.schema_tree.specs.declared.schema.Schema.{Schema}
use Rattle.schema_tree.specs.declared.schema.Target.TheVariants.{Start}
use Rattle.schema_tree.specs.declared.verdicts.Verdict.{Verdict}
use Rattle.schema_tree.specs.declared.verdicts.Verdict.TheVariants.{Yes, No, Unknown}
use Rattle.schema_tree.specs.Edges.{IsStratum}
use Rattle.schema_tree.specs.Loaded.{IsLoaded}
use Rattle.schema_tree.specs.Needs.{HoldNeeds, HoldRoots, ReachesWide}
use Rattle.schema_tree.specs.Removal.{IsRefined}
use Rattle.schema_tree.specs.Sure.{IsSure, Known, PairIs}
use Rattle.schema_tree.specs.Truths.{IsTruth}
use Rattle.schema_tree.specs.Typings.{HoldsEnds}
use Rattle.shape_map.specs.declared.resolve.Association.{Association}
use Rattle.typing_answers.specs.Laws.{SureAnswersAreTrue}
use Rattle.typing_answers.specs.Replies.{AreReplies, AreSureAnswers, IsLeftOut, IsTrueAnswer, given, left, none}

-- an expression that is satisfied at a node is not one that is not
pub one_truth : (s : Schema) (terms : List Term) (g : List Triple) (U : List TermId) (n : TermId) (e : ExprId) → HoldsEnds U g → Contains U n →
    IsTruth s terms g n e true → ¬ IsTruth s terms g n e false
one_truth s terms g U n e ends in_u holds fails =
    let (f, T, typing) = holds.exists U in
    true≢false (sym ((fails.exact f U T ends in_u typing).1 ((holds.exact f U T ends in_u typing).0 refl)))

-- verdicts of refinement over pairs that hold all that they need, and a view that answers alike
pub record AreVerdicts (s : Schema) (terms : List Term) (g : List Triple) (f : List ℕ) (pairs : List Pair) (budget : ℕ) (verdicts view : Known) : Type 0 where
  pub loaded : IsLoaded s
  pub strata : IsStratum s f
  pub needs : HoldNeeds s g pairs
  pub refined : IsRefined s terms g f pairs budget verdicts
  pub alike : (p : Pair) (v : Verdict) → PairIs view p v ↔ PairIs verdicts p v

module _ (s : Schema) (terms : List Term) (g : List Triple) (f : List ℕ) (pairs : List Pair) (budget : ℕ) (verdicts view : Known) (law : SureAnswersAreTrue)
    (are : AreVerdicts s terms g f pairs budget verdicts view) where
  module _ (n : TermId) (e : ExprId) (roots : HoldRoots s pairs n e) where
    -- what is asked of the node, under any target
    abbrev asked : Association
    asked = record { node = n; target = Start; expr = e; want = true }

    replies : (answers : List Answer) → AreSureAnswers s terms view (asked ∷ []) answers → AreReplies s terms verdicts g budget (asked ∷ []) answers
    replies answers sure =
        law s terms g f pairs budget verdicts view (asked ∷ []) answers are.loaded are.strata (λ a c. subst (λ (b : Association). HoldRoots s pairs b.node b.expr) (in_one asked a c) roots) are.needs are.refined are.alike sure

    only_answer : (x : Answer) → AreReplies s terms verdicts g budget (asked ∷ []) (x ∷ []) → IsTrueAnswer s terms verdicts g budget asked x
    only_answer x (given is more) = is
    only_answer x (left out more) = elim more [ ]

    only_left : AreReplies s terms verdicts g budget (asked ∷ []) [] → IsLeftOut s terms verdicts g budget asked
    only_left (left out more) = out

    pub holds : IsSure s terms view n e Yes → IsSure s terms verdicts n e Yes × IsTruth s terms g n e true
    holds h =
        let x : Answer = record { node = n; target = Start; holds = true } in
        let is : IsTrueAnswer s terms verdicts g budget asked x = only_answer x (replies (x ∷ []) (given (record { node = refl; target = refl; sure = h }) none)) in
        (is.sure, is.answer.truth)

    pub fails : IsSure s terms view n e No → IsSure s terms verdicts n e No × IsTruth s terms g n e false
    fails h =
        let x : Answer = record { node = n; target = Start; holds = false } in
        let is : IsTrueAnswer s terms verdicts g budget asked x = only_answer x (replies (x ∷ []) (given (record { node = refl; target = refl; sure = h }) none)) in
        (is.sure, is.answer.truth)

    pub left_wide : IsSure s terms view n e Unknown → IsSure s terms verdicts n e Unknown × ReachesWide s terms g budget n e
    left_wide h = let out = only_left (replies [] (left h none)) in (out.unsure, out.wide)
