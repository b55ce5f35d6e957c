-- The answers to associations by the verdicts of refinement (ShapeMap Structure and Language, section 4; own: those that are left out).
use Rattle.std.specs.Prelude.{ℕ, List, [], ◌∷◌, ◌≡◌}
use Rattle.rdf_terms.specs.declared.terms.Term.{Term}
use Rattle.rdf_terms.specs.declared.terms.Triple.{Triple}
use Rattle.schema_tree.specs.declared.schema.Answer.{Answer}
use Rattle.schema_tree.specs.declared.schema.Schema.{Schema}
use Rattle.schema_tree.specs.declared.verdicts.Verdict.TheVariants.{Unknown}
use Rattle.schema_tree.specs.Needs.{ReachesWide}
use Rattle.schema_tree.specs.Sure.{IsSure, Known}
use Rattle.proof_file.specs.Accepts.{verdict_of}
use Rattle.shape_map.specs.Answers.{IsAnswerTo}
use Rattle.shape_map.specs.declared.resolve.Association.{Association}

-- some associations are left out, and each other one has its answer, in their order
pub data AreGiven (Left : Association → Type 0) (Given : Association → Answer → Type 0) : List Association → List Answer → Type 0 where
  none : AreGiven Left Given [] []
  left : {a : Association} {asked : List Association} {answers : List Answer} → Left a → AreGiven Left Given asked answers → AreGiven Left Given (a ∷ asked) answers
  given : {a : Association} {x : Answer} {asked : List Association} {answers : List Answer} → Given a x → AreGiven Left Given asked answers → AreGiven Left Given (a ∷ asked) (x ∷ answers)

module _ (s : Schema) (terms : List Term) (verdicts : Known) where
  -- the verdict on the association's expression is Unknown
  abbrev pub IsUnsure : Association → Type 0
  IsUnsure a = IsSure s terms verdicts a.node a.expr Unknown

  -- the answer is about the association's node and target, and it is the verdict on the expression
  pub record IsSureAnswer (a : Association) (x : Answer) : Type 0 where
    pub node : x.node ≡ a.node
    pub target : x.target ≡ a.target
    pub sure : IsSure s terms verdicts a.node a.expr (verdict_of x.holds)

  -- the answers by the verdicts alone
  abbrev pub AreSureAnswers : List Association → List Answer → Type 0
  AreSureAnswers asked answers = AreGiven IsUnsure IsSureAnswer asked answers

  module _ (g : List Triple) (budget : ℕ) where
    -- an association that is left out: the verdict on its expression is Unknown, and it reaches a pair whose Width is above the budget
    pub record IsLeftOut (a : Association) : Type 0 where
      pub unsure : IsUnsure a
      pub wide : ReachesWide s terms g budget a.node a.expr

    -- the answer is sure and true: it says whether the complete typing satisfies the association's expression at its node
    -- (ShEx 2.1, section 5.2)
    pub record IsTrueAnswer (a : Association) (x : Answer) : Type 0 where
      pub sure : IsSure s terms verdicts a.node a.expr (verdict_of x.holds)
      pub answer : IsAnswerTo s terms g a x

    -- the true answers: those associations are left out on whose expressions the verdict is Unknown
    abbrev pub AreReplies : List Association → List Answer → Type 0
    AreReplies asked answers = AreGiven IsLeftOut IsTrueAnswer asked answers
