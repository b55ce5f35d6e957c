-- What an explanation of associations says (ShapeMap Structure and Language, section 4; own: the blocks).
use Rattle.std.specs.Prelude.{Bool, true, List, Option, Some, None, ⊤}
use Rattle.std.specs.List.{AllByRecursion, AllZip}
use Rattle.lists.specs.Distinct.{AreDistinct}
use Rattle.rdf_terms.specs.declared.terms.Term.{Term}
use Rattle.rdf_terms.specs.declared.terms.Triple.{Triple}
use Rattle.schema_tree.specs.declared.schema.Schema.{Schema}
use Rattle.schema_tree.specs.declared.verdicts.Verdict.{Verdict}
use Rattle.schema_tree.specs.declared.verdicts.Verdict.TheVariants.{No}
use Rattle.schema_tree.specs.Sure.{IsSure, Known}
use Rattle.shape_map.specs.declared.resolve.Association.{Association}
use Rattle.explanations.specs.declared.explanation.Explanation.{Explanation}
use Rattle.explanations.specs.declared.explanation.Told.{Told}
use Rattle.explanations.specs.declared.explanation.Why.{Why}
use Rattle.explanations.specs.declared.subject.Subject.{Subject}
use Rattle.explanations.specs.Blocks.{IsBlock, IsWhy}
use Rattle.explanations.specs.Mentions.{AreNumbered, blocks_of}
use Rattle.explanations.specs.Numbers.{Fails}

-- an association whose node is asked to satisfy the expression and does not has a reason, and no other has one
abbrev pub IsAskedWhy : (Why → Type 0) → Bool → Verdict → Option Why → Type 0
IsAskedWhy P true No (Some why) = P why
IsAskedWhy P true No None = ⊥
IsAskedWhy P want v (Some why) = ⊥
IsAskedWhy P want v None = ⊤

-- view is what is known of pairs
module _ (s : Schema) (terms : List Term) (view : Known) where
  -- the verdict is that on the association's expression, and where the association is not as asked, this is why
  pub record IsTold (all : List Subject) (a : Association) (t : Told) : Type 0 where
    pub verdict : IsSure s terms view a.node a.expr t.verdict
    pub why : IsAskedWhy (IsWhy s terms view all a.node a.expr) a.want t.verdict t.why

  -- each association is told; each subject fails, and has one block, which tells why; and there are just the blocks that are mentioned,
  -- each with the association where it is mentioned first
  pub record IsExplanation (g : List Triple) (asked : List Association) (x : Explanation) : Type 0 where
    pub subjects : List Subject
    pub once : AreDistinct subjects
    pub fail : AllByRecursion (Fails s terms view) subjects
    pub told : AllZip (IsTold subjects) asked x.answers
    pub blocks : AllZip (IsBlock s terms view subjects g) subjects (blocks_of x)
    pub numbered : AreNumbered 0 x.answers
