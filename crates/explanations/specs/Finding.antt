-- How an explanation is made (own).
use Rattle.std.specs.Prelude.{ℕ, List, length, ◌≡◌, Option, Some, slice_get, ⊤}
use Rattle.std.specs.List.{AllByRecursion, AllZip}
use Rattle.rdf_terms.specs.declared.terms.Term.{Term}
use Rattle.rdf_terms.specs.declared.terms.Triple.{Triple}
use Rattle.schema_tree.specs.declared.schema.Expr.{Expr}
use Rattle.schema_tree.specs.declared.schema.Expr.TheVariants.{Node}
use Rattle.schema_tree.specs.declared.schema.ExprId.{ExprId}
use Rattle.schema_tree.specs.declared.schema.Occurrence.{Occurrence}
use Rattle.schema_tree.specs.declared.schema.Schema.{Schema}
use Rattle.schema_tree.specs.Matches.{other_end}
use Rattle.schema_tree.specs.Sure.{Known}
use Rattle.shape_map.specs.declared.resolve.Association.{Association}
use Rattle.explanations.specs.declared.explanation.Told.{Told}
use Rattle.explanations.specs.declared.explanation.Why.{Why}
use Rattle.explanations.specs.declared.explanation.Why.TheVariants.{Part, See}
use Rattle.explanations.specs.declared.subject.Subject.{Subject}
use Rattle.explanations.specs.Blocks.{IsBlock}
use Rattle.explanations.specs.Explanations.{IsTold}
use Rattle.explanations.specs.Mentions.{AreNumbered, blocks_in}
use Rattle.explanations.specs.Numbers.{Fails, FailsAt, numbered}

-- it is the number of the subject
abbrev pub IsSeen : List Subject → Subject → Why → Type 0
IsSeen all subject (Part part) = ⊥
IsSeen all subject (See k) = numbered all k ≡ Some subject

-- the entry is a node constraint
abbrev pub IsConstraint : Option Expr → Type 0
IsConstraint (Some (Node c)) = ⊤
IsConstraint x = ⊥

-- view is what is known of pairs
module _ (s : Schema) (terms : List Term) (view : Known) where
  -- the constraint of this number has a value, which is not satisfied at the triple's other end
  pub record IsRefused (occs : List Occurrence) (t : Triple) (i : ℕ) : Type 0 where
    pub occ : Occurrence
    pub at : slice_get occs i ≡ Some occ
    pub expr : ExprId
    pub value : occ.value ≡ Some expr
    pub fails : FailsAt s terms view (other_end occ.inverse t) expr

  -- the associations are told, and the subjects that are seen fail and have their blocks
  pub record AreTold (g : List Triple) (seen : List Subject) (asked : List Association) (answers : List Told) : Type 0 where
    pub fail : AllByRecursion (Fails s terms view) seen
    pub told : AllZip (IsTold s terms view seen) asked answers
    pub blocks : AllZip (IsBlock s terms view seen g) seen (blocks_in answers)
    pub numbered : AreNumbered 0 answers
    pub count : length (blocks_in answers) ≡ length seen
