-- The answers to associations (ShapeMap Structure and Language, section 4).
use Rattle.std.specs.Prelude.{List, ◌≡◌, ◌<◌, length}
use Rattle.rdf_terms.specs.declared.terms.Term.{Term}
use Rattle.rdf_terms.specs.declared.terms.Triple.{Triple}
use Rattle.schema_tree.specs.declared.schema.Answer.{Answer}
use Rattle.schema_tree.specs.declared.schema.Schema.{Schema}
use Rattle.schema_tree.specs.Loaded.{IsTarget}
use Rattle.schema_tree.specs.Truths.{IsTruth}
use Rattle.shape_map.specs.declared.resolve.Association.{Association}

-- the node of an association is of the table, and its target is declared, with its expression
pub record IsAsked (s : Schema) (terms : List Term) (a : Association) : Type 0 where
  pub node : a.node.0 < length terms
  pub is_target : IsTarget s a.target a.expr

-- the answer to an association: its node, its target, and whether the complete typing satisfies its expression there
pub record IsAnswerTo (s : Schema) (terms : List Term) (g : List Triple) (a : Association) (x : Answer) : Type 0 where
  pub node : x.node ≡ a.node
  pub target : x.target ≡ a.target
  pub truth : IsTruth s terms g a.node a.expr x.holds
