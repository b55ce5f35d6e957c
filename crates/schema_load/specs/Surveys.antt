-- What is known of parts that meet the requirements, and what is made of them.
use Rattle.std.specs.Prelude.{ℕ, ◌≡◌, List, length}
use Rattle.std.specs.List.{AllZip}
use Rattle.rdf_terms.specs.declared.terms.Term.{Term}
use Rattle.schema_tree.specs.declared.schema.ExprId.{ExprId}
use Rattle.schema_load.specs.declared.building.Numbering.{Numbering}
use Rattle.schema_load.specs.declared.building.Outline.{Outline}
use Rattle.schema_load.specs.declared.part.Part.{Part}
use Rattle.schema_load.specs.declared.survey.Survey.{Survey}
use Rattle.schema_load.specs.Building.{AreEntryNumbers, AreReferred, IsStartIn, labels_in}
use Rattle.schema_load.specs.Parts.{AreWhole, shape_places}
use Rattle.schema_load.specs.Requirements.{MeetsRequirements}
use Rattle.schema_load.specs.Shapes.{CanUnfold}
use Rattle.schema_load.specs.Stands.{IsShapeAt, entry_places}
use Rattle.schema_load.specs.Steps.{AreDepths, AreTargets, HasAll, HoldTriples, IsSorted}

-- the survey is that of the parts, which meet the requirements
pub record IsSurveyOf (parts : List Part) (s : Survey) : Type 0 where
  pub meets : MeetsRequirements parts
  pub whole : AreWhole parts
  pub triples : HoldTriples parts
  pub targets : AreTargets parts s.targets.items
  pub sorted : IsSorted parts s.targets.items s.order.items
  pub all : HasAll parts s.order.items
  pub depths : AreDepths parts s.depths.items
  pub can : CanUnfold parts

-- the entries in their order, and the number of the expression at each place
pub record IsNumbering (parts : List Part) (depths : List ℕ) (n : Numbering) : Type 0 where
  pub entries : n.entries.items ≡ entry_places parts depths 256
  pub size : length n.numbers.items ≡ length parts
  pub numbers : AreEntryNumbers n.entries.items n.numbers.items
  pub referred : AreReferred parts n.numbers.items

-- the Shapes, the labels and the start are those of the parts
pub record IsOutline (terms : List Term) (parts : List Part) (number : ℕ → ExprId) (o : Outline) : Type 0 where
  pub shapes : AllZip (IsShapeAt terms parts number) (shape_places parts) o.shapes.items
  pub labels : o.labels ≡ labels_in parts number
  pub start : IsStartIn parts number o.start
