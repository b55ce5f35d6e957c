-- Laws of node constraints.
use Rattle.std.specs.Prelude.{◌≢◌, ◌⊎◌}
use Rattle.rdf_terms.specs.declared.terms.Term.{Term}
use Rattle.node_constraint.specs.Constraint.{Constraint}
use Rattle.node_constraint.specs.Making.{Causes, IsSound}
use Rattle.node_constraint.specs.Parts.{FailsPart}
use Rattle.node_constraint.specs.SatNode.{SatNode}
use Rattle.node_constraint.specs.declared.part.ConstraintPart.{ConstraintPart}
use Rattle.node_constraint.specs.declared.make_error.MakeError.{MakeError}
use Rattle.node_constraint.specs.declared.make_error.MakeError.TheVariants as Errors

-- a constraint holds for a term or does not
abbrev pub NodesAreDecided : Type 0
NodesAreDecided = (c : Constraint) (term : Term) → SatNode c term ⊎ (¬ SatNode c term)

-- what a constraint would ask for is sound, or it is refused for a cause that is no want of memory
abbrev pub RefusalsAreDecided : Type 0
RefusalsAreDecided = (c : Constraint) → IsSound c.datatype c.facets ⊎ ((e : MakeError) × Causes c.datatype c.facets e × (e ≢ Errors.Memory))

-- a term that fails a part of a constraint does not satisfy it
abbrev pub FailedPartIsEnough : Type 0
FailedPartIsEnough = (c : Constraint) (term : Term) (part : ConstraintPart) → FailsPart c term part → ¬ SatNode c term
