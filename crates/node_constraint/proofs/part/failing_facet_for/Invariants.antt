use Rattle.std.specs.Option.{option_copied}
use Rattle.std.specs.Str.{chars}
use Rattle.node_constraint.specs.Facets.{SatFacet}
use Rattle.node_constraint.proofs.Failing.{AreTried}
use Rattle.node_constraint.proofs.part.failing_facet_for.Given as goal

abbrev pub invariant-loop-place : goal.invariant-loop-place
invariant-loop-place l = AreTried (λ f. SatFacet f (chars l.text) (option_copied l.fn.decimal)) l.facets l.place l.unread
