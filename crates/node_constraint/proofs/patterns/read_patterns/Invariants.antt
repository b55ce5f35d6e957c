use Rattle.std.proofs.Common.{take}
use Rattle.node_constraint.specs.Held.{AreReadFrom}
use Rattle.node_constraint.specs.Making.{patterns_in}
use Rattle.node_constraint.proofs.patterns.read_patterns.Given as goal

abbrev pub invariant-loop-facet : goal.invariant-loop-facet
invariant-loop-facet l = AreReadFrom (patterns_in (take l.facet-index l.facets)) l.patterns.items
