use Rattle.std.proofs.Common.{drop}
use Rattle.std.specs.List.{AllByRecursion}
use Rattle.std.specs.Option.{option_copied}
use Rattle.std.specs.Prelude.{◌↔◌}
use Rattle.std.specs.Str.{chars}
use Rattle.node_constraint.specs.Held.{SatPlain}
use Rattle.node_constraint.proofs.constraint.plain_facets_hold.Given as goal

abbrev pub invariant-loop-facet : goal.invariant-loop-facet
invariant-loop-facet l =
    AllByRecursion (λ f. SatPlain f (chars l.text) (option_copied l.fn.decimal)) l.facets
    ↔ AllByRecursion (λ f. SatPlain f (chars l.text) (option_copied l.fn.decimal)) (drop l.facet-index l.facets)
