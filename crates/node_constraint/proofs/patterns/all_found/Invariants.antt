use Rattle.std.proofs.Common.{drop}
use Rattle.std.specs.List.{AllByRecursion}
use Rattle.std.specs.Prelude.{◌↔◌}
use Rattle.std.specs.Str.{chars}
use Rattle.node_constraint.specs.Held.{IsFoundIn}
use Rattle.node_constraint.proofs.patterns.all_found.Given as goal

abbrev pub invariant-loop-pattern : goal.invariant-loop-pattern
invariant-loop-pattern l =
    AllByRecursion (IsFoundIn (chars l.text)) l.patterns ↔ AllByRecursion (IsFoundIn (chars l.text)) (drop l.pattern-index l.patterns)
