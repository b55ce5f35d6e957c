use Rattle.std.proofs.Common.{drop}
use Rattle.std.specs.Prelude.{◌↔◌}
use Rattle.schema_tree.specs.Places.{AreAllowed}
use Rattle.bag_match.proofs.places.are_allowed.Given as goal

abbrev pub invariant-loop-i : goal.invariant-loop-i
invariant-loop-i g l =
    AreAllowed (g.J.Judge.hold l.judge) (g.J.Judge.fail l.judge) l.shape l.node l.triples l.places
    ↔ AreAllowed (g.J.Judge.hold l.judge) (g.J.Judge.fail l.judge) l.shape l.node (drop l.i l.triples) (drop l.i l.places)
