use Rattle.std.proofs.Common.{drop}
use Rattle.bag_match.proofs.Left.{ArePassed}
use Rattle.bag_match.proofs.dying.pass_next.Given as goal

abbrev pub invariant-loop-i : goal.invariant-loop-i
invariant-loop-i l = ArePassed l.occs l.node (drop l.done l.triples) l.i l.left.items
