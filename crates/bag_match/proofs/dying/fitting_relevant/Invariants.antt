use Rattle.std.proofs.Common.{◌≡◌, ◌≤◌, ◌+◌, drop}
use Rattle.schema_tree.specs.States.{count_fits}
use Rattle.bag_match.proofs.dying.fitting_relevant.Given as goal

abbrev pub invariant-loop-i : goal.invariant-loop-i
invariant-loop-i l =
    record {
      left : l.count + count_fits l.o l.node (drop l.i l.triples) ≡ count_fits l.o l.node l.triples;
      most : l.count ≤ l.i;
    }
