use Rattle.std.proofs.Common.{◌≡◌, ◌≤◌, ◌+◌, drop}
use Rattle.schema_tree.specs.States.{count_fits}
use Rattle.bag_match.proofs.Filled.{inward}
use Rattle.bag_match.proofs.dying.fitting_inward.Given as goal

abbrev pub invariant-loop-triple : goal.invariant-loop-triple
invariant-loop-triple l =
    record {
      left : l.count + count_fits l.o l.node (inward (drop l.triple-index l.triples)) ≡ count_fits l.o l.node (inward l.triples);
      most : l.count ≤ l.triple-index;
    }
