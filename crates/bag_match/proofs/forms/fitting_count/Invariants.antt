use Rattle.std.proofs.Common.{◌≡◌, ◌≤◌, ◌+◌, drop}
use Rattle.std.specs.Prelude.{count_by}
use Rattle.schema_tree.specs.Matches.{fits}
use Rattle.bag_match.proofs.forms.fitting_count.Given as goal

abbrev pub invariant-loop-o : goal.invariant-loop-o
invariant-loop-o l =
    record {
      left : l.count + count_by (λ o. fits o l.node l.triple) (drop l.o-index l.occs) ≡ count_by (λ o. fits o l.node l.triple) l.occs;
      most : l.count ≤ l.o-index;
    }
