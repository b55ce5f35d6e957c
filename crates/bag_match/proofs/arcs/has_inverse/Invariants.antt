use Rattle.std.proofs.Common.{◌≡◌, drop}
use Rattle.std.specs.List.{list_any}
use Rattle.bag_match.proofs.arcs.has_inverse.Given as goal

abbrev pub invariant-loop-o : goal.invariant-loop-o
invariant-loop-o l = list_any (λ o. o.inverse) l.occs ≡ list_any (λ o. o.inverse) (drop l.o-index l.occs)
