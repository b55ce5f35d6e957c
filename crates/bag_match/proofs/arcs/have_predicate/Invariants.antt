use Rattle.std.proofs.Common.{◌≡◌, drop}
use Rattle.std.specs.List.{list_any}
use Rattle.rdf_terms.specs.Graphs.{same_id}
use Rattle.bag_match.proofs.arcs.have_predicate.Given as goal

abbrev pub invariant-loop-o : goal.invariant-loop-o
invariant-loop-o l = list_any (λ o. same_id o.predicate l.predicate) l.occs ≡ list_any (λ o. same_id o.predicate l.predicate) (drop l.o-index l.occs)
