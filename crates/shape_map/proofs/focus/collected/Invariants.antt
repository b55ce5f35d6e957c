use Rattle.std.proofs.Common.{◌≡◌, ◌++◌, map, filter, drop}
use Rattle.rdf_terms.specs.Graphs.{same_id}
use Rattle.shape_map.specs.Selection.{at_focus}
use Rattle.shape_map.proofs.focus.collected.Given as goal

abbrev pub invariant-loop-triple : goal.invariant-loop-triple
invariant-loop-triple l = map (at_focus l.focus) (filter (λ t. same_id t.p l.predicate) l.triples) ≡ l.nodes.items ++ map (at_focus l.focus)
    (filter (λ t. same_id t.p l.predicate) (drop l.triple-index l.triples))
