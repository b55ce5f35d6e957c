use Rattle.std.proofs.Common.{◌≡◌, ◌++◌, drop}
use Rattle.std.specs.Prelude.{All}
use Rattle.std.specs.List.{flat_map}
use Rattle.shape_map.specs.Selection.{written}
use Rattle.rdf_terms.specs.Laws.{IsTerm}
use Rattle.shape_map.proofs.nodes.written_nodes.Given as goal

abbrev pub invariant-loop-item : goal.invariant-loop-item
invariant-loop-item l = (flat_map (λ i. written i.selector) l.items ≡ l.nodes.items ++ flat_map (λ i. written i.selector) (drop l.item-index l.items)) × All IsTerm l.nodes.items
