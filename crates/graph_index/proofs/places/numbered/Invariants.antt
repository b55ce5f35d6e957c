use Rattle.graph_index.proofs.Numbered.{Written}
use Rattle.graph_index.proofs.places.numbered.Given as goal

abbrev pub invariant-loop-i : goal.invariant-loop-i
invariant-loop-i l = Written l.len l.ids l.i l.places.items
