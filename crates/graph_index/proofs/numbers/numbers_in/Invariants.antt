use Rattle.graph_index.proofs.Noted.{Gathered}
use Rattle.graph_index.proofs.numbers.numbers_in.Given as goal

abbrev pub invariant-loop-triple : goal.invariant-loop-triple
invariant-loop-triple l = Gathered l.len l.triples l.triple-index l.marks.items l.ids.items
